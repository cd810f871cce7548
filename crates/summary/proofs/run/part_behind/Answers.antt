-- `summary::run::part_behind` meets its contract: cells that only add to the sum, and those behind them. Assumes nothing.
use Rattle.std.specs.Prelude.{List, ℕ, ◌+◌, ◌-◌, ◌≤◌, ℤ, ◌+ℤ◌, Float}
use Rattle.std.proofs.Common.{SFits, sym, subst, arith}
use borrow.Author.Rules.{rules}
use mir.Facts.{to_z-of_z}
use mir.Syntax.{w64}
use Rattle.summary.specs.declared.cell.Summary.{Summary}
use Rattle.summary.specs.declared.run.Part.{Part}
use Rattle.summary.specs.Ahead.{run_from, Ahead}
use Rattle.summary.specs.Parts.{Went}
use Rattle.summary.proofs.Meeting.{ahead_some, Going, going_part, going_on, going_went}
use Rattle.summary.proofs.run.part_behind.Goals as goal

module _ {cells : List Float} {s : Summary} {o t : ℤ} (n : ℕ) {q : Part} (a : Ahead cells s (run_from (o +ℤ t) t n)) (h : q.met ≤ n) (w : Went cells s o t q.met q) where
  quiet_met : Going cells t n s o q.met q.summary q.last
  quiet_met = going_part a h w

  rest_ahead : (m : ℕ) → m ≤ n - q.met → Ahead cells q.summary (run_from (q.last +ℤ t) t m)
  rest_ahead m b = ahead_some (q.last +ℤ t) t m (n - q.met) b quiet_met.runs.ahead

  rest_met : {m : ℕ} {p : Part} → m ≤ n - q.met → Went cells q.summary q.last t m p → Went cells s o t (q.met + p.met) (record { summary = p.summary; met = q.met + p.met; last = p.last })
  rest_met {m} {p} b v =
      subst (λ (k : ℕ). Went cells s o t (q.met + k) (record { summary = p.summary; met = q.met + k; last = p.last })) (sym v.many)
      (going_went (going_on quiet_met m (omega (arith, b, h)) v.ends v.makes))

pub cells_behind-other-requires : goal.cells_behind-other-requires
cells_behind-other-requires c =
    let q = c.quiet_behind-quiet.result in
    let w = rw (to_z-of_z {w = w64} c.ranges.last, to_z-of_z {w = w64} c.ranges.stride) at c.quiet_behind-quiet.ensures.1 in
    let f : SFits w64 q.last = search rules in
    rw (to_z-of_z {w = w64} f, to_z-of_z {w = w64} c.ranges.stride)
    (rest_ahead c.args.left c.requires.ahead.0 c.quiet_behind-quiet.ensures.0 w c.min.result (omega (arith, c.min.ensures)))

pub returns : goal.returns
returns c =
    let q = c.quiet_behind-quiet.result in
    let w = rw (to_z-of_z {w = w64} c.ranges.last, to_z-of_z {w = w64} c.ranges.stride) at c.quiet_behind-quiet.ensures.1 in
    let f : SFits w64 q.last = search rules in
    let g : SFits w64 c.cells_behind-other.result.last = search rules in
    let v = rw (to_z-of_z {w = w64} f, to_z-of_z {w = w64} c.ranges.stride) at c.cells_behind-other.ensures in
    let most = c.quiet_behind-quiet.ensures.0 in (
      omega (arith, most, c.min.ensures, c.if-quiet-left.false, v.many, c.requires.some),
      omega (arith, most, c.min.ensures, v.many),
      rw (to_z-of_z {w = w64} g) (rest_met c.args.left c.requires.ahead.0 most w (omega (arith, c.min.ensures)) v),
    )
