-- `summary::run::cells_behind` meets its contract: the pairs are met, and an odd cell comes behind them. Assumes nothing.
use Rattle.std.specs.Prelude.{◌≡◌, true, List, ℕ, ◌+◌, ◌*◌, ◌/◌, ◌%◌, ◌^◌, ◌-◌, ◌≤◌, ◌<◌, ℤ, ◌+ℤ◌, Float, length}
use Rattle.std.proofs.Common.{SFits, subst, ap, ap₂, ◌∙◌, arith}
use borrow.Author.Rules.{rules}
use mir.Facts.{to_z-of_z}
use mir.Syntax.{w64}
use Rattle.span.specs.Span.{in_cells}
use Rattle.summary.specs.declared.cell.Summary.{Summary}
use Rattle.summary.specs.declared.run.Part.{Part}
use Rattle.summary.specs.Sums.{with_cell}
use Rattle.summary.specs.Visits.{cell_of}
use Rattle.summary.specs.Ahead.{run_from, Ahead}
use Rattle.summary.specs.Parts.{Went}
use Rattle.summary.proofs.Meeting.{in_fits, ahead_some, Going, going_part, going_next, going_went, running_in, running_room}
use Rattle.summary.proofs.run.cells_behind.Goals as goal

module _ {cells : List Float} {s : Summary} {o t : ℤ} (n : ℕ) {p : Part} (a : Ahead cells s (run_from (o +ℤ t) t n)) (w : Went cells s o t (n / 2 * 2) p) where
  pairs_met : Going cells t n s o (n / 2 * 2) p.summary p.last
  pairs_met = going_part a (omega arith) w

  module _ (odd : n % 2 ≡ 0 → ⊥) where
    one_left : n / 2 * 2 < n
    one_left = omega (arith, odd)

    odd_in : in_cells (length cells) (p.last +ℤ t) ≡ true
    odd_in = running_in pairs_met.runs one_left

    odd_room : (p.summary.count < 2 ^ 64 - 1) × (p.summary.nans ≤ p.summary.count)
    odd_room = running_room pairs_met.runs one_left

    odd_met : {o' : ℤ} → o' ≡ p.last +ℤ t → {s' : Summary} → s' ≡ with_cell p.summary (cell_of cells o') → Went cells s o t n (record { summary = s'; met = n; last = o' })
    odd_met {o'} at {s'} e =
        let all : n / 2 * 2 + 1 ≡ n = omega (arith, odd) in
        subst (λ (k : ℕ). Went cells s o t k (record { summary = s'; met = k; last = o' })) all (going_went (going_next pairs_met one_left at e))

pub pairs_behind-p-requires : goal.pairs_behind-p-requires
pairs_behind-p-requires c =
    let a = c.args in
    rw (to_z-of_z {w = w64} c.ranges.last, to_z-of_z {w = w64} c.ranges.stride)
    (ahead_some (a.last +ℤ a.stride) a.stride (a.n / 2 * 2) a.n (omega arith) c.requires)

pub moved-last-requires : goal.moved-last-requires
moved-last-requires c =
    let w = rw (to_z-of_z {w = w64} c.ranges.last, to_z-of_z {w = w64} c.ranges.stride) at c.pairs_behind-p.ensures in
    let f : SFits w64 c.pairs_behind-p.result.last = search rules in
    let many = length c.args.cells.now in
    let room : many * 8 < 2 ^ 63 = omega arith in
    rw (to_z-of_z {w = w64} f, to_z-of_z {w = w64} c.ranges.stride)
    (in_fits many (c.pairs_behind-p.result.last +ℤ c.args.stride) (omega (arith, room)) (odd_in c.args.n c.requires w c.if-n-eq0.false))

pub cell_at-x-requires : goal.cell_at-x-requires
cell_at-x-requires c =
    let w = rw (to_z-of_z {w = w64} c.ranges.last, to_z-of_z {w = w64} c.ranges.stride) at c.pairs_behind-p.ensures in
    let f : SFits w64 c.pairs_behind-p.result.last = search rules in
    rw (to_z-of_z {w = w64} (record { sfits = c.moved-last.type_inv }), c.moved-last.ensures, to_z-of_z {w = w64} f, to_z-of_z {w = w64} c.ranges.stride) (odd_in c.args.n c.requires w c.if-n-eq0.false)

pub with_cell-requires : goal.with_cell-requires
with_cell-requires c =
    let w = rw (to_z-of_z {w = w64} c.ranges.last, to_z-of_z {w = w64} c.ranges.stride) at c.pairs_behind-p.ensures in
    odd_room c.args.n c.requires w c.if-n-eq0.false

pub returns : goal.returns
returns c =
    let w = rw (to_z-of_z {w = w64} c.ranges.last, to_z-of_z {w = w64} c.ranges.stride) at c.pairs_behind-p.ensures in
    let f : SFits w64 c.pairs_behind-p.result.last = search rules in
    let at = to_z-of_z {w = w64} (record { sfits = c.moved-last.type_inv }) ∙ c.moved-last.ensures ∙ ap₂ ◌+ℤ◌ (to_z-of_z {w = w64} f) (to_z-of_z {w = w64} c.ranges.stride) in
    odd_met c.args.n c.requires w c.if-n-eq0.false at (c.with_cell.ensures ∙ ap (with_cell c.pairs_behind-p.result.summary) c.cell_at-x.ensures)
