-- `export::copy_accepted` meets its contract: where the cells lie without gaps, the move of bytes is the copy. Assumes nothing.
use mathlib.Core.Path.{◌≡◌, sym, ap, ap₂, ◌∙◌, subst}
use Prim.Native.Nat.{ℕ, ◌+◌, ◌*◌, ◌^◌, ◌≤◌, ◌<◌}
use native.Mathlib.Omega.{arith}
use lib.Dec.{T}
use lib.IntN.{ℤ, pos}
use lib.ListN.{length, get_or}
use lib.Signed.{non_neg}
use mir.Facts.{to_z-of_z}
use mir.Syntax.{w64}
use mir.Val.{SFits}
use borrow.Author.Rules.{rules}
use Rattle.cells.specs.Copy.{moved}
use Rattle.cells.proofs.Moving.{moved_slice}
use Rattle.cells.specs.Offsets.{place_at}
use Rattle.export.proofs.Plains.{out_sign, into_bytes, out-bytes}
use Rattle.export.proofs.Ways.{plain_done}
use Rattle.export.proofs.copy_accepted.Goals as goal
use Rattle.export.proofs.copy_accepted.Goals.{After-first_byte-s}

-- the cells' bytes lie in their buffers, from where the code reads that they begin
into_at : (c : After-first_byte-s) → let z = get_or c.args.asked.starts.now 0 (pos 0) in c.first_byte-d.result ≡ place_at c.in-Some.cells.width.bytes z
into_at c = c.first_byte-d.ensures ∙ ap (place_at c.in-Some.cells.width.bytes) (to_z-of_z {w = w64} (let f : SFits w64 (get_or c.args.asked.starts.now 0 (pos 0)) = search rules in f))

out_at : (c : After-first_byte-s) → let z = get_or c.args.asked.starts.now 1 (pos 0) in c.first_byte-s.result ≡ place_at c.in-Some.cells.width.bytes z
out_at c = c.first_byte-s.ensures ∙ ap (place_at c.in-Some.cells.width.bytes) (to_z-of_z {w = w64} (let f : SFits w64 (get_or c.args.asked.starts.now 1 (pos 0)) = search rules in f))

within : (c : After-first_byte-s) → let n = c.in-Some.cells.count * c.in-Some.cells.width.bytes in
    (c.first_byte-d.result + n ≤ length c.args.destination.now) × (c.first_byte-s.result + n ≤ length c.args.source.now)
within c =
    let n : ℕ = c.in-Some.cells.count * c.in-Some.cells.width.bytes in
    let p = c.in-Some.ensures in (
      subst (λ (x : ℕ). x + n ≤ length c.args.destination.now) (sym (into_at c)) (into_bytes p.1 p.0),
      subst (λ (x : ℕ). x + n ≤ length c.args.source.now) (sym (out_at c)) (out-bytes p.1 p.0),
    )

pub first_byte-s-requires : goal.first_byte-s-requires
first_byte-s-requires c =
    let p = c.in-Some.ensures in
    let b = out-bytes p.1 p.0 in
    let f = p.1.out_fits in
    subst (λ (z : ℤ). T (non_neg z) × (place_at c.in-Some.cells.width.bytes z < 2 ^ 63)) (sym (to_z-of_z {w = w64} (let f : SFits w64 (get_or c.args.asked.starts.now 1 (pos 0)) = search rules in f))) (out_sign p.1, omega (arith, b, f))

pub overflow_add-d : goal.overflow_add-d
overflow_add-d c = let w = within (goal.at.overflow_add-d c).After-first_byte-s in omega (arith, w.0, c.well_formed)

pub slice_bounds-move_bytes-end : goal.slice_bounds-move_bytes-end
slice_bounds-move_bytes-end c = let w = within (goal.at.slice_bounds-move_bytes-end c).After-first_byte-s in omega (arith, w.0)

pub overflow_add-s : goal.overflow_add-s
overflow_add-s c = let w = within (goal.at.overflow_add-s c).After-first_byte-s in omega (arith, w.1, c.well_formed)

pub slice_bounds-move_bytes-end-2 : goal.slice_bounds-move_bytes-end-2
slice_bounds-move_bytes-end-2 c = let w = within (goal.at.slice_bounds-move_bytes-end-2 c).After-first_byte-s in omega (arith, w.1)

pub returns : goal.returns
returns c =
    let k = (goal.at.returns c).After-first_byte-s in
    let a = c.args in
    let p = c.in-Some.ensures in
    let w = within k in
    let n : ℕ = c.in-Some.cells.count * c.in-Some.cells.width.bytes in
    plain_done a.asked.machine a.asked.layout.extents.now a.asked.sizes.now a.asked.layout.strides.now a.asked.starts.now a.destination.now a.source.now a.asked.served p.1 p.0 _
    (moved_slice a.destination.now c.first_byte-d.result a.source.now c.first_byte-s.result n w.0 w.1 c.move_bytes.new.to c.move_bytes.ensures
    ∙ ap₂ (λ (x y : ℕ). moved a.destination.now x a.source.now y n) (into_at k) (out_at k))
