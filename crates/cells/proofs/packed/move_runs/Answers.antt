-- `cells::packed::move_runs` meets its contract. Assumes nothing.
use mathlib.Core.Path.{◌≡◌, sym, ap₂, ◌∙◌}
use Prim.Native.Nat.{ℕ, ◌+◌, ◌-◌, ◌*◌, ◌≤◌, ◌<◌}
use native.Mathlib.Omega.{arith}
use lib.ListN.{length}
use borrow.Rule.Slice.PartMut.{put_mid}
use Rattle.cells.specs.Copy.{moved}
use Rattle.cells.specs.Patch.{place}
use Rattle.cells.proofs.Moving.{moved_slice}
use Rattle.cells.proofs.Running.{as_long, run_more}
use Rattle.cells.proofs.Patching.{patch_cell, patch_start}
use Rattle.cells.proofs.Packing.{begin, packed-run, run-from, run-bytes, run-place}
use Rattle.cells.proofs.packed.move_runs.Goals as goal

pub overflow_mul-bytes : goal.overflow_mul-bytes
overflow_mul-bytes c =
    let a = c.args in
    let h : begin a.patch.to 0 + a.patch.n0 * a.patch.width ≤ length a.destination.now = run-bytes _ _ a.patch.n0 a.patch.n1 a.patch.to c.requires.reach.to c.requires.packed.cells c.requires.packed.to 0 c.requires.packed.runs in
    omega (arith, h)

pub loop-j-init : goal.loop-j-init
loop-j-init c = (omega arith, patch_start _ _ _ _ _ _)

pub place_of-d-requires : goal.place_of-d-requires
place_of-d-requires c =
    let a = c.args in
    (patch_cell _ _ a.patch.n0 a.patch.n1 a.patch.to 0 c.loop-j.j c.requires.reach.to c.requires.packed.cells c.loop-j-test.true).reaches

pub place_of-s-requires : goal.place_of-s-requires
place_of-s-requires c =
    let a = c.args in
    (patch_cell _ _ a.patch.n0 a.patch.n1 a.patch.from 0 c.loop-j.j c.requires.reach.from c.requires.packed.cells c.loop-j-test.true).reaches

pub overflow_add-d : goal.overflow_add-d
overflow_add-d c =
    let a = c.args in
    let j : ℕ = c.loop-j.j in
    let below : j < a.patch.n1 = c.loop-j-test.true in
    let is : c.place_of-d.result ≡ begin a.patch.to j = c.place_of-d.ensures ∙ run-place _ _ a.patch.n0 a.patch.n1 a.patch.to c.requires.reach.to c.requires.packed.cells c.requires.packed.to j below in
    let within : begin a.patch.to j + a.patch.n0 * a.patch.width ≤ length a.destination.now = run-bytes _ _ a.patch.n0 a.patch.n1 a.patch.to c.requires.reach.to c.requires.packed.cells c.requires.packed.to j below in
    omega (arith, is, within, c.well_formed.0.1)

pub slice_bounds-move_bytes-end : goal.slice_bounds-move_bytes-end
slice_bounds-move_bytes-end c =
    let a = c.args in
    let j : ℕ = c.loop-j.j in
    let below : j < a.patch.n1 = c.loop-j-test.true in
    let is : c.place_of-d.result ≡ begin a.patch.to j = c.place_of-d.ensures ∙ run-place _ _ a.patch.n0 a.patch.n1 a.patch.to c.requires.reach.to c.requires.packed.cells c.requires.packed.to j below in
    let within : begin a.patch.to j + a.patch.n0 * a.patch.width ≤ length a.destination.now = run-bytes _ _ a.patch.n0 a.patch.n1 a.patch.to c.requires.reach.to c.requires.packed.cells c.requires.packed.to j below in
    let l = as_long _ _ _ _ c.loop-j.invariant.1 in
    omega (arith, is, within, l)

pub overflow_add-s : goal.overflow_add-s
overflow_add-s c =
    let a = c.args in
    let j : ℕ = c.loop-j.j in
    let below : j < a.patch.n1 = c.loop-j-test.true in
    let is : c.place_of-s.result ≡ begin a.patch.from j = c.place_of-s.ensures ∙ run-place _ _ a.patch.n0 a.patch.n1 a.patch.from c.requires.reach.from c.requires.packed.cells c.requires.packed.from j below in
    let within : begin a.patch.from j + a.patch.n0 * a.patch.width ≤ length a.source.now = run-bytes _ _ a.patch.n0 a.patch.n1 a.patch.from c.requires.reach.from c.requires.packed.cells c.requires.packed.from j below in
    omega (arith, is, within, c.well_formed.1.0.1)

pub slice_bounds-move_bytes-end-in-loop-j : goal.slice_bounds-move_bytes-end-in-loop-j
slice_bounds-move_bytes-end-in-loop-j c =
    let a = c.args in
    let j : ℕ = c.loop-j.j in
    let below : j < a.patch.n1 = c.loop-j-test.true in
    let is : c.place_of-s.result ≡ begin a.patch.from j = c.place_of-s.ensures ∙ run-place _ _ a.patch.n0 a.patch.n1 a.patch.from c.requires.reach.from c.requires.packed.cells c.requires.packed.from j below in
    let within : begin a.patch.from j + a.patch.n0 * a.patch.width ≤ length a.source.now = run-bytes _ _ a.patch.n0 a.patch.n1 a.patch.from c.requires.reach.from c.requires.packed.cells c.requires.packed.from j below in
    omega (arith, is, within)

pub loop-j-preserved : goal.loop-j-preserved
loop-j-preserved c =
    let j : ℕ = c.loop-j.j in
    let below : j < c.args.patch.n1 = c.loop-j-test.true in
    let to_is : c.place_of-d.result ≡ begin c.args.patch.to j = let a = c.args in
    let e : c.place_of-d.result ≡ place a.patch.to 0 j = c.place_of-d.ensures in
    e ∙ run-place _ _ a.patch.n0 a.patch.n1 a.patch.to c.requires.reach.to c.requires.packed.cells c.requires.packed.to j below in
    let from_is : c.place_of-s.result ≡ begin c.args.patch.from j = let a = c.args in
    let e : c.place_of-s.result ≡ place a.patch.from 0 j = c.place_of-s.ensures in
    e ∙ run-place _ _ a.patch.n0 a.patch.n1 a.patch.from c.requires.reach.from c.requires.packed.cells c.requires.packed.from j below in
    let a = c.args in
    let b : ℕ = a.patch.n0 * a.patch.width in
    let to-bytes : begin a.patch.to j + b ≤ length a.destination.now = run-bytes _ _ a.patch.n0 a.patch.n1 a.patch.to c.requires.reach.to c.requires.packed.cells c.requires.packed.to j below in
    let from_bytes : begin a.patch.from j + b ≤ length a.source.now = run-bytes _ _ a.patch.n0 a.patch.n1 a.patch.from c.requires.reach.from c.requires.packed.cells c.requires.packed.from j below in
    let l = as_long _ _ _ _ c.loop-j.invariant.1 in
    let f : put_mid c.place_of-d.result (c.place_of-d.result + b - c.place_of-d.result) c.loop-j.destination c.move_bytes.new.to ≡ moved c.loop-j.destination (begin a.patch.to j) a.source.now (begin a.patch.from j) b =
    moved_slice c.loop-j.destination c.place_of-d.result a.source.now c.place_of-s.result b (omega (arith, to_is, to-bytes, l)) (omega (arith, from_is, from_bytes)) c.move_bytes.new.to c.move_bytes.ensures
    ∙ ap₂ (λ (x y : ℕ). moved c.loop-j.destination x a.source.now y b) to_is from_is in
    let u = run-from _ _ a.patch.n0 a.patch.n1 a.patch.to c.requires.reach.to c.requires.packed.cells c.requires.packed.to j below in
    let v = run-from _ _ a.patch.n0 a.patch.n1 a.patch.from c.requires.reach.from c.requires.packed.cells c.requires.packed.from j below in (
      omega arith,
      run_more _ _ _ _ _ _ _ c.loop-j.invariant.1
          (f ∙ sym (packed-run a.patch.width a.patch.to a.patch.from c.loop-j.destination a.source.now c.requires.packed.to c.requires.packed.from j u v a.patch.n0)),
    )
