-- `joining::layouts::put_strides` meets its contract. Assumes nothing.
use Rattle.std.proofs.Common.{List, ℤ, pos, ◌++◌, ◌-◌, ◌+◌, length, take, drop, ap, ◌∙◌, arith}
use Rattle.joining.proofs.Laying.{put_all}
use Rattle.joining.proofs.layouts.put_strides.Goals as goal

pub returns : goal.returns
returns c =
    let a = c.args in
    let out = a.out.now in
    let k = a.at + length a.row.now - a.at in
    ap (λ (r : List ℤ). take a.at out ++ (r ++ drop k (drop a.at out))) c.copy_from_slice.ensures.after
    ∙ put_all 512 (pos 0) out a.at a.row.now c.requires.out_value c.requires.row_bound (omega arith)
