-- The list of all indices has each index of the extents, and no other; so the list of their cells has the cell of each.
-- Assumes nothing.
use Rattle.std.specs.Prelude.{refl, List, [], ◌∷◌, map, ℕ, ◌+◌, ◌<◌, ℤ}
use Rattle.std.proofs.Common.{sym, subst, inl, inr, arith}
use Rattle.strided.specs.Base.{run}
use Rattle.strided.specs.Layout.{Within}
use Rattle.cells.specs.Copy.{pair, In}
use Rattle.cells.specs.Meaning.{to_eq, from_eq}
use Rattle.cells.specs.Patches.{map_each, map_only, over_each, over_only, run_in_lem, run-within}
use Rattle.cells.specs.Indexed.{Lists}
use Rattle.export.specs.Export.{indices, place_of, cell_of, cells_of}

pub index_each : (es x : List ℕ) → Within es x → In x (indices es)
index_each [] [] w = inl refl
index_each [] (k ∷ x) w = absurd w
index_each (e ∷ es) [] w = absurd w
index_each (e ∷ es) (k ∷ x) w =
    over_each (k ∷ x) (indices es) (λ v. map (λ k. k ∷ v) (run 0 e)) x (index_each es x w.1)
    (map_each (λ (k : ℕ). k ∷ x) (run 0 e) k (run_in_lem e 0 k (omega arith) (let h = w.0 in omega (arith, h))))

pub index_only : (es x : List ℕ) → In x (indices es) → Within es x
index_only [] x (inl e) = subst (Within []) (sym e) tt
index_only [] x (inr m) = absurd m
index_only (e ∷ es) x m =
    let o = over_only x (indices es) (λ v. map (λ k. k ∷ v) (run 0 e)) m in
    let r = map_only (λ (k : ℕ). k ∷ o.0) (run 0 e) x o.2 in
    let b : r.0 < 0 + e = (run-within e 0 r.0 r.1).1 in
    subst (Within (e ∷ es)) (sym r.2) ((let g : r.0 < e = omega (arith, b) in g), index_only es o.0 o.1)

-- THE CELLS OF ALL INDICES
pub cells-listed : (es sizes : List ℕ) (ss zs : List ℤ) → Lists (Within es) (place_of es sizes ss zs 0) (place_of es sizes ss zs 1) (cells_of es sizes ss zs)
cells-listed es sizes ss zs =
    record {
      each = λ x w. map_each (cell_of es sizes ss zs) (indices es) x (index_each es x w);
      only = λ d s m. (
          let r = map_only (cell_of es sizes ss zs) (indices es) (pair d s) m in
          (r.0, index_only es r.0 r.1, to_eq r.2, from_eq r.2));
    }
