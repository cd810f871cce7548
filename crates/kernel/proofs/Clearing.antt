-- An array that is filled by halves. Assumes nothing.
use mathlib.Core.Path.{◌≡◌, ap, ap₂, subst, ◌∙◌}
use mathlib.Core.List.{List, [], ◌++◌}
use Prim.Native.Nat.{ℕ, ◌+◌}
use native.Mathlib.Omega.{arith}
use lib.ListN.{length, take, drop, replicate, length-replicate, length-drop, replicate-append-replicate, drop_of_length-le}
use lib.Seq.{length-take-le}
use Rattle.std.proofs.Math.Seq.{take-append_seam, drop-append_seam}
use Rattle.std.proofs.lemmas.List.{append-nil}

-- f fills the first n places of s, and then g the n others
pub halves : {A : Type 0} (z : A) (n : ℕ) (s f g : List A) → length s ≡ n + n → f ≡ replicate (length (take n s)) z
    → g ≡ replicate (length (take n (drop n (f ++ drop n s)))) z → take n (f ++ drop n s) ++ (g ++ drop n (drop n (f ++ drop n s))) ≡ replicate (n + n) z
halves {A} z n s f g l e h =
    let ls : length (take n s) ≡ n = length-take-le n s (omega (arith, l)) in
    let lf : length f ≡ n = ap length e ∙ length-replicate {A = A} (length (take n s)) z ∙ ls in
    let d : drop n (f ++ drop n s) ≡ drop n s = subst (λ (k : ℕ). drop k (f ++ drop n s) ≡ drop n s) lf (drop-append_seam f (drop n s)) in
    let t : take n (f ++ drop n s) ≡ f = subst (λ (k : ℕ). take k (f ++ drop n s) ≡ f) lf (take-append_seam f (drop n s)) in
    let m : length (drop n s) ≡ n = omega (arith, l, length-drop n s) in
    let lg : length (take n (drop n (f ++ drop n s))) ≡ n = ap (λ (r : List A). length (take n r)) d ∙ length-take-le n (drop n s) (omega (arith, m)) in
    let none : drop n (drop n (f ++ drop n s)) ≡ [] = ap (drop n) d ∙ drop_of_length-le (drop n s) (omega (arith, m)) in
    let g' : g ++ drop n (drop n (f ++ drop n s)) ≡ replicate n z = ap₂ ◌++◌ (h ∙ ap (λ (k : ℕ). replicate k z) lg) none ∙ append-nil (replicate n z) in
    ap₂ ◌++◌ (t ∙ e ∙ ap (λ (k : ℕ). replicate k z) ls) g' ∙ replicate-append-replicate n n z
