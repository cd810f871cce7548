-- THE STATES OF A WALK, as lists: the test `reachable` takes exactly the states that a walk that may begin comes to. `ok` says whether it may.
-- Assumes nothing.
use Rattle.std.specs.Prelude.{◌≡◌, refl, ◌↔◌, Bool, true, false, ◌&&◌, cond, ℕ, suc, ◌%◌, ◌<◌, ltb, eqb, length, ℤ, pos, ◌-ℤ◌, Option, None, Some}
use Rattle.std.proofs.Common.{sym, ap, ap₂, ◌∙◌, arith, ltb-true, lt-ltb, eqb-true, eq-eqb}
use Rattle.std.proofs.lemmas.Bool.{false≢true}
use mathlib.Core.List.{List, [], ◌∷◌, cons≢nil}
use Rattle.std.proofs.Math.IntN.{zero-*ℤ, +ℤ_idr, +ℤ-neg_ℤ_cancel, -ℤ-+ℤ_cancel}
use Rattle.strided.specs.Layout.{dot}
use Rattle.strided.specs.Walk.{CutAxis, ax, counters, zeros}
use Rattle.strided.specs.Step.{WalkState, offsets_from, starts_from, state_of, insideb, on_startb, zerosb, reachable}
use Rattle.laws.specs.Base.Tests.{and_both, both_and}
use Rattle.laws.specs.Base.Lists.{nth_none}
use Rattle.laws.specs.Walk.States.{state_after, Wide, Inside, OnStart}
use Rattle.laws.specs.Walk.Reach.{reach, state-nth}

-- ---- tests

inside_test : (axs : List CutAxis) (c : List ℕ) → (insideb axs c ≡ true) ↔ Inside axs c
inside_test [] [] = (λ h. tt, λ h. refl)
inside_test [] (x ∷ xs) = (λ h. absurd (false≢true h), λ h. absurd h)
inside_test (ax e w ∷ axs) [] = (λ h. absurd (false≢true h), λ h. absurd h)
inside_test (ax e w ∷ axs) (x ∷ xs) = (λ h. to (inside_test axs xs).0 h, λ h. both_and (ltb x e) (insideb axs xs) (lt-ltb x e h.0) ((inside_test axs xs).1 h.1))
  where
    to : (insideb axs xs ≡ true → Inside axs xs) → (ltb x e && insideb axs xs) ≡ true → (x < e) × Inside axs xs
    to ih h =
        let p = and_both (ltb x e) (insideb axs xs) h in
        (ltb-true x e p.0, ih p.1)

start_test : (axs : List CutAxis) (c : List ℕ) → (on_startb axs c ≡ true) ↔ OnStart axs c
start_test [] c = (λ h. tt, λ h. refl)
start_test (ax e w ∷ axs) [] = (λ h. absurd (false≢true h), λ h. absurd h)
start_test (ax e w ∷ axs) (s ∷ v) = (λ h. eqb-true (s % w) 0 h, λ h. eq-eqb (s % w) 0 h)

zeros_test : (axs : List CutAxis) (c : List ℕ) → (zerosb axs c ≡ true) ↔ (c ≡ zeros axs)
zeros_test [] [] = (λ h. refl, λ h. refl)
zeros_test [] (x ∷ xs) = (λ h. absurd (false≢true h), λ h. absurd (cons≢nil h))
zeros_test (ax e w ∷ axs) [] = (λ h. absurd (false≢true h), λ h. absurd (cons≢nil (sym h)))
zeros_test (ax e w ∷ axs) (x ∷ xs) = (λ h. to (zeros_test axs xs).0 h, λ h. from (zeros_test axs xs).1 h)
  where
    to : (zerosb axs xs ≡ true → xs ≡ zeros axs) → (eqb x 0 && zerosb axs xs) ≡ true → x ∷ xs ≡ 0 ∷ zeros axs
    to ih h =
        let p = and_both (eqb x 0) (zerosb axs xs) h in
        ap₂ (λ a b. a ∷ b) (eqb-true x 0 p.0) (ih p.1)

    from : (xs ≡ zeros axs → zerosb axs xs ≡ true) → x ∷ xs ≡ 0 ∷ zeros axs → (eqb x 0 && zerosb axs xs) ≡ true
    from ih h =
        let a : x ≡ 0 = cc in
        let b : xs ≡ zeros axs = cc in
        both_and (eqb x 0) (zerosb axs xs) (eq-eqb x 0 a) (ih b)

-- ---- offsets there and back

pub starts_offsets : (tss : List (List ℤ)) (zs : List ℤ) (c : List ℕ) → length zs ≡ length tss → starts_from tss (offsets_from tss zs c) c ≡ zs
starts_offsets [] [] c h = refl
starts_offsets [] (z ∷ zs) c h = absurd (omega arith)
starts_offsets (ts ∷ tss) [] c h = absurd (omega arith)
starts_offsets (ts ∷ tss) (z ∷ zs) c h = ap₂ (λ a b. a ∷ b) (+ℤ-neg_ℤ_cancel z (dot c ts)) (starts_offsets tss zs c (omega arith))

offsets_starts : (tss : List (List ℤ)) (os : List ℤ) (c : List ℕ) → length os ≡ length tss → offsets_from tss (starts_from tss os c) c ≡ os
offsets_starts [] [] c h = refl
offsets_starts [] (z ∷ zs) c h = absurd (omega arith)
offsets_starts (ts ∷ tss) [] c h = absurd (omega arith)
offsets_starts (ts ∷ tss) (z ∷ zs) c h = ap₂ (λ a b. a ∷ b) (-ℤ-+ℤ_cancel z (dot c ts)) (offsets_starts tss zs c (omega arith))

pub length_offsets : (tss : List (List ℤ)) (zs : List ℤ) (c : List ℕ) → length zs ≡ length tss → length (offsets_from tss zs c) ≡ length tss
length_offsets [] zs c h = refl
length_offsets (ts ∷ tss) [] c h = absurd (omega arith)
length_offsets (ts ∷ tss) (z ∷ zs) c h = ap suc (length_offsets tss zs c (omega arith))

pub length_starts : (tss : List (List ℤ)) (zs : List ℤ) (c : List ℕ) → length zs ≡ length tss → length (starts_from tss zs c) ≡ length tss
length_starts [] zs c h = refl
length_starts (ts ∷ tss) [] c h = absurd (omega arith)
length_starts (ts ∷ tss) (z ∷ zs) c h = ap suc (length_starts tss zs c (omega arith))

pub dot-zeros : (axs : List CutAxis) (ts : List ℤ) → dot (zeros axs) ts ≡ pos 0
dot-zeros [] ts = refl
dot-zeros (a ∷ axs) [] = refl
dot-zeros (a ∷ axs) (t ∷ ts) = rw (zero-*ℤ t, dot-zeros axs ts)

starts_zeros : (axs : List CutAxis) (tss : List (List ℤ)) (zs : List ℤ) → length zs ≡ length tss → starts_from tss zs (zeros axs) ≡ zs
starts_zeros axs [] [] h = refl
starts_zeros axs [] (z ∷ zs) h = absurd (omega arith)
starts_zeros axs (ts ∷ tss) [] h = absurd (omega arith)
starts_zeros axs (ts ∷ tss) (z ∷ zs) h =
    ap₂ (λ a b. a ∷ b) (ap (λ d. z -ℤ d) (dot-zeros axs ts) ∙ +ℤ_idr z) (starts_zeros axs tss zs (omega arith))

-- ---- REACH, of whole states

-- a walk that may begin comes to s after some steps
pub record Begun (axs : List CutAxis) (tss : List (List ℤ)) (ok : List ℤ → Bool) (s : WalkState) : Type 0 where
  pub starts : List ℤ
  pub many : length starts ≡ length tss
  pub may : ok starts ≡ true
  pub n : ℕ
  pub comes : s ≡ state_of axs tss starts (state_after axs n)

module _ (axs : List CutAxis) (tss : List (List ℤ)) (ok : List ℤ → Bool) (hw : Wide axs) where
  pub reachable_of : (zs : List ℤ) → length zs ≡ length tss → ok zs ≡ true → (n : ℕ) (m : Option (List ℕ)) → state_after axs n ≡ m
      → reachable axs tss ok (state_of axs tss zs m) ≡ true
  reachable_of zs hl ho n None e =
      both_and _ _ ((zeros_test axs (zeros axs)).1 refl)
      (both_and _ _ (eq-eqb (length zs) (length tss) hl) (ap ok (starts_zeros axs tss zs hl) ∙ ho))
  reachable_of zs hl ho n (Some c) e =
      let r = (reach axs c hw).0 (n, e) in
      both_and _ _ (both_and _ _ ((inside_test axs c).1 r.0) ((start_test axs c).1 r.1))
      (both_and _ _ (eq-eqb (length (offsets_from tss zs c)) (length tss) (length_offsets tss zs c hl)) (ap ok (starts_offsets tss zs c hl) ∙ ho))

  -- a state is taken exactly if a walk that may begin comes to it
  pub reach-state : (s : WalkState) → Begun axs tss ok s ↔ (reachable axs tss ok s ≡ true)
  reach-state s = (to, λ h. from s.running refl h)
    where
      to : Begun axs tss ok s → reachable axs tss ok s ≡ true
      to b = ap (reachable axs tss ok) b.comes ∙ reachable_of b.starts b.many b.may b.n (state_after axs b.n) refl

      from : (b : Bool) → s.running ≡ b
          → (cond b (insideb axs s.counters && on_startb axs s.counters) (zerosb axs s.counters)
          && (eqb (length s.offsets) (length tss) && ok (starts_from tss s.offsets s.counters))) ≡ true
          → Begun axs tss ok s
      from true e h =
          let p = and_both _ _ h in
          let q = and_both _ _ p.0 in
          let u = and_both _ _ p.1 in
          let hl : length s.offsets ≡ length tss = eqb-true (length s.offsets) (length tss) u.0 in
          let r = (reach axs s.counters hw).1 ((inside_test axs s.counters).0 q.0, (start_test axs s.counters).0 q.1) in
          let zs = starts_from tss s.offsets s.counters in
          let same : s ≡ state_of axs tss zs (Some s.counters) =
          λ i. record { running = e i; counters = s.counters; offsets = sym (offsets_starts tss s.offsets s.counters hl) i } in
          record {
            starts = zs;
            many = length_starts tss s.offsets s.counters hl;
            may = u.1;
            n = r.0;
            comes = same ∙ ap (state_of axs tss zs) (sym r.1);
          }
      from false e h =
          let p = and_both _ _ h in
          let u = and_both _ _ p.1 in
          let hl : length s.offsets ≡ length tss = eqb-true (length s.offsets) (length tss) u.0 in
          let hz : s.counters ≡ zeros axs = (zeros_test axs s.counters).0 p.0 in
          let zs = starts_from tss s.offsets s.counters in
          let ho : zs ≡ s.offsets = ap (starts_from tss s.offsets) hz ∙ starts_zeros axs tss s.offsets hl in
          let same : s ≡ state_of axs tss zs None =
          λ i. record { running = e i; counters = hz i; offsets = sym ho i } in
          let n = length (counters axs) in
          record {
            starts = zs;
            many = length_starts tss s.offsets s.counters hl;
            may = u.1;
            n = n;
            comes = same ∙ ap (state_of axs tss zs) (sym (state-nth axs hw n ∙ (nth_none (counters axs) n).1 (omega arith)));
          }
