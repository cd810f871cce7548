-- THE NUMBER IS THE PLACE: the figure worked out from the counters (crate laws, Walk/Number) is the block's place in document 01's list, at
-- every rank and with any block sizes; and after n steps it is n.
-- Assumes nothing.
use Rattle.std.specs.Prelude.{◌≡◌, refl, Bool, true, false, cond, List, [], ◌∷◌, map, ℕ, zero, suc, eqb, Some}
use Rattle.std.proofs.Common.{sym, ap, ap₂, ◌∙◌, arith, eqb-true, eq-eqb}
use Rattle.std.proofs.lemmas.Bool.{false≢true}
use Rattle.strided.specs.Base.{nth}
use Rattle.strided.specs.Walk.{CutAxis, block_at, counters}
use Rattle.laws.specs.Base.Tests.{and_both}
use Rattle.laws.specs.Walk.States.{Wide, Inside, OnStart, state_after}
use Rattle.laws.specs.Walk.Reach.{state-nth}
use Rattle.laws.specs.Walk.Number.{number_of}
use Rattle.laws.specs.Walk.Counted.{number-nth, counters_once}
use Rattle.views.specs.Number.{same_counters, place_of, block_number}

-- ---- the first of its counters

same_true : (c d : List ℕ) → same_counters c d ≡ true → c ≡ d
same_true [] [] h = refl
same_true [] (y ∷ d) h = absurd (false≢true h)
same_true (x ∷ c) [] h = absurd (false≢true h)
same_true (x ∷ c) (y ∷ d) h =
    let q = and_both (eqb x y) (same_counters c d) h in
    ap₂ (λ (a : ℕ) (l : List ℕ). a ∷ l) (eqb-true x y q.0) (same_true c d q.1)

same_self : (c : List ℕ) → same_counters c c ≡ true
same_self [] = refl
same_self (x ∷ c) = rw (eq-eqb x x refl) (same_self c)

-- where c stands at place n and nowhere else
place_once : (axs : List CutAxis) (l : List (List ℕ)) (n : ℕ) (c : List ℕ) → nth l n ≡ Some c → ((m : ℕ) → nth l m ≡ Some c → m ≡ n) → place_of (map (block_at axs) l) c ≡ n
place_once axs [] n c e h = let z : ◌≡◌ {A = ℕ} 0 1 = cc e in absurd (omega arith)
place_once axs (d ∷ l) zero c e h = let q : c ≡ d = cc e in rw (ap (same_counters c) (sym q) ∙ same_self c)
place_once axs (d ∷ l) (suc n) c e h = go (same_counters c d) refl (place_once axs l n c e (λ m k. down m (h (suc m) k)))
  where
    down : (m : ℕ) → suc m ≡ suc n → m ≡ n
    down m q = omega arith

    go : (b : Bool) → same_counters c d ≡ b → place_of (map (block_at axs) l) c ≡ n → cond b 0 (suc (place_of (map (block_at axs) l) c)) ≡ suc n
    go true q r = let z : 0 ≡ suc n = h 0 (ap Some (sym (same_true c d q))) in absurd (omega arith)
    go false q r = ap suc r

-- ---- the number

pub number_at : (axs : List CutAxis) → Wide axs → (n : ℕ) (c : List ℕ) → nth (counters axs) n ≡ Some c → block_number axs c ≡ n
unfolding block_number
number_at axs hw n c e = place_once axs (counters axs) n c e (λ m h. counters_once axs hw m n c h e)

-- worked out from the counters it is the place in the list
pub number-place : (axs : List CutAxis) (c : List ℕ) → Wide axs → Inside axs c → OnStart axs c → number_of axs c ≡ block_number axs c
number-place axs c hw h o = sym (number_at axs hw (number_of axs c) c (number-nth axs c hw h o))

-- after n steps it is n
pub number-after_steps : (axs : List CutAxis) → Wide axs → (n : ℕ) (c : List ℕ) → state_after axs n ≡ Some c → block_number axs c ≡ n
number-after_steps axs hw n c e = number_at axs hw n c (sym (state-nth axs hw n) ∙ e)
