-- THE REPEAT MARK IS RIGHT, whatever the total: where it is no, no two indices share an offset; where it is yes, two do; up to a total of
-- 4,096 it is never undecided. Assumes nothing.
use Rattle.std.proofs.Math.Path.{◌≡◌, refl, sym, ap}
use Rattle.std.proofs.Common.{◌∙◌, arith, ltb-true, eqb-true, le-leb}
use Rattle.std.specs.Prelude.{◌↔◌, Bool, List, ℕ, ◌≤◌, ltb, leb, eqb, ℤ, length, get_or}
use Rattle.std.proofs.Math.Bool.{true, false, cond, false≢true}
use Rattle.strided.specs.Base.{some_of}
use Rattle.strided.specs.Layout.{total, has_zero, NoZero}
use Rattle.strided.specs.Mark.{Shared, shared, stays_at, rises, exact_mark, quick_mark, mark_of, mark_number}
use Rattle.strided.specs.declared.Mark.TheVariants.{No, Yes, Undecided}
use Rattle.laws.specs.Base.Tests.{and_both}
use Rattle.laws.specs.Base.Layouts.{within-total, total_nozero}
use Rattle.laws.specs.Refusals.Operands.{some_of_where}
use Rattle.laws.specs.Refusals.Zeros.{no_zero_of, no_zero_test}
use Rattle.laws.specs.Mark.Sizes.{size_at}
use Rattle.laws.specs.Mark.Exact.{test_shared, shared_test, apart_test, test_is}
use Rattle.laws.specs.Mark.Rises.{rises-apart}
use Rattle.laws.specs.Mark.Still.{still-shared}

module _ (es : List ℕ) (ts : List ℤ) where
  -- a layout with a zero extent has no index
  pub zero-apart : has_zero es ≡ true → Shared es ts → ⊥
  zero-apart h s = false≢true (sym (no_zero_test es (total_nozero es (within-total es s.one s.one_in))) ∙ h)

  -- an axis that stays
  pub stays-shared : length ts ≡ length es → NoZero es → some_of (stays_at es ts) 0 (length es) ≡ true → Shared es ts
  stays-shared l z h =
      let r = some_of_where (stays_at es ts) (length es) h in
      let p = and_both (ltb 1 (get_or es r.0 0)) (eqb (size_at ts r.0) 0) r.2 in
      still-shared es ts r.0 l z r.1 (ltb-true 1 (get_or es r.0 0) p.0) (eqb-true (size_at ts r.0) 0 p.1)

  pub no_apart : length ts ≡ length es → mark_of es ts ≡ No → Shared es ts → ⊥
  unfolding mark_of
  no_apart l h s = go (has_zero es) refl h
    where
      exact : (b : Bool) → shared es ts ≡ b → cond b Yes No ≡ No → ⊥
      exact true e q = let z : ◌≡◌ {A = ℕ} 0 1 = ap mark_number (sym q) in absurd (omega arith)
      exact false e q = false≢true (sym e ∙ shared_test es ts s)

      last : (b : Bool) → rises es ts ≡ b → cond b No Undecided ≡ No → ⊥
      last true e q = rises-apart es ts l e s
      last false e q = let z : ◌≡◌ {A = ℕ} 0 2 = ap mark_number (sym q) in absurd (omega arith)

      quick : (b : Bool) → cond b Yes (cond (rises es ts) No Undecided) ≡ No → ⊥
      quick true q = let z : ◌≡◌ {A = ℕ} 0 1 = ap mark_number (sym q) in absurd (omega arith)
      quick false q = last (rises es ts) refl q

      small : (b : Bool) → cond b (exact_mark es ts) (quick_mark es ts) ≡ No → ⊥
      small true q = exact (shared es ts) refl q
      small false q = quick (some_of (stays_at es ts) 0 (length es)) q

      go : (b : Bool) → has_zero es ≡ b → cond b No (cond (leb (total es) 4096) (exact_mark es ts) (quick_mark es ts)) ≡ No → ⊥
      go true e q = zero-apart e s
      go false e q = small (leb (total es) 4096) q

  pub yes_shared : length ts ≡ length es → mark_of es ts ≡ Yes → Shared es ts
  unfolding mark_of
  yes_shared l h = go (has_zero es) refl h
    where
      exact : (b : Bool) → shared es ts ≡ b → cond b Yes No ≡ Yes → Shared es ts
      exact true e q = test_shared es ts e
      exact false e q = let z : ◌≡◌ {A = ℕ} 0 1 = ap mark_number q in absurd (omega arith)

      last : (b : Bool) → cond b No Undecided ≡ Yes → Shared es ts
      last true q = let z : ◌≡◌ {A = ℕ} 0 1 = ap mark_number q in absurd (omega arith)
      last false q = let z : ◌≡◌ {A = ℕ} 2 1 = ap mark_number q in absurd (omega arith)

      quick : NoZero es → (b : Bool) → some_of (stays_at es ts) 0 (length es) ≡ b → cond b Yes (cond (rises es ts) No Undecided) ≡ Yes → Shared es ts
      quick n true e q = stays-shared l n e
      quick n false e q = last (rises es ts) q

      small : NoZero es → (b : Bool) → cond b (exact_mark es ts) (quick_mark es ts) ≡ Yes → Shared es ts
      small n true q = exact (shared es ts) refl q
      small n false q = quick n (some_of (stays_at es ts) 0 (length es)) refl q

      go : (b : Bool) → has_zero es ≡ b → cond b No (cond (leb (total es) 4096) (exact_mark es ts) (quick_mark es ts)) ≡ Yes → Shared es ts
      go true e q = let z : ◌≡◌ {A = ℕ} 0 1 = ap mark_number q in absurd (omega arith)
      go false e q = small (no_zero_of es e) (leb (total es) 4096) q

  pub small_decided : total es ≤ 4096 → mark_of es ts ≡ Undecided → ⊥
  unfolding mark_of
  small_decided t h = go (has_zero es) (rw (le-leb (total es) 4096 t) at h)
    where
      exact : (b : Bool) → cond b Yes No ≡ Undecided → ⊥
      exact true q = let z : ◌≡◌ {A = ℕ} 1 2 = ap mark_number q in absurd (omega arith)
      exact false q = let z : ◌≡◌ {A = ℕ} 0 2 = ap mark_number q in absurd (omega arith)

      go : (b : Bool) → cond b No (exact_mark es ts) ≡ Undecided → ⊥
      go true q = let z : ◌≡◌ {A = ℕ} 0 2 = ap mark_number q in absurd (omega arith)
      go false q = exact (shared es ts) q

-- ---- the tests may be asked in the order of what they cost: the quick ones agree with the exact one

module _ (es : List ℕ) (ts : List ℤ) where
  pub zero_mark : has_zero es ≡ true → No ≡ mark_of es ts
  unfolding mark_of
  zero_mark h = sym (rw h)

  module _ (z : has_zero es ≡ false) where
    pub stays_mark : length ts ≡ length es → some_of (stays_at es ts) 0 (length es) ≡ true → Yes ≡ mark_of es ts
    unfolding mark_of
    stays_mark l h = sym (rw (z, h, shared_test es ts (stays-shared es ts l (no_zero_of es z) h)) (both (leb (total es) 4096)))
      where
        both : (b : Bool) → cond b Yes Yes ≡ Yes
        both true = refl
        both false = refl

    pub rises_mark : length ts ≡ length es → some_of (stays_at es ts) 0 (length es) ≡ false → rises es ts ≡ true → No ≡ mark_of es ts
    unfolding mark_of
    rises_mark l q h = sym (rw (z, q, h, apart_test es ts (rises-apart es ts l h)) (both (leb (total es) 4096)))
      where
        both : (b : Bool) → cond b No No ≡ No
        both true = refl
        both false = refl

    pub exact_mark_lem : leb (total es) 4096 ≡ true → {r : Bool} → (r ≡ true) ↔ Shared es ts → cond r Yes No ≡ mark_of es ts
    unfolding mark_of
    exact_mark_lem h {r} f = ap (λ (b : Bool). cond b Yes No) (test_is es ts r f) ∙ sym (rw (z, h))

    pub open_mark : some_of (stays_at es ts) 0 (length es) ≡ false → rises es ts ≡ false → leb (total es) 4096 ≡ false → Undecided ≡ mark_of es ts
    unfolding mark_of
    open_mark q h t = sym (rw (z, t, q, h))
