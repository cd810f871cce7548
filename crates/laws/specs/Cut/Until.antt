-- `until` with a count that falls at each step: any count that is enough gives the same, one step may be taken first, and the count never
-- stops it: what comes out has no next state. Assumes nothing.
use Rattle.std.specs.Prelude.{◌≡◌, ◌⊎◌, Option, None, Some}
use Rattle.std.proofs.Math.Path.{refl, subst⁻¹, ap}
use Rattle.std.proofs.Common.{sym, ◌∙◌, inl, inr, arith}
use Rattle.std.proofs.Math.Logic.{⊎_elim}
use Prim.Native.Nat.{ℕ, zero, suc, ◌<◌, ◌≤◌}
use Rattle.strided.specs.Base.{until, onward}

module _ {A : Type 0} where
  -- an answer is none, or some state
  pub none_or_some : (o : Option A) → (o ≡ None) ⊎ ((b : A) × (o ≡ Some b))
  none_or_some None = inl refl
  none_or_some (Some b) = inr (b, refl)

module _ {A : Type 0} (next : A → Option A) where
  pub until_stop : (f : ℕ) (a : A) → next a ≡ None → until next f a ≡ a
  unfolding until
  until_stop zero a e = refl
  until_stop (suc f) a e = ap (onward (until next f) a) e

  pub until_go : (f : ℕ) (a b : A) → next a ≡ Some b → until next (suc f) a ≡ until next f b
  unfolding until
  until_go f a b e = ap (onward (until next f) a) e

  -- what each step keeps, all of them keep
  pub until_keeps : (P : A → Type 0) → ((a b : A) → next a ≡ Some b → P a → P b) → (f : ℕ) (a : A) → P a → P (until next f a)
  unfolding until
  until_keeps P keep zero a p = p
  until_keeps P keep (suc f) a p = ⊎_elim
      (λ e. subst⁻¹ P (until_stop (suc f) a e) p)
      (λ q. subst⁻¹ P (until_go f a q.0 q.1) (until_keeps P keep f q.0 (keep a q.0 q.1 p)))
      (none_or_some (next a))

  module _ (m : A → ℕ) (falls : (a b : A) → next a ≡ Some b → m b < m a) where
    -- two counts that are both enough give the same
    pub enough : (f g : ℕ) (a : A) → m a ≤ f → m a ≤ g → until next f a ≡ until next g a
    enough zero g a hf hg = ⊎_elim
        (λ e. until_stop zero a e ∙ sym (until_stop g a e))
        (λ p. absurd (omega (arith, falls a p.0 p.1)))
        (none_or_some (next a))
    enough (suc f) zero a hf hg = ⊎_elim
        (λ e. until_stop (suc f) a e ∙ sym (until_stop zero a e))
        (λ p. absurd (omega (arith, falls a p.0 p.1)))
        (none_or_some (next a))
    enough (suc f) (suc g) a hf hg = ⊎_elim
        (λ e. until_stop (suc f) a e ∙ sym (until_stop (suc g) a e))
        (λ p. let h = falls a p.0 p.1 in
        until_go f a p.0 p.1 ∙ enough f g p.0 (omega arith) (omega arith) ∙ sym (until_go g a p.0 p.1))
        (none_or_some (next a))

    -- one step may be taken first
    pub until-step : (a b : A) → next a ≡ Some b → until next (m a) a ≡ until next (m b) b
    until-step a b e =
        let h = falls a b e in
        enough (m a) (suc (m a)) a (omega arith) (omega arith) ∙ until_go (m a) a b e ∙ enough (m a) (m b) b (omega arith) (omega arith)

    -- the count never stops it: what comes out has no next state
    pub until_ends : (f : ℕ) (a : A) → m a ≤ f → next (until next f a) ≡ None
    until_ends zero a h = ⊎_elim
        (λ e. ap next (until_stop zero a e) ∙ e)
        (λ p. absurd (omega (arith, falls a p.0 p.1)))
        (none_or_some (next a))
    until_ends (suc f) a h = ⊎_elim
        (λ e. ap next (until_stop (suc f) a e) ∙ e)
        (λ p. let l = falls a p.0 p.1 in
        ap next (until_go f a p.0 p.1) ∙ until_ends f p.0 (omega arith))
        (none_or_some (next a))
