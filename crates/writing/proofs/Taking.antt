-- Lines that go somewhere, whatever it is: `rest` of a text is left to come. `Taking` is what every loop over lines keeps.
-- Assumes nothing.
use mathlib.Core.Path.{◌≡◌, refl, sym, ap, ◌∙◌, subst}
use mathlib.Core.List.{List, [], ◌++◌, append_assoc, append-nil}
use Prim.Native.Nat.{ℕ}
use Rattle.std.specs.Prelude.{Option, None, Some}
use Rattle.writing.specs.Sink.{Sinks, Goes}

pub record Taking {S : Type 0} (May : S → List ℕ → List ℕ → Type 0) (Took : S → List ℕ → List ℕ → S → List ℕ → Type 0) (s₀ : S) (old whole : List ℕ) (s : S) (out rest : List ℕ) : Type 0 where
  pub done : List ℕ
  pub took : Took s₀ old done s out
  pub splits : whole ≡ done ++ rest
  pub may : May s₀ old whole

module _ {S : Type 0} (May : S → List ℕ → List ℕ → Type 0) (Took : S → List ℕ → List ℕ → S → List ℕ → Type 0) (Full : S → List ℕ → Type 0) (L : Sinks May Took Full)
    (s₀ : S) (old whole : List ℕ) where
  pub taking_start : May s₀ old whole → Taking May Took s₀ old whole s₀ old whole
  taking_start m = record { done = []; took = L.none s₀ old whole m; splits = refl; may = m }

  module _ (s : S) (out left : List ℕ) (d : Taking May Took s₀ old whole s out left) where
    -- what is left begins with u
    module _ (u rest : List ℕ) (e : left ≡ u ++ rest) where
      splits : whole ≡ d.done ++ (u ++ rest)
      splits = d.splits ∙ ap (λ (l : List ℕ). d.done ++ l) e

      pub taking_may : May s out u
      taking_may = L.next s₀ old d.done s out u rest d.took (subst (May s₀ old) splits d.may)

      pub taking_next : {s' : S} {out' : List ℕ} → Took s out u s' out' → Taking May Took s₀ old whole s' out' rest
      taking_next {s'} {out'} w = record {
        done = d.done ++ u;
        took = L.more s₀ old d.done s out u s' out' d.took w;
        splits = splits ∙ sym (append_assoc d.done u rest);
        may = d.may;
      }

      pub taking_full : Full s u → Full s₀ whole
      taking_full f = subst (Full s₀) (sym splits) (L.over s₀ old d.done s out u rest d.took f)

    -- nothing is left
    pub taking_end : left ≡ [] → Took s₀ old whole s out
    taking_end e = subst (λ (t : List ℕ). Took s₀ old t s out) (sym (append-nil d.done) ∙ ap (λ (l : List ℕ). d.done ++ l) (sym e) ∙ sym d.splits) d.took

    -- u is the last
    module _ (u : List ℕ) (e : left ≡ u) where
      last : left ≡ u ++ []
      last = e ∙ sym (append-nil u)

      pub taking_last_may : May s out u
      taking_last_may = taking_may u [] last

      pub taking_last : (r : Option S) (new : List ℕ) → Goes Took Full s out u new r → Goes Took Full s₀ old whole new r
      taking_last r new g = go r g
        where
          go : (r : Option S) → Goes Took Full s out u new r → Goes Took Full s₀ old whole new r
          go None f = taking_full u [] last f
          go (Some s') w = subst (λ (t : List ℕ). Took s₀ old t s' new)
              (ap (λ (l : List ℕ). d.done ++ l) (sym e) ∙ sym d.splits)
              (L.more s₀ old d.done s out u s' new d.took w)
