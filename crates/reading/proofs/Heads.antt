-- Reading the L line part by part. A part that stands there fixes what the parts behind it are asked, since it can be told in one way alone.
-- Assumes nothing.
use mathlib.Core.Path.{◌≡◌, refl, sym, ap, ◌∙◌, subst}
use mathlib.Core.List.{List, ◌∷◌, ◌++◌}
use Prim.Native.Nat.{ℕ}
use Rattle.strided.specs.Layout.{chosen}
use Rattle.strided.specs.Text.{FitU, field, chosen_field}
use Rattle.strided.specs.declared.Purpose.{Purpose}
use Rattle.laws.specs.Text.Numbers.{head, tail}
use Rattle.laws.specs.Text.Once.{chosen_stops, head_text}
use Rattle.reading.specs.Here.{Here, Nowhere}
use Rattle.reading.specs.Heads.{LastHere, ReadsLast, ChosenHere, CountsHere, ReadsCounts, ToldHere, ReadsTold, ReadsHead}
use Rattle.std.specs.Borrow.{Bor}
use Rattle.std.specs.Prelude.{Option, Some, None}
use Rattle.reading.specs.declared.Said.{Said}
use Rattle.reading.proofs.Answers.{clash, same_found, here_once, field_once}

-- ---- a number that ends the line

last_field : {t : List ℕ} {k : ℕ} {rest : List ℕ} → LastHere t k rest → Here field FitU t k (10 ∷ rest)
last_field h = record { fits = h.fits; form = h.form; stops = refl }

pub last_open : {t u : List ℕ} {k : ℕ} → Here field FitU t k u → ((rest : List ℕ) → u ≡ 10 ∷ rest → ⊥) → ReadsLast t None
last_open h none =
    record { value = λ k rest e. clash (cc); bad = λ e j rest g. none rest (here_once field field_once h (last_field g)).1 }

-- ---- the counts

first_count : {t : List ℕ} {r n : ℕ} {rest : List ℕ} → CountsHere t r n rest → Here field FitU t r (field n ++ rest)
first_count h = record { fits = h.first_fits; form = h.form; stops = refl }

module _ {t u : List ℕ} {r : ℕ} (h : Here field FitU t r u) where
  pub counts_open : Nowhere field FitU u → ReadsCounts t None
  counts_open none =
      record {
        told = λ a b x e. clash (cc);
        bad = λ e r' n rest g. none n rest (record { fits = g.second_fits; form = (here_once field field_once h (first_count g)).1; stops = g.stops });
      }

  counts_here : (n : ℕ) {rest : List ℕ} → Here field FitU u n rest → CountsHere t r n rest
  counts_here n g =
      record { first_fits = h.fits; second_fits = g.fits; form = h.form ∙ ap (λ (l : List ℕ). field r ++ l) g.form; stops = g.stops }

  pub counts-told : (n : ℕ) (rest : Bor (List ℕ)) → Here field FitU u n rest.now → ReadsCounts t (Some (r, n, rest))
  counts-told n rest g =
      record {
        told = λ a b x e. (
            let q : ◌≡◌ {A = ℕ × ℕ × Bor (List ℕ)} (r, n, rest) (a, b, x) = cc in
            subst (λ (y : ℕ × ℕ × Bor (List ℕ)). CountsHere t y.0 y.1 y.2.now) q (counts_here n g));
        bad = λ e. clash (cc);
      }

-- ---- all behind the letter

counts_of : {letter : ℕ} {t : List ℕ} {u : Purpose} {r n : ℕ} {rest : List ℕ} → ToldHere letter t u r n rest
    → CountsHere t r n (chosen_field (chosen u) ++ (10 ∷ rest))
counts_of {u = u} {rest = rest} h =
    record { first_fits = h.rank_fits; second_fits = h.operands_fit; form = h.form; stops = chosen_stops (chosen u) (10 ∷ rest) }

-- the counts and what is behind them are told in one way alone
counts-rest : {t : List ℕ} {r r' n n' : ℕ} {x y : List ℕ} → CountsHere t r n x → CountsHere t r' n' y → x ≡ y
counts-rest {n = n} {n' = n'} {x = x} {y = y} a b =
    let e = (here_once field field_once (first_count a) (first_count b)).1 in
    (field_once n n' x y a.stops b.stops e).1

module _ {letter : ℕ} {t v : List ℕ} {r n : ℕ} (h : CountsHere t r n v) where
  pub told_open : ((u : Purpose) (rest : List ℕ) → ChosenHere letter v u rest → ⊥) → ReadsTold letter t None
  told_open none =
      record {
        told = λ w x e. clash (cc);
        bad = λ e u r' n' rest g. none u rest (record { letters = g.letters; fits = g.chosen_fits; form = counts-rest h (counts_of g) });
      }

  told_here : (u : Purpose) {rest : List ℕ} → ChosenHere letter v u rest → ToldHere letter t u r n rest
  told_here u g =
      record {
        letters = g.letters;
        rank_fits = h.first_fits;
        operands_fit = h.second_fits;
        chosen_fits = g.fits;
        form = h.form ∙ ap (λ (l : List ℕ). field r ++ (field n ++ l)) g.form;
      }

  pub told_is : (u : Purpose) (rest : Bor (List ℕ)) → ChosenHere letter v u rest.now → ReadsTold letter t (Some (record { purpose = u; rank = r; operands = n }, rest))
  told_is u rest g =
      record {
        told = λ w x e. same_found (λ (y : Said) (z : Bor (List ℕ)). ToldHere letter t y.purpose y.rank y.operands z.now) e (told_here u g);
        bad = λ e. clash (cc);
      }

-- ---- the letter, and all behind it

module _ {letter : ℕ} {s u : List ℕ} {r : Option (Said × Bor (List ℕ))} (e : s ≡ 76 ∷ 44 ∷ letter ∷ u) (t : ReadsTold letter u r) where
  pub head_told : ReadsHead s r
  head_told =
      record {
        told = λ h rest q. (
            let w = t.told h rest q in
            record {
              rank_fits = w.rank_fits;
              operands_fit = w.operands_fit;
              chosen_fits = w.chosen_fits;
              form = e ∙ (λ i. 76 ∷ 44 ∷ sym w.letters i ∷ w.form i) ∙ sym (head_text h.purpose h.rank h.operands rest.now);
            });
        bad = λ q u rank operands rest h. (
            let f = sym (head_text u rank operands rest) ∙ sym h.form ∙ e in
            t.bad q u rank operands rest
            (record {
              letters = ap (λ (l : List ℕ). head (tail (tail l))) f;
              rank_fits = h.rank_fits;
              operands_fit = h.operands_fit;
              chosen_fits = h.chosen_fits;
              form = sym (ap (λ (l : List ℕ). tail (tail (tail l))) f);
            }));
      }
