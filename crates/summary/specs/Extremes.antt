-- THE EXTREMES are cells, and no cell that is a number is strictly below the least or strictly above the greatest. Assumes nothing.
use Rattle.std.specs.Prelude.{◌≡◌, refl, ◌⊎◌, Bool, true, false, cond, List, [], ◌∷◌, Float}
use Rattle.std.proofs.Common.{sym, ◌∙◌, inl, inr, true≢false}
use Rattle.std.proofs.lemmas.Bool.{false≢true}
use Rattle.std.specs.Float.Ieee.{lt, is_nan}
use Rattle.summary.specs.declared.cell.Summary.{Summary}
use Rattle.summary.specs.Ordered.{lt_trans_float, lt_irrefl_float}
use Rattle.summary.specs.Sums.{lesser, greater, nothing_met, with_nan, with_number, with_cell, with_cells, summary_of}

-- y is one of the cells
abbrev pub In : Float → List Float → Type 0
In y [] = ⊥
In y (x ∷ xs) = (y ≡ x) ⊎ In y xs

-- ---- a step keeps what is bounded bounded

no_lower : (y x e : Float) → lt y e ≡ false → lt y (lesser x e) ≡ false
no_lower y x e h = go (lt x e) refl
  where
    stuck : lt x e ≡ true → (b : Bool) → lt y x ≡ b → b ≡ false
    stuck k true l = absurd (true≢false (sym (lt_trans_float y x e l k) ∙ h))
    stuck k false l = refl

    go : (b : Bool) → lt x e ≡ b → lt y (cond b x e) ≡ false
    go true k = stuck k (lt y x) refl
    go false k = h

no_higher : (y x e : Float) → lt e y ≡ false → lt (greater x e) y ≡ false
no_higher y x e h = go (lt e x) refl
  where
    stuck : lt e x ≡ true → (b : Bool) → lt x y ≡ b → b ≡ false
    stuck k true l = absurd (true≢false (sym (lt_trans_float e x y k l) ∙ h))
    stuck k false l = refl

    go : (b : Bool) → lt e x ≡ b → lt (cond b x e) y ≡ false
    go true k = stuck k (lt x y) refl
    go false k = h

self_lower : (y e : Float) → lt y (lesser y e) ≡ false
self_lower y e = go (lt y e) refl
  where
    go : (b : Bool) → lt y e ≡ b → lt y (cond b y e) ≡ false
    go true k = lt_irrefl_float y
    go false k = k

self_higher : (y e : Float) → lt (greater y e) y ≡ false
self_higher y e = go (lt e y) refl
  where
    go : (b : Bool) → lt e y ≡ b → lt (cond b y e) y ≡ false
    go true k = lt_irrefl_float y
    go false k = k

-- y lies within the extremes, which exist
pub record Bounded (y : Float) (s : Summary) : Type 0 where
  pub here : s.extremes ≡ true
  pub low : lt y s.least ≡ false
  pub high : lt s.greatest y ≡ false

bounded_on : (y : Float) (s : Summary) (x : Float) → Bounded y s → Bounded y (with_cell s x)
bounded_on y s x p = go (is_nan x) s.extremes p.here
  where
    go : (b k : Bool) → k ≡ true → Bounded y (cond b (with_nan s x) (with_number k s x))
    go true k e = record { here = p.here; low = p.low; high = p.high }
    go false true e = record { here = refl; low = no_lower y x s.least p.low; high = no_higher y x s.greatest p.high }
    go false false e = absurd (false≢true e)

bounded_at : (s : Summary) (y : Float) → is_nan y ≡ false → Bounded y (with_cell s y)
bounded_at s y h = go (is_nan y) s.extremes h
  where
    go : (b k : Bool) → b ≡ false → Bounded y (cond b (with_nan s y) (with_number k s y))
    go true k e = absurd (true≢false e)
    go false true e = record { here = refl; low = self_lower y s.least; high = self_higher y s.greatest }
    go false false e = record { here = refl; low = lt_irrefl_float y; high = lt_irrefl_float y }

bounded_after : (y : Float) (s : Summary) (xs : List Float) → Bounded y s → Bounded y (with_cells s xs)
bounded_after y s [] p = p
bounded_after y s (x ∷ xs) p = bounded_after y (with_cell s x) xs (bounded_on y s x p)

bounded_in : (y : Float) (s : Summary) (xs : List Float) → is_nan y ≡ false → In y xs → Bounded y (with_cells s xs)
bounded_in y s [] h i = elim i [ ]
bounded_in y s (x ∷ xs) h (inl e) = bounded_after y (with_cell s x) xs (rw (sym e) (bounded_at s y h))
bounded_in y s (x ∷ xs) h (inr i) = bounded_in y (with_cell s x) xs h i

-- every cell that is a number lies within the extremes, and then they exist
pub within_extremes : (xs : List Float) (y : Float) → In y xs → is_nan y ≡ false → Bounded y (summary_of xs)
unfolding summary_of
within_extremes xs y i h = bounded_in y nothing_met xs h i

-- ---- the extremes, where they exist, are cells

abbrev Kept : (Float → Type 0) → Summary → Type 0
Kept P s = s.extremes ≡ true → P s.least × P s.greatest

pick : (P : Float → Type 0) (b : Bool) (x e : Float) → P x → P e → P (cond b x e)
pick P true x e p q = p
pick P false x e p q = q

kept_on : (P : Float → Type 0) (s : Summary) (x : Float) → (is_nan x ≡ false → P x) → Kept P s → Kept P (with_cell s x)
kept_on P s x f p = go (is_nan x) s.extremes refl refl
  where
    go : (b k : Bool) → is_nan x ≡ b → s.extremes ≡ k → Kept P (cond b (with_nan s x) (with_number k s x))
    go true k n e = p
    go false true n e = λ a. (pick P (lt x s.least) x s.least (f n) (p e).0, pick P (lt s.greatest x) x s.greatest (f n) (p e).1)
    go false false n e = λ a. (f n, f n)

kept-after : (P : Float → Type 0) (s : Summary) (xs : List Float) → ((y : Float) → In y xs → is_nan y ≡ false → P y) → Kept P s → Kept P (with_cells s xs)
kept-after P s [] f p = p
kept-after P s (x ∷ xs) f p = kept-after P (with_cell s x) xs (λ y i n. f y (inr i) n) (kept_on P s x (f x (inl refl)) p)

abbrev pub NumberIn : List Float → Float → Type 0
NumberIn xs y = In y xs × (is_nan y ≡ false)

pub extremes_are_cells : (xs : List Float) → (summary_of xs).extremes ≡ true → NumberIn xs (summary_of xs).least × NumberIn xs (summary_of xs).greatest
unfolding summary_of
extremes_are_cells xs = kept-after (NumberIn xs) nothing_met xs (λ y i n. (i, n)) (λ a. absurd (false≢true a))
