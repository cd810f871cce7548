-- THE COPY BY INDEX: what ask 3 says of an array, over any kind of index, and that every list that has the cell of each index, and no other,
-- gives it.
-- Assumes nothing.
use Rattle.std.specs.Prelude.{◌≡◌, ◌⊎◌, List, [], ℕ, ◌+◌, ◌≤◌, ◌<◌, length, get_or}
use Rattle.std.proofs.Common.{sym, ap, ap₂, ◌∙◌, subst, inl, inr, ⊎_elim}
use Rattle.cells.specs.Copy.{Pair, pair, copied, In, AllIn, Clear, Apart, Off, Holds}
use Rattle.cells.specs.Meaning.{copied-holds, copied-same, holds-one}

-- X: the indices; `W x`: x is one of the layout; D x and S x: the places of its cell in the destination and in the source
module _ {X : Type 0} (W : X → Type 0) (D S : X → ℕ) where
  -- "each destination cell holds the source cell of its index, and every byte outside destination cells is as before"
  pub record Exported (w : ℕ) (dst src out : List ℕ) : Type 0 where
    pub long : length out ≡ length dst
    pub cells : (x : X) → W x → (k : ℕ) → k < w → get_or out (D x + k) 0 ≡ get_or src (S x + k) 0
    pub kept : (i : ℕ) → ((x : X) → W x → Off w (D x) i) → get_or out i 0 ≡ get_or dst i 0

  -- the list has the cell of each index, and no other; in any order
  pub record Lists (ps : List Pair) : Type 0 where
    pub each : (x : X) → W x → In (pair (D x) (S x)) ps
    pub only : (d s : ℕ) → In (pair d s) ps → (x : X) × W x × (d ≡ D x) × (s ≡ S x)

  -- every cell lies in its buffer
  abbrev pub CellsIn : ℕ → ℕ → ℕ → Type 0
  CellsIn w m n = (x : X) → W x → (D x + w ≤ m) × (S x + w ≤ n)

  -- no two indices share a byte of the destination
  abbrev pub NoneShared : ℕ → Type 0
  NoneShared w = (x y : X) → W x → W y → (x ≡ y) ⊎ Clear w (D x) (D y)

  pub lists_in : (w m n : ℕ) (ps : List Pair) → Lists ps → CellsIn w m n → AllIn w m n ps
  lists_in w m n ps l f d s i =
      let o = l.only d s i in
      let g = f o.0 o.1 in
      (subst (λ (x : ℕ). x + w ≤ m) (sym o.2) g.0, subst (λ (x : ℕ). x + w ≤ n) (sym o.3) g.1)

  pub lists_apart : (w : ℕ) (ps : List Pair) → Lists ps → NoneShared w → Apart w ps
  lists_apart w ps l none d s e t m n =
      let a = l.only d s m in
      let b = l.only e t n in
      ⊎_elim
      (λ q. inl (ap₂ pair (a.2 ∙ ap D q ∙ sym b.2) (a.3 ∙ ap S q ∙ sym b.3)))
      (λ c. inr (subst (λ (x : ℕ). Clear w x e) (sym a.2) (subst (Clear w (D a.0)) (sym b.2) c)))
      (none a.0 b.0 a.1 b.1)

  -- THE LAW: the copy of such a list is the export
  pub copied-exported : (w : ℕ) (ps : List Pair) (dst src : List ℕ) → Lists ps → CellsIn w (length dst) (length src) → NoneShared w → Exported w dst src (copied w ps dst src)
  copied-exported w ps dst src l f none =
      let m = copied-holds w ps dst src (lists_in w (length dst) (length src) ps l f) (lists_apart w ps l none) in
      record {
        long = m.long;
        cells = λ x v k b. m.cells (D x) (S x) (l.each x v) k b;
        kept = λ i h. m.kept i (λ d s p. let o = l.only d s p in subst (λ (z : ℕ). Off w z i) (sym o.2) (h o.0 o.1));
      }

  -- two such lists give one buffer: a definition by the original indices is met by code that follows a plan
  pub copied_any : (w : ℕ) (ps qs : List Pair) (dst src : List ℕ) → Lists ps → Lists qs → CellsIn w (length dst) (length src) → NoneShared w → copied w ps dst src ≡ copied w qs dst src
  copied_any w ps qs dst src l r f none =
      copied-same w ps qs dst src (lists_in w (length dst) (length src) ps l f) (lists_apart w ps l none) (λ p. (across ps qs l r p, across qs ps r l p))
    where
      across : (ps qs : List Pair) → Lists ps → Lists qs → (p : Pair) → In p ps → In p qs
      across ps qs l r (pair d s) m =
          let o = l.only d s m in
          subst (λ (p : Pair). In p qs) (ap₂ pair (sym o.2) (sym o.3)) (r.each o.0 o.1)

  -- the meaning fixes every byte, wherever the indices can be listed
  pub exported-one : (w : ℕ) (ps : List Pair) (dst src a b : List ℕ) → Lists ps → Exported w dst src a → Exported w dst src b → a ≡ b
  exported-one w ps dst src a b l p q = holds-one w ps dst src a b (holds a p) (holds b q)
    where
      holds : (out : List ℕ) → Exported w dst src out → Holds w ps dst src out
      holds out e =
          record {
            long = e.long;
            cells = λ d s i k b. let o = l.only d s i in
                subst (λ (z : ℕ). get_or out (z + k) 0 ≡ get_or src (s + k) 0) (sym o.2)
                (subst (λ (z : ℕ). get_or out (D o.0 + k) 0 ≡ get_or src (z + k) 0) (sym o.3) (e.cells o.0 o.1 k b));
            kept = λ i h. e.kept i (λ x v. h (D x) (S x) (l.each x v));
          }

  -- no index: nothing is copied
  pub lists_none : ((x : X) → W x → ⊥) → Lists []
  lists_none h = record { each = λ x v. absurd (h x v); only = λ d s m. absurd m }
