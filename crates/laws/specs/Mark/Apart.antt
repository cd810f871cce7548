-- Where the size of each axis's stride exceeds the reach of the other axes of no greater size, no two indices share an offset. From the
-- greatest size downwards the two must agree on every axis. Assumes nothing.
use Rattle.std.specs.Prelude.{◌≡◌, refl, Bool, true, false, cond, List, [], ◌∷◌, ℕ, zero, suc, ◌+◌, ◌-◌, ◌*◌, ◌<◌, ◌≤◌, leb, ℤ, nat_abs, get_or}
use Rattle.std.proofs.Math.Path.{sym}
use Rattle.std.proofs.Common.{ap, ◌∙◌, subst, zero-le, eq-or-lt_of_le, mul-le-mul_right, add-mul, arith, leb-false, le-leb}
use Rattle.std.proofs.Math.Logic.{⊎_elim}
use Rattle.std.proofs.Math.ListN.{length}
use Rattle.std.proofs.Math.Seq.{ext_get_or}
use Rattle.strided.specs.Layout.{Within}
use Rattle.laws.specs.Base.Ranges.{below_or}
use Rattle.laws.specs.Base.Layouts.{within-length, within-at}
use Rattle.laws.specs.Mark.Sizes.{far, size_at, reach_up_to, ClearAt}

-- the part of `far` along the axes of size at most b
far_up_to : ℕ → List ℕ → List ℤ → ℕ
far_up_to b [] ts = 0
far_up_to b (x ∷ xs) [] = 0
far_up_to b (x ∷ xs) (t ∷ ts) = cond (leb (nat_abs t) b) (x * nat_abs t) 0 + far_up_to b xs ts

-- where two agree on the others, these parts differ as the whole does
cancel : (b : ℕ) (ts : List ℤ) (x y : List ℕ) → length x ≡ length y → ((i : ℕ) → i < length x → b < size_at ts i → get_or x i 0 ≡ get_or y i 0)
    → far x ts + far_up_to b y ts ≡ far y ts + far_up_to b x ts
unfolding far_up_to
cancel b ts [] [] l h = refl
cancel b ts [] (k ∷ y) l h = absurd (omega arith)
cancel b ts (k ∷ x) [] l h = absurd (omega arith)
cancel b [] (k ∷ x) (k' ∷ y) l h = refl
cancel b (t ∷ ts) (k ∷ x) (k' ∷ y) l h = go (leb (nat_abs t) b) refl (cancel b ts x y (omega arith) (λ i q. h (suc i) (omega arith)))
  where
    go : (c : Bool) → leb (nat_abs t) b ≡ c → far x ts + far_up_to b y ts ≡ far y ts + far_up_to b x ts
        → k * nat_abs t + far x ts + (cond c (k' * nat_abs t) 0 + far_up_to b y ts) ≡ k' * nat_abs t + far y ts + (cond c (k * nat_abs t) 0 + far_up_to b x ts)
    go true q r = omega (arith, r)
    go false q r = omega (arith, r, ap (λ (n : ℕ). n * nat_abs t) (h 0 (omega arith) (leb-false (nat_abs t) b q)))

-- each term at most its axis's part of the reach
term_le : (c : Bool) (e k a : ℕ) → k < e → cond c (k * a) 0 ≤ cond c ((e - 1) * a) 0
term_le true e k a h = mul-le-mul_right a (let g : k ≤ e - 1 = omega arith in g)
term_le false e k a h = zero-le

up_le : (b : ℕ) (es : List ℕ) (ts : List ℤ) (x : List ℕ) → Within es x → far_up_to b x ts ≤ reach_up_to b es ts
unfolding far_up_to
up_le b [] ts [] w = zero-le
up_le b [] ts (k ∷ x) w = absurd w
up_le b (e ∷ es) ts [] w = absurd w
up_le b (e ∷ es) [] (k ∷ x) w = zero-le
up_le b (e ∷ es) (t ∷ ts) (k ∷ x) w = omega (arith, term_le (leb (nat_abs t) b) e k (nat_abs t) w.0, up_le b es ts x w.1)

-- at an axis of size b the rest is at most what the other axes leave
pub record Rest (b u k e m : ℕ) : Type 0 where
  pub rest : ℕ
  pub whole : u ≡ k * b + rest
  pub few : rest + (e - 1) * b ≤ m

rest_at : (b : ℕ) (es : List ℕ) (ts : List ℤ) (x : List ℕ) (i : ℕ) → length ts ≡ length es → Within es x → i < length es → size_at ts i ≡ b
    → Rest b (far_up_to b x ts) (get_or x i 0) (get_or es i 0) (reach_up_to b es ts)
unfolding far_up_to
rest_at b [] ts x i l w h q = absurd (omega arith)
rest_at b (e ∷ es) ts [] i l w h q = absurd w
rest_at b (e ∷ es) [] (k ∷ x) i l w h q = absurd (omega arith)
rest_at b (e ∷ es) (t ∷ ts) (k ∷ x) zero l w h q =
    let c : leb (nat_abs t) b ≡ true = le-leb (nat_abs t) b (omega (arith, q)) in
    rw c (record {
      rest = far_up_to b x ts;
      whole = ap (λ (n : ℕ). k * n + far_up_to b x ts) q;
      few = omega (arith, up_le b es ts x w.1, ap (λ (n : ℕ). (e - 1) * n) q);
    })
rest_at b (e ∷ es) (t ∷ ts) (k ∷ x) (suc i) l w h q =
    let r = rest_at b es ts x i (omega arith) w.1 (omega arith) q in
    record {
      rest = cond (leb (nat_abs t) b) (k * nat_abs t) 0 + r.rest;
      whole = omega (arith, r.whole);
      few = omega (arith, r.few, term_le (leb (nat_abs t) b) e k (nat_abs t) w.0);
    }

-- multiples of b with rests below b
multiple : (b k k' r r' : ℕ) → k * b + r ≡ k' * b + r' → r < b → r' < b → k ≡ k'
multiple b k k' r r' e h h' = ⊎_elim
    (λ (q : k < k'). absurd (let g : (k + 1) * b ≤ k' * b = mul-le-mul_right b (let g : k + 1 ≤ k' = omega arith in g) in omega (arith, g, add-mul k 1 b)))
    (λ (q : k' ≤ k). ⊎_elim
    (λ (p : k' ≡ k). sym p)
    (λ (p : k' < k). absurd (let g : (k' + 1) * b ≤ k * b = mul-le-mul_right b (let g : k' + 1 ≤ k = omega arith in g) in omega (arith, g, add-mul k' 1 b)))
    (eq-or-lt_of_le q))
    (below_or k k')

-- above every size
most : List ℤ → ℕ
most [] = 1
most (t ∷ ts) = nat_abs t + most ts

below-most : (ts : List ℤ) (i : ℕ) → size_at ts i < most ts
unfolding most
below-most [] i = omega arith
below-most (t ∷ ts) zero = omega (arith, below-most ts 0)
below-most (t ∷ ts) (suc i) = omega (arith, below-most ts i)

module _ (es : List ℕ) (ts : List ℤ) (l : length ts ≡ length es) (clear : (i : ℕ) → i < length es → ClearAt es ts i)
    (x y : List ℕ) (w : Within es x) (w' : Within es y) (same : far x ts ≡ far y ts) where
  -- the two agree on all axes of size b and more
  Agree : ℕ → Type 0
  Agree b = (i : ℕ) → i < length es → b ≤ size_at ts i → get_or x i 0 ≡ get_or y i 0

  step : (b : ℕ) → Agree (suc b) → Agree b
  unfolding Agree
  step b h i q p = ⊎_elim (λ (e : b ≡ size_at ts i). here (sym e)) (λ (e : b < size_at ts i). h i q e) (eq-or-lt_of_le p)
    where
      lx : length x ≡ length es
      lx = within-length es x w

      ly : length y ≡ length es
      ly = within-length es y w'

      equal : far_up_to b x ts ≡ far_up_to b y ts
      equal = omega (arith, same, cancel b ts x y (lx ∙ sym ly) (λ j g. h j (omega (arith, lx))))

      here : size_at ts i ≡ b → get_or x i 0 ≡ get_or y i 0
      here e =
          let r = rest_at b es ts x i l w q e in
          let r' = rest_at b es ts y i l w' q e in
          let k = within-at es x i w q in
          let k' = within-at es y i w' q in
          ⊎_elim
          (λ (big : 1 < get_or es i 0). let c : reach_up_to b es ts < (get_or es i 0 - 1) * b + b = subst (λ (n : ℕ). reach_up_to n es ts < (get_or es i 0 - 1) * n + n) e (clear i q big) in
          multiple b (get_or x i 0) (get_or y i 0) r.rest r'.rest (sym r.whole ∙ equal ∙ r'.whole) (omega (arith, c, r.few)) (omega (arith, c, r'.few)))
          (λ (one : get_or es i 0 ≤ 1). omega (arith, k, k'))
          (below_or 1 (get_or es i 0))

  down : (b : ℕ) → Agree b → Agree 0
  down zero h = h
  down (suc b) h = down b (step b h)

  pub clear_apart : x ≡ y
  unfolding Agree
  clear_apart =
      let all = down (most ts) (λ i q p. absurd (omega (arith, below-most ts i))) in
      ext_get_or 0 x y (within-length es x w ∙ sym (within-length es y w')) (λ i q. all i (omega (arith, within-length es x w)) zero-le)
