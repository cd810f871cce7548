-- Dropping the axes of extent 1 is picking those that stay; a turn of the loop that finds them; and their arrays. Assumes nothing.
use mathlib.Core.Path.{◌≡◌, refl, sym, ap, ap₂, ◌∙◌, subst}
use mathlib.Core.Bool.{Bool, true, false, cond}
use mathlib.Core.List.{List, [], ◌∷◌, ◌++◌, cons≢nil}
use Prim.Native.Nat.{ℕ, suc, ◌+◌, ◌≤◌, ◌<◌}
use native.Mathlib.Nat.{lt_of_lt_of_le}
use native.Mathlib.Numerals.{add-one}
use native.Mathlib.Omega.{arith}
use lib.Dec.{eqb}
use lib.IntN.{ℤ, pos}
use lib.ListN.{length, get_or, take, set, length-append}
use lib.Seq.{append_snoc, get_or-append_seam, take-suc, take_all, length-take-le}
use borrow.Author.Tests.{eqb-true, eq-eqb, ne_eqb}
use Rattle.strided.specs.Base.{padded, unless}
use Rattle.strided.specs.Layout.{Axis, no_axis, extents}
use Rattle.strided.specs.Order.{pick}
use Rattle.strided.specs.Fuse.{keep, or_first, compress}
use Rattle.strided.specs.Plan.{stride_table}
use Rattle.laws.specs.Base.Arrays.{take_counted}
use Rattle.laws.specs.Base.Stores.{set_behind}
use Rattle.laws.specs.Order.Picked.{length-pick}
use Rattle.laws.specs.Fuse.Arrays.{Below, below_at, get_d_pick, pick_rows}
use Rattle.laws.specs.Fuse.Places.{axes_by, column_by, extents-at, extents_places, table_places}
use Rattle.fuse.specs.Kept.{kept_from, or_zero, stays}

-- ---- picking those that stay

keep-pick : (front ys : List Axis) → keep ys ≡ pick no_axis (front ++ ys) (kept_from (length front) (extents ys))
keep-pick front [] = refl
keep-pick front (a ∷ ys) =
    let long : length (front ++ (a ∷ [])) ≡ suc (length front) = length-append front (a ∷ []) ∙ add-one (length front) in
    go (eqb a.extent 1) (rw (append_snoc front a ys, long) at (keep-pick (front ++ (a ∷ [])) ys))
  where
    go : (b : Bool) → keep ys ≡ pick no_axis (front ++ a ∷ ys) (kept_from (suc (length front)) (extents ys))
        → unless b a (keep ys) ≡ pick no_axis (front ++ a ∷ ys) (unless b (length front) (kept_from (suc (length front)) (extents ys)))
    go true h = h
    go false h = ap₂ (λ (x : Axis) (r : List Axis). x ∷ r) (sym (get_or-append_seam front a ys no_axis)) h

-- where none is kept the first extent is 1
none_kept : (f : ℕ) (fs : List ℕ) → kept_from 0 (f ∷ fs) ≡ [] → f ≡ 1
none_kept f fs h = go (eqb f 1) refl h
  where
    go : (b : Bool) → eqb f 1 ≡ b → unless b 0 (kept_from 1 fs) ≡ [] → f ≡ 1
    go true q e = eqb-true f 1 q
    go false q e = absurd (cons≢nil e)

pub compress-pick : (xs : List Axis) → compress xs ≡ pick no_axis xs (stays (extents xs))
compress-pick [] = refl
compress-pick (a ∷ xs) = go (kept_from 0 (extents (a ∷ xs))) refl (keep-pick [] (a ∷ xs))
  where
    go : (ks : List ℕ) → kept_from 0 (extents (a ∷ xs)) ≡ ks → keep (a ∷ xs) ≡ pick no_axis (a ∷ xs) ks
        → or_first (keep (a ∷ xs)) (a ∷ xs) ≡ pick no_axis (a ∷ xs) (or_zero ks (extents (a ∷ xs)))
    go [] e q =
        ap (λ (l : List Axis). or_first l (a ∷ xs)) q
        ∙ ap (λ (n : ℕ). record { extent = n; strides = a.strides } ∷ []) (sym (none_kept a.extent (extents xs) e))
    go (k ∷ ks) e q = ap (λ (l : List Axis). or_first l (a ∷ xs)) q

-- ---- they are axes that there are

below_more : (n m : ℕ) (o : List ℕ) → n ≤ m → Below n o → Below m o
below_more n m [] h b = tt
below_more n m (a ∷ o) h b = (lt_of_lt_of_le b.0 h, below_more n m o h b.1)

kept-below : (s : ℕ) (fs : List ℕ) → Below (s + length fs) (kept_from s fs)
kept-below s [] = tt
kept-below s (f ∷ fs) = go (eqb f 1) (below_more (suc s + length fs) (s + suc (length fs)) (kept_from (suc s) fs) (omega arith) (kept-below (suc s) fs))
  where
    go : (b : Bool) → Below (s + suc (length fs)) (kept_from (suc s) fs) → Below (s + suc (length fs)) (unless b s (kept_from (suc s) fs))
    go true h = h
    go false h = (omega arith, h)

pub stays-below : (fs : List ℕ) → Below (length fs) (stays fs)
stays-below fs = go (kept_from 0 fs) fs (below_more (0 + length fs) (length fs) (kept_from 0 fs) (omega arith) (kept-below 0 fs))
  where
    go : (ks fs : List ℕ) → Below (length fs) ks → Below (length fs) (or_zero ks fs)
    go [] [] b = tt
    go [] (f ∷ fs) b = (omega arith, tt)
    go (k ∷ ks) fs b = b

pub kept-length : (s : ℕ) (fs : List ℕ) → length (kept_from s fs) ≤ length fs
kept-length s [] = omega arith
kept-length s (f ∷ fs) = go (eqb f 1) (kept-length (suc s) fs)
  where
    go : (b : Bool) → length (kept_from (suc s) fs) ≤ length fs → length (unless b s (kept_from (suc s) fs)) ≤ suc (length fs)
    go true h = omega arith
    go false h = omega arith

stays-length : (fs : List ℕ) → length (stays fs) ≤ length fs
stays-length fs = go (kept_from 0 fs) fs (kept-length 0 fs)
  where
    go : (ks fs : List ℕ) → length ks ≤ length fs → length (or_zero ks fs) ≤ length fs
    go [] [] h = h
    go [] (f ∷ fs) h = omega arith
    go (k ∷ ks) fs h = h

-- ---- a turn

kept_snoc : (s : ℕ) (fs : List ℕ) (f : ℕ) → kept_from s (fs ++ (f ∷ [])) ≡ cond (eqb f 1) (kept_from s fs) (kept_from s fs ++ ((s + length fs) ∷ []))
kept_snoc s [] f = let q : s + 0 ≡ s = omega arith in rw q
kept_snoc s (x ∷ fs) f =
    let q : s + suc (length fs) ≡ suc s + length fs = omega arith in
    rw q (go (eqb x 1) (eqb f 1) (kept_snoc (suc s) fs f))
  where
    go : (b c : Bool) → kept_from (suc s) (fs ++ (f ∷ [])) ≡ cond c (kept_from (suc s) fs) (kept_from (suc s) fs ++ ((suc s + length fs) ∷ []))
        → unless b s (kept_from (suc s) (fs ++ (f ∷ []))) ≡ cond c (unless b s (kept_from (suc s) fs)) (unless b s (kept_from (suc s) fs) ++ ((suc s + length fs) ∷ []))
    go true c h = h
    go false true h = ap (λ (r : List ℕ). s ∷ r) h
    go false false h = ap (λ (r : List ℕ). s ∷ r) h

kept_next : (F : List ℕ) (i : ℕ) → i < length F → kept_from 0 (take (i + 1) F) ≡ cond (eqb (get_or F i 0) 1) (kept_from 0 (take i F)) (kept_from 0 (take i F) ++ (i ∷ []))
kept_next F i h =
    let e : 0 + length (take i F) ≡ i = omega (arith, length-take-le i F (omega arith)) in
    rw (add-one i, take-suc F i 0 h) (kept_snoc 0 (take i F) (get_or F i 0) ∙ ap (λ (j : ℕ). cond (eqb (get_or F i 0) 1) (kept_from 0 (take i F)) (kept_from 0 (take i F) ++ (j ∷ []))) e)

pick_snoc : (xs o : List ℕ) (a : ℕ) → pick 0 xs (o ++ (a ∷ [])) ≡ pick 0 xs o ++ (get_or xs a 0 ∷ [])
pick_snoc xs [] a = refl
pick_snoc xs (b ∷ o) a = ap (λ (r : List ℕ). get_or xs b 0 ∷ r) (pick_snoc xs o a)

-- what is picked of xs by the places ks, in an array; and one more behind it
abbrev pub Picked : List ℕ → List ℕ → List ℕ → Type 0
Picked xs ks out = out ≡ padded 64 0 (pick 0 xs ks)

picked_more : (xs ks out : List ℕ) (a count : ℕ) → Picked xs ks out → count ≡ length ks → count < 64 → Picked xs (ks ++ (a ∷ [])) (set out count (get_or xs a 0))
picked_more xs ks out a count p q h =
    let long : length (pick 0 xs ks) ≡ length ks = length-pick 0 xs ks in
    ap₂ (λ (l : List ℕ) (j : ℕ). set l j (get_or xs a 0)) p (q ∙ sym long)
    ∙ set_behind 0 64 (pick 0 xs ks) (get_or xs a 0) (omega (arith, long))
    ∙ ap (padded 64 0) (sym (pick_snoc xs ks a))

-- what the loop has found among the first i places: F the extents, O the order
pub record Found (F O : List ℕ) (i : ℕ) (extents axes : List ℕ) (count : ℕ) : Type 0 where
  pub few : count ≤ i
  pub lengths : Picked F (kept_from 0 (take i F)) extents
  pub names : Picked O (kept_from 0 (take i F)) axes
  pub number : count ≡ length (kept_from 0 (take i F))

module _ (F O E A : List ℕ) (i count : ℕ) (h : i < length F) (s : i < 64) (t : Found F O i E A count) where
  pub found_one : (E' A' : List ℕ) (count' : ℕ) → get_or F i 0 ≡ 1 → E' ≡ E → A' ≡ A → count' ≡ count → Found F O (i + 1) E' A' count'
  found_one E' A' count' e p q r =
      let same : kept_from 0 (take (i + 1) F) ≡ kept_from 0 (take i F) = kept_next F i h ∙ rw (eq-eqb (get_or F i 0) 1 e) in
      record {
        few = omega (arith, t.few);
        lengths = p ∙ t.lengths ∙ ap (λ (ks : List ℕ). padded 64 0 (pick 0 F ks)) (sym same);
        names = q ∙ t.names ∙ ap (λ (ks : List ℕ). padded 64 0 (pick 0 O ks)) (sym same);
        number = r ∙ t.number ∙ ap length (sym same);
      }

  pub found_other : (E' A' : List ℕ) (count' : ℕ) → (get_or F i 0 ≡ 1 → ⊥) → E' ≡ set E count (get_or F i 0) → A' ≡ set A count (get_or O i 0) → count' ≡ count + 1
      → Found F O (i + 1) E' A' count'
  found_other E' A' count' f p q r =
      let more : kept_from 0 (take (i + 1) F) ≡ kept_from 0 (take i F) ++ (i ∷ []) = kept_next F i h ∙ rw (ne_eqb (get_or F i 0) 1 f) in
      let long : length (kept_from 0 (take i F) ++ (i ∷ [])) ≡ length (kept_from 0 (take i F)) + 1 = length-append (kept_from 0 (take i F)) (i ∷ []) in
      let room : count < 64 = omega (arith, t.few) in
      record {
        few = omega (arith, t.few);
        lengths = p ∙ picked_more F (kept_from 0 (take i F)) E i count t.lengths t.number room ∙ ap (λ (ks : List ℕ). padded 64 0 (pick 0 F ks)) (sym more);
        names = q ∙ picked_more O (kept_from 0 (take i F)) A i count t.names t.number room ∙ ap (λ (ks : List ℕ). padded 64 0 (pick 0 O ks)) (sym more);
        number = r ∙ ap (λ (j : ℕ). j + 1) t.number ∙ sym long ∙ ap length (sym more);
      }

-- ---- the ways out

-- the places ks, their number and what they pick
abbrev pub Stand : List ℕ → List ℕ → List ℕ → List ℕ → List ℕ → ℕ → Type 0
Stand F O ks E A count = (count ≡ length ks) × (Picked F ks E × Picked O ks A)

module _ (F O E A : List ℕ) (i count : ℕ) (t : Found F O i E A count) (e : length F ≤ i) where
  all_found : Stand F O (kept_from 0 F) E A count
  all_found =
      let q : take i F ≡ F = take_all i F e in (
        t.number ∙ ap (λ (G : List ℕ). length (kept_from 0 G)) q,
        (
          t.lengths ∙ ap (λ (G : List ℕ). padded 64 0 (pick 0 F (kept_from 0 G))) q,
          t.names ∙ ap (λ (G : List ℕ). padded 64 0 (pick 0 O (kept_from 0 G))) q,
        ),
      )

  -- some are kept
  pub out_some : (count ≡ 0 → ⊥) → Stand F O (stays F) E A count
  out_some f = go (kept_from 0 F) all_found
    where
      go : (ks : List ℕ) → Stand F O ks E A count → Stand F O (or_zero ks F) E A count
      go [] w = absurd (f w.0)
      go (k ∷ ks) w = w

  -- none is, and there was none
  pub out_none : length F ≡ 0 → Stand F O (stays F) E A count
  out_none w = go F w all_found
    where
      go : (G : List ℕ) → length G ≡ 0 → Stand F O (kept_from 0 G) E A count → Stand F O (stays G) E A count
      go [] w r = r
      go (f ∷ G) w r = absurd (bad w)
        where
          bad : suc (length G) ≡ 0 → ⊥
          bad w = omega arith

  -- none is, and there was one
  pub out_first : count ≡ 0 → 0 < length F → Stand F O (stays F) (set E 0 (get_or F 0 0)) (set A 0 (get_or O 0 0)) 1
  out_first z l = go (kept_from 0 F) all_found F l
    where
      go : (ks : List ℕ) → Stand F O ks E A count → (G : List ℕ) → 0 < length G → Stand F O (or_zero ks G) (set E 0 (get_or F 0 0)) (set A 0 (get_or O 0 0)) 1
      go [] r [] g = absurd (bad g)
        where
          bad : 0 < 0 → ⊥
          bad h = omega arith
      go [] r (f ∷ G) g = (refl, (ap (λ (x : List ℕ). set x 0 (get_or F 0 0)) r.1.0, ap (λ (x : List ℕ). set x 0 (get_or O 0 0)) r.1.1))
      go (k ∷ ks) r G g = absurd (bad r.0)
        where
          bad : count ≡ suc (length ks) → ⊥
          bad p = omega arith

-- ---- the axes that stay, in arrays

module _ (ss : List ℤ) (p m : ℕ) (O F : List ℕ) (few : length F ≤ 64) where
  -- the axes without those of extent 1
  kept_compressed : compress (axes_by ss p m O F) ≡ pick no_axis (axes_by ss p m O F) (stays F)
  kept_compressed =
      compress-pick (axes_by ss p m O F) ∙ ap (λ (fs : List ℕ). pick no_axis (axes_by ss p m O F) (stays fs)) (extents-at (column_by ss p m O) 0 F)

  module _ {E A : List ℕ} {count : ℕ} (w : Stand F O (stays F) E A count) where
    pub stand_count : count ≤ 64
    stand_count = omega (arith, w.0, stays-length F)

    names_are : take count A ≡ pick 0 O (stays F)
    names_are = ap (take count) w.1.1 ∙ take_counted 0 64 count (pick 0 O (stays F)) (length-pick 0 O (stays F) ∙ sym w.0) stand_count

    names_long : length (take count A) ≡ length (stays F)
    names_long = ap length names_are ∙ length-pick 0 O (stays F)

    pub stand_few : length (take count A) ≤ 64
    stand_few = omega (arith, names_long, stays-length F)

    pub stand_inside : ((j : ℕ) → j < length F → get_or O j 0 < p) → (j : ℕ) → j < length (take count A) → get_or (take count A) j 0 < p
    stand_inside f j g =
        let h : j < length (stays F) = omega (arith, names_long) in
        let a : get_or (stays F) j 0 < length F = below_at (length F) (stays F) (stays-below F) j h in
        subst (λ (x : ℕ). x < p) (sym (ap (λ (x : List ℕ). get_or x j 0) names_are ∙ get_d_pick 0 O (stays F) j h)) (f (get_or (stays F) j 0) a)

    pub stand_rank : count ≡ length (compress (axes_by ss p m O F))
    stand_rank = w.0 ∙ sym (ap length kept_compressed ∙ length-pick no_axis (axes_by ss p m O F) (stays F))

    pub stand_extents : E ≡ padded 64 0 (extents (compress (axes_by ss p m O F)))
    stand_extents = w.1.0 ∙ ap (padded 64 0) (sym (ap extents kept_compressed ∙ extents_places (column_by ss p m O) F (stays F) (stays-below F)))

    pub stand_strides : {T : List ℤ} → T ≡ padded 512 (pos 0) (pick_rows ss p (take count A) m) → T ≡ stride_table (compress (axes_by ss p m O F)) m
    stand_strides q =
        q ∙ ap (λ (o : List ℕ). padded 512 (pos 0) (pick_rows ss p o m)) names_are
        ∙ table_places ss p m O F (stays F) (stays-below F)
        ∙ ap (λ (xs : List Axis). stride_table xs m) (sym kept_compressed)
