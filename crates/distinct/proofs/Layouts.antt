-- The list of a layout, axis by axis from the last. Assumes nothing.
use mathlib.Core.Path.{◌≡◌, refl, sym, ap, ap₂, ◌∙◌, subst}
use mathlib.Core.Logic.{inl, inr, ◌↔◌}
use mathlib.Core.Bool.{true, false, false≢true}
use mathlib.Core.List.{List, [], ◌∷◌}
use Prim.Native.Nat.{ℕ, zero, suc, ◌+◌, ◌-◌, ◌*◌, ◌^◌, ◌<◌, ◌≤◌}
use native.Mathlib.Nat.{mul_comm, mul-le-mul_left}
use native.Mathlib.Omega.{arith}
use lib.IntN.{ℤ, pos, nat_abs}
use lib.ListN.{length, get_or, take, drop}
use lib.Seq.{drop-cons, drop-length}
use Rattle.strided.specs.Layout.{Within, NoZero, total, reach}
use Rattle.laws.specs.Base.Layouts.{nozero_at, total-drop}
use Rattle.laws.specs.Refusals.Reaches.{reach-drop}
use Rattle.laws.specs.Refusals.Zeros.{total_some}
use Rattle.distinct.specs.Lists.{In, top, Low}
use Rattle.distinct.specs.Copies.{Copied, Fold}
use Rattle.strided.specs.Mark.{Shared}
use Rattle.laws.specs.Mark.Sizes.{far, far-reach, Near, near-later}
use Rattle.laws.specs.Mark.Mirror.{shared-near, near-shared}
use Rattle.distinct.proofs.Copying.{copied-one}

-- an index as far as u
pub record Reached (es : List ℕ) (ts : List ℤ) (u : ℕ) : Type 0 where
  pub index : List ℕ
  pub inside : Within es index
  pub is : u ≡ far index ts

-- l lists how far the indices are, and no two are equally far
pub record Lists (es : List ℕ) (ts : List ℤ) (l : List ℕ) : Type 0 where
  pub size : length l ≡ total es
  pub covers : (x : List ℕ) → Within es x → In (far x ts) l
  pub from : (u : ℕ) → In u l → Reached es ts u
  pub apart : (x y : List ℕ) → Within es x → Within es y → far x ts ≡ far y ts → x ≡ y

pub lists_none : Lists [] [] (0 ∷ [])
lists_none = record {
  size = refl;
  covers = none_covers;
  from = none_from;
  apart = none_apart;
}
  where
    none_covers : (x : List ℕ) → Within [] x → In (far x []) (0 ∷ [])
    none_covers [] w = inl refl
    none_covers (k ∷ x) w = absurd w

    none_from : (u : ℕ) → In u (0 ∷ []) → Reached [] [] u
    none_from u (inl e) = record { index = []; inside = tt; is = sym e }
    none_from u (inr h) = absurd h

    none_apart : (x y : List ℕ) → Within [] x → Within [] y → far x [] ≡ far y [] → x ≡ y
    none_apart [] [] w w' e = refl
    none_apart [] (k ∷ y) w w' e = absurd w'
    none_apart (k ∷ x) y w w' e = absurd w

module _ (es : List ℕ) (ts : List ℤ) (l : List ℕ) (i : Lists es ts l) (e : ℕ) (t : ℤ) where
  pub lists_more : (z : List ℕ) → Copied l e (nat_abs t) z → Lists (e ∷ es) (t ∷ ts) z
  lists_more z s = record {
    size = s.size ∙ ap (λ (n : ℕ). n * e) i.size ∙ mul_comm (total es) e;
    covers = more_covers;
    from = λ u q. let c = s.from u q in
        let r = i.from c.v c.inside in
        record { index = c.k ∷ r.index; inside = (c.few, r.inside); is = c.is ∙ ap (λ (n : ℕ). c.k * nat_abs t + n) r.is };
    apart = more_apart;
  }
    where
      more_covers : (x : List ℕ) → Within (e ∷ es) x → In (far x (t ∷ ts)) z
      more_covers [] w = absurd w
      more_covers (k ∷ x) w = s.covers k (far x ts) w.0 (i.covers x w.1)

      more_apart : (x y : List ℕ) → Within (e ∷ es) x → Within (e ∷ es) y → far x (t ∷ ts) ≡ far y (t ∷ ts) → x ≡ y
      more_apart [] y w w' q = absurd w
      more_apart (k ∷ x) [] w w' q = absurd w'
      more_apart (k ∷ x) (k' ∷ y) w w' q =
          let p = s.apart k (far x ts) k' (far y ts) w.0 (i.covers x w.1) w'.0 (i.covers y w'.1) q in
          ap₂ (λ (n : ℕ) (r : List ℕ). n ∷ r) p.0 (i.apart x y w.1 w'.1 p.1)

  pub near_fold : Fold l e (nat_abs t) → Near (e ∷ es) (t ∷ ts)
  near_fold f =
      let r = i.from f.v f.inside in
      let r' = i.from f.v' f.inside' in
      record {
        one = f.k ∷ r.index;
        other = f.k' ∷ r'.index;
        one_in = (omega (arith, f.less, f.few), r.inside);
        other_in = (f.few, r'.inside);
        differ = λ q. let g : f.k ≡ f.k' = cc in absurd (omega (arith, f.less));
        same = omega (arith, f.same, r.is, r'.is);
      }

near-drop : (es : List ℕ) (ts : List ℤ) (i : ℕ) → NoZero es → length ts ≡ length es → Near (drop i es) (drop i ts) → Near es ts
near-drop es ts zero z l s = s
near-drop [] [] (suc i) z l s = s
near-drop [] (t ∷ ts) (suc i) z l s = absurd (omega arith)
near-drop (e ∷ es) [] (suc i) z l s = absurd (omega arith)
near-drop (e ∷ es) (t ∷ ts) (suc i) z l s = near-later e es t ts z.0 (near-drop es ts i z.1 (omega arith) s)

-- ---- the axes behind

nozero_drop : (es : List ℕ) (i : ℕ) → NoZero es → NoZero (drop i es)
nozero_drop es zero z = z
nozero_drop [] (suc i) z = z
nozero_drop (e ∷ es) (suc i) z = nozero_drop es i z.1

-- ---- the loop: the axes from i on are listed, in an array of N places

pub record Behind (N : ℕ) (es : List ℕ) (ts : List ℤ) (list : List ℕ) (n i : ℕ) : Type 0 where
  pub within : i ≤ length es
  pub long : length list ≡ N
  pub count : n ≡ total (drop i es)
  pub lists : Lists (drop i es) (drop i ts) (take n list)

-- what `spread` and `extend` ask for
pub record Ready (N : ℕ) (list : List ℕ) (n e a : ℕ) : Type 0 where
  pub one : 0 < n
  pub some : 0 < e
  pub room : n * e ≤ N
  pub long : n ≤ N
  pub high : (e - 1) * a < top
  pub low : Low list n ((e - 1) * a)

pub behind_starts : (N : ℕ) (es : List ℕ) (ts : List ℤ) (list : List ℕ) → length ts ≡ length es → length list ≡ N → take 1 list ≡ 0 ∷ [] → Behind N es ts list 1 (length es)
behind_starts N es ts list l h e =
    let none : drop (length es) es ≡ [] = drop-length es in
    let none' : drop (length es) ts ≡ [] = ap (λ (n : ℕ). drop n ts) (sym l) ∙ drop-length ts in
    record {
      within = omega arith;
      long = h;
      count = ap total (sym none);
      lists = rw (none, none', e) lists_none;
    }

module _ (N : ℕ) (es : List ℕ) (ts : List ℤ) (l : length ts ≡ length es) (z : NoZero es) (small : total es ≤ N) (near : reach es ts ≤ 2 ^ 63 - 1) where
  module _ (list : List ℕ) (n i : ℕ) (b : Behind N es ts list n i) (p : 0 < i) where
    e : ℕ
    e = get_or es (i - 1) 0

    t : ℤ
    t = get_or ts (i - 1) (pos 0)

    next : suc (i - 1) ≡ i
    next = omega arith

    extents : drop (i - 1) es ≡ e ∷ drop i es
    unfolding e
    extents = drop-cons es (i - 1) 0 (omega (arith, b.within)) ∙ ap (λ (k : ℕ). get_or es (i - 1) 0 ∷ drop k es) next

    strides : drop (i - 1) ts ≡ t ∷ drop i ts
    unfolding t
    strides = drop-cons ts (i - 1) (pos 0) (omega (arith, b.within, l)) ∙ ap (λ (k : ℕ). get_or ts (i - 1) (pos 0) ∷ drop k ts) next

    room : n * e ≤ N
    room =
        let g : total (drop (i - 1) es) ≡ e * total (drop i es) = ap total extents in
        omega (arith, g, total-drop es (i - 1) z, b.count, mul_comm e (total (drop i es)), ap (λ (k : ℕ). k * e) b.count)

    reaches : (e - 1) * nat_abs t + reach (drop i es) (drop i ts) ≤ 2 ^ 63 - 1
    reaches =
        let g : reach (drop (i - 1) es) (drop (i - 1) ts) ≡ (e - 1) * nat_abs t + reach (drop i es) (drop i ts) = ap₂ reach extents strides in
        omega (arith, g, reach-drop es ts (i - 1) l, near)

    below : (v : ℕ) → In v (take n list) → v + (e - 1) * nat_abs t < top
    below v q =
        let r = b.lists.from v q in
        omega (arith, r.is, far-reach (drop i es) (drop i ts) r.index r.inside, reaches)

    pub behind_ready : Ready N list n (get_or es (i - 1) 0) (nat_abs (get_or ts (i - 1) (pos 0)))
    unfolding e t
    behind_ready = record {
      one = omega (arith, b.count, total_some (drop i es) (nozero_drop es i z));
      some = some_e;
      room = room;
      long = omega (arith, room, mul-le-mul_left n some_e);
      high = omega (arith, reaches);
      low = below;
    }
      where
        some_e : 1 ≤ get_or es (i - 1) 0
        some_e = nozero_at es (i - 1) z (omega (arith, b.within))

    grown : (list' : List ℕ) (m : ℕ) → length list' ≡ N → m ≡ n * e → Copied (take n list) e (nat_abs t) (take m list') → Behind N es ts list' m (i - 1)
    grown list' m h q s = record {
      within = omega (arith, b.within);
      long = h;
      count = q ∙ ap (λ (k : ℕ). k * e) b.count ∙ mul_comm (total (drop i es)) e ∙ sym (ap total extents);
      lists = rw (extents, strides) (lists_more (drop i es) (drop i ts) (take n list) b.lists e t (take m list') s);
    }

    pub behind_more : (list' : List ℕ) → length list' ≡ N
        → Copied (take n list) (get_or es (i - 1) 0) (nat_abs (get_or ts (i - 1) (pos 0))) (take (n * get_or es (i - 1) 0) list') → Behind N es ts list' (n * get_or es (i - 1) 0) (i - 1)
    unfolding e t
    behind_more list' h s = grown list' (n * e) h refl s

    -- an axis of one index changes nothing
    pub behind_one : get_or es (i - 1) 0 ≤ 1 → Behind N es ts list n (i - 1)
    unfolding e t
    behind_one h =
        let one : 1 ≡ e = omega (arith, nozero_at es (i - 1) z (omega (arith, b.within)), h) in
        grown list n b.long (let g : n ≡ n * 1 = omega arith in g ∙ ap (λ (k : ℕ). n * k) one)
        (subst (λ (k : ℕ). Copied (take n list) k (nat_abs t) (take n list)) one (copied-one (take n list) (nat_abs t)))

    pub behind_folds : Fold (take n list) (get_or es (i - 1) 0) (nat_abs (get_or ts (i - 1) (pos 0))) → Shared es ts
    unfolding e t
    behind_folds f =
        near-shared es ts l (near-drop es ts (i - 1) z l (rw (extents, strides) (near_fold (drop i es) (drop i ts) (take n list) b.lists e t f)))

  pub behind_ends : (list : List ℕ) (n i : ℕ) → Behind N es ts list n i → i ≤ 0 → Shared es ts → ⊥
  behind_ends list n i b h s =
      let q : i ≡ 0 = omega arith in
      let a : Lists es ts (take n list) = subst (λ (k : ℕ). Lists (drop k es) (drop k ts) (take n list)) q b.lists in
      let d = shared-near es ts l s in
      d.differ (a.apart d.one d.other d.one_in d.other_in d.same)

pub shared_true : {es : List ℕ} {ts : List ℤ} → Shared es ts → (true ≡ true) ↔ Shared es ts
shared_true s = ((λ q. s), (λ q. refl))

pub shared_false : {es : List ℕ} {ts : List ℤ} → (Shared es ts → ⊥) → (false ≡ true) ↔ Shared es ts
shared_false f = ((λ q. absurd (false≢true q)), (λ q. absurd (f q)))
