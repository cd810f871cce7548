-- A WINDOW OF A WINDOW IS A WINDOW OF THE PARENT, if the inner one has no count of 0: its firsts are the parent indices of the inner firsts,
-- its steps the products, its counts the inner counts. No hypothesis says that the products fit 64 bits: that is asked only of whoever calls
-- the entry with them (a product can be too long where a count is 1, and there any step will do). Outer lists fs, ns, st; inner gs, ms, ut.
-- Assumes nothing.
use Rattle.std.specs.Prelude.{◌≡◌, refl, Bool, true, cond, List, [], ◌∷◌, ℕ, ◌<◌, ℤ, pos, nat_abs, ◌+ℤ◌, ◌*ℤ◌, length, get_or, Option, None, Ok}
use Rattle.std.proofs.Common.{sym, ap₂, ◌∙◌, subst, mul-pos, arith}
use Rattle.std.proofs.Math.Path.{ap}
use Rattle.std.proofs.Math.Bool.{false}
use Rattle.std.proofs.Math.IntN.{+ℤ_assoc}
use borrow.Author.Tests.{eq-eqb, ne_eqb}
use Rattle.strided.specs.Base.{some_of}
use Rattle.strided.specs.Layout.{Within, NoZero, has_zero, dot, in_i64, stride_row}
use Rattle.strided.specs.declared.Refusal.{Refusal}
use Rattle.window.specs.declared.Windowed.{Windowed}
use Rattle.laws.specs.Base.Integers.{add-*ℤ, *ℤ-assoc, nat_abs_product}
use Rattle.laws.specs.Base.Refusals.{NoneApplies, none_applies}
use Rattle.laws.specs.Refusals.Operands.{some_of_none}
use Rattle.laws.specs.Refusals.Rows.{none_refuses}
use Rattle.laws.specs.Refusals.Zeros.{no_zero_test}
use Rattle.window.specs.Window.{along, parent_index, window_strides, shift_of, window_shifts, on_axis, axis_wrong, axis_wrong_at, stride_over, lists_wrong, window_rows, window_refused, some_window, windowed}
use Rattle.window.specs.Axes.{AxisLies, spans, index_on, outside_exact, index_there, axis_within}
use Rattle.window.specs.Indices.{Lies, lies_counted, no_axis_lem, one_more_lem, lies_at, parent_within, parent_dot, parent_nozero}
use Rattle.window.specs.Layouts.{WindowTaken, window_taken, served_window, window_row}
use Rattle.window.specs.Places.{no_stride_over}
use Rattle.window.specs.Starts.{shift_at, window_offset}
use Rattle.strided.specs.Refusals.{served_unless}

abbrev pub nested_firsts : List ℕ → List ℤ → List ℕ → List ℕ
nested_firsts fs st gs = parent_index fs st gs

abbrev pub nested_steps : List ℤ → List ℤ → List ℤ
nested_steps [] ut = []
nested_steps (s ∷ st) [] = []
nested_steps (s ∷ st) (u ∷ ut) = (u *ℤ s) ∷ nested_steps st ut

-- ---- one axis

module _ {e f n g m : ℕ} {s u : ℤ} (a : AxisLies e f n s) (b : AxisLies n g m u) (p : 0 < m) where
  -- the inner index i, by way of the outer window
  along_nested : (i : ℕ) → i < m → along (nat_abs (along f s g)) (u *ℤ s) i ≡ along f s (nat_abs (along g u i))
  along_nested i h =
      let first : pos (nat_abs (along f s g)) ≡ pos f +ℤ pos g *ℤ s = (index_there e f n s a g (spans n g m u b.inside p).first).0 in
      let inner : pos (nat_abs (along g u i)) ≡ pos g +ℤ pos i *ℤ u = (index_there n g m u b i h).0 in
      ap (λ (z : ℤ). z +ℤ pos i *ℤ (u *ℤ s)) first ∙ +ℤ_assoc (pos f) (pos g *ℤ s) (pos i *ℤ (u *ℤ s))
      ∙ ap (λ (z : ℤ). pos f +ℤ (pos g *ℤ s +ℤ z)) (sym (*ℤ-assoc (pos i) u s)) ∙ ap (λ (z : ℤ). pos f +ℤ z) (sym (add-*ℤ (pos g) (pos i *ℤ u) s))
      ∙ ap (λ (z : ℤ). pos f +ℤ z *ℤ s) (sym inner)

  axis_nested : AxisLies e (nat_abs (along f s g)) m (u *ℤ s)
  axis_nested =
      record {
        steps = subst (λ (k : ℕ). 0 < k) (sym (nat_abs_product u s)) (mul-pos b.steps a.steps);
        inside = (outside_exact e (nat_abs (along f s g)) m (u *ℤ s) p).1 each;
      }
    where
      each : (i : ℕ) → i < m → on_axis e (along (nat_abs (along f s g)) (u *ℤ s) i) ≡ true
      each i h =
          let l : nat_abs (along g u i) < n = axis_within n g m u b i h in
          ap (on_axis e) (along_nested i h) ∙ index_on e f n (nat_abs (along g u i)) s (spans e f n s a.inside (omega (arith, l))) l

-- ---- all axes

pub nested_lies : {es fs ns gs ms : List ℕ} {st ut : List ℤ} → Lies es fs ns st → Lies ns gs ms ut → NoZero ms → Lies es (parent_index fs st gs) ms (nested_steps st ut)
nested_lies no_axis_lem no_axis_lem h = no_axis_lem
nested_lies (one_more_lem a r) (one_more_lem b q) h = one_more_lem (axis_nested a b h.0) (nested_lies r q h.1)

-- the parent index of the parent index
pub nested_index : {es fs ns gs ms : List ℕ} {st ut : List ℤ} → Lies es fs ns st → Lies ns gs ms ut → NoZero ms → (x : List ℕ) → Within ms x
    → parent_index (parent_index fs st gs) (nested_steps st ut) x ≡ parent_index fs st (parent_index gs ut x)
nested_index no_axis_lem no_axis_lem h [] w = refl
nested_index no_axis_lem no_axis_lem h (i ∷ x) w = absurd w
nested_index (one_more_lem a r) (one_more_lem b q) h [] w = absurd w
nested_index (one_more_lem a r) (one_more_lem b q) h (i ∷ x) w =
    ap₂ (λ (k : ℕ) (y : List ℕ). k ∷ y) (ap nat_abs (along_nested a b h.0 i w.0)) (nested_index r q h.1 x w.1)

-- the inner firsts are an index of the outer window
firsts-within : {ns gs ms : List ℕ} {ut : List ℤ} → Lies ns gs ms ut → NoZero ms → Within ns gs
firsts-within no_axis_lem h = tt
firsts-within (one_more_lem {e} {f} {n} {s} b q) h = ((spans e f n s b.inside h.0).first, firsts-within q h.1)

right_axis_back : (e f n : ℕ) (s : ℤ) → AxisLies e f n s → axis_wrong e f n s ≡ false
right_axis_back e f n s a = rw (ne_eqb (nat_abs s) 0 (λ q. absurd (omega (arith, a.steps, q)))) a.inside

-- ---- the two entries, and the one

pub record Nested (es sizes : List ℕ) (ss : List ℤ) (fs ns : List ℕ) (st ws : List ℤ) (gs ms : List ℕ) (ut : List ℤ) : Type 0 where
  -- the one window is not refused
  pub taken : windowed es sizes ss (nested_firsts fs st gs) ms (nested_steps st ut) ≡ Ok (some_window es sizes ss (nested_firsts fs st gs) ms (nested_steps st ut))
  -- its parent indices are those of the two
  pub indices : (x : List ℕ) → Within ms x → parent_index (nested_firsts fs st gs) (nested_steps st ut) x ≡ parent_index fs st (parent_index gs ut x)
  -- its shifts are the sums
  pub shifts : (k : ℕ) → k < length sizes
      → get_or (window_shifts (nested_firsts fs st gs) ms ss (length es) (length sizes)) k (pos 0)
      ≡ get_or (window_shifts fs ns ss (length es) (length sizes)) k (pos 0) +ℤ get_or (window_shifts gs ms ws (length ns) (length sizes)) k (pos 0)
  -- and the offsets behind the starts agree cell by cell (on an axis of count 1 the two may have another stride, which no offset sees)
  pub offsets : (x : List ℕ) → Within ms x → (k : ℕ) → k < length sizes
      → get_or (window_shifts (nested_firsts fs st gs) ms ss (length es) (length sizes)) k (pos 0)
      +ℤ dot x (stride_row (window_strides ms (nested_steps st ut) ss (length es) (length sizes)) (length ms) k)
      ≡ get_or (window_shifts fs ns ss (length es) (length sizes)) k (pos 0)
      +ℤ (get_or (window_shifts gs ms ws (length ns) (length sizes)) k (pos 0) +ℤ dot x (stride_row (window_strides ms ut ws (length ns) (length sizes)) (length ms) k))

module _ (es sizes : List ℕ) (ss : List ℤ) (fs ns : List ℕ) (st : List ℤ) (gs ms : List ℕ) (ut : List ℤ) where
  abbrev M : ℕ
  M = length sizes

  abbrev rank : ℕ
  rank = length es

  -- the outer window's strides, and the firsts and steps of the one window
  abbrev ws : List ℤ
  ws = window_strides ns st ss (length es) (length sizes)

  abbrev hs : List ℕ
  hs = nested_firsts fs st gs

  abbrev vt : List ℤ
  vt = nested_steps st ut

  module _ {o i : Windowed} (outer : windowed es sizes ss fs ns st ≡ Ok o) (inner : windowed ns sizes ws gs ms ut ≡ Ok i) (nz : NoZero ms)
      (fits : (j : ℕ) → j < length ss → in_i64 (get_or ss j (pos 0)) ≡ true) where
    w : WindowTaken es (length sizes) ss fs ns st
    w = window_taken es sizes ss fs ns st (served_window es sizes ss fs ns st outer)

    v : WindowTaken ns (length sizes) ws gs ms ut
    v = window_taken ns sizes ws gs ms ut (served_window ns sizes ws gs ms ut inner)

    lies : Lies es hs ms vt
    lies = nested_lies w.lies v.lies nz

    held : some_of (stride_over (window_strides ms vt ss rank M)) 0 (length (window_strides ms vt ss rank M)) ≡ false
    held = no_stride_over lies ss M w.strides (w.near (no_zero_test es (parent_nozero lies nz))) fits

    not-refused : window_refused es sizes ss hs ms vt ≡ None
    unfolding window_refused NoneApplies
    not-refused =
        let a : NoneApplies (window_rows es sizes ss fs ns st) = none_applies (window_rows es sizes ss fs ns st) (served_window es sizes ss fs ns st outer) in
        let l = lies_counted lies in
        let lists : lists_wrong rank (length hs) (length ms) (length vt) ≡ false = rw (eq-eqb (length hs) rank l.firsts, eq-eqb (length ms) rank l.counts, eq-eqb (length vt) rank l.steps) in
        let axes : some_of (axis_wrong_at es hs ms vt) 0 rank ≡ false =
        some_of_none (axis_wrong_at es hs ms vt) rank (λ i h. right_axis_back (get_or es i 0) (get_or hs i 0) (get_or ms i 0) (get_or vt i (pos 0)) (lies_at lies i h)) in
        none_refuses (window_rows es sizes ss hs ms vt) (a.0, (a.1.0, (a.1.1.0, (a.1.1.1.0, (a.1.1.1.1.0, (rw (lists, axes) held, tt))))))

    served : windowed es sizes ss hs ms vt ≡ Ok (some_window es sizes ss hs ms vt)
    unfolding windowed
    served = ap (λ (r : Option Refusal). served_unless r (some_window es sizes ss hs ms vt)) not-refused

    t : WindowTaken es (length sizes) ss hs ms vt
    t = window_taken es sizes ss hs ms vt not-refused

    -- operand k's strides in the parent, and in the outer window
    abbrev lr : ℕ → List ℤ
    lr k = stride_row ss rank k

    shift_dot : (xs ys : List ℕ) (ts : List ℤ) → has_zero ys ≡ false → shift_of xs ys ts ≡ dot xs ts
    shift_dot xs ys ts q = ap (λ (b : Bool). cond b (pos 0) (dot xs ts)) q

    shift_sum : (k : ℕ) → k < length sizes → get_or (window_shifts hs ms ss rank M) k (pos 0) ≡ get_or (window_shifts fs ns ss rank M) k (pos 0) +ℤ get_or (window_shifts gs ms ws (length ns) M) k (pos 0)
    shift_sum k h =
        let zi : has_zero ms ≡ false = no_zero_test ms nz in
        let zo : has_zero ns ≡ false = no_zero_test ns (parent_nozero v.lies nz) in
        shift_at es sizes ss hs ms vt t k h ∙ shift_dot hs ms (lr k) zi
        ∙ sym (parent_dot w.lies (lr k) gs (firsts-within v.lies nz))
        ∙ ap₂ (λ (a b : ℤ). a +ℤ b)
        (sym (shift_at es sizes ss fs ns st w k h ∙ shift_dot fs ns (lr k) zo))
        (ap (dot gs) (sym (window_row es sizes ss fs ns st w k h)) ∙ sym (shift_at ns sizes ws gs ms ut v k h ∙ shift_dot gs ms (stride_row ws (length ns) k) zi))

    -- A WINDOW OF A WINDOW IS A WINDOW OF THE PARENT
    pub window_of_window : Nested es sizes ss fs ns st (window_strides ns st ss (length es) (length sizes)) gs ms ut
    window_of_window =
        record {
          taken = served;
          indices = nested_index w.lies v.lies nz;
          shifts = shift_sum;
          offsets = λ x q k h.
              window_offset es sizes ss hs ms vt t x q k h ∙ ap (λ (y : List ℕ). dot y (lr k)) (nested_index w.lies v.lies nz x q)
              ∙ sym (window_offset es sizes ss fs ns st w (parent_index gs ut x) (parent_within v.lies x q) k h)
              ∙ ap (λ (d : ℤ). get_or (window_shifts fs ns ss rank M) k (pos 0) +ℤ d) (sym (window_offset ns sizes ws gs ms ut v x q k h));
        }
