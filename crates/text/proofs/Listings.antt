-- The listings of the parts, and how they make the listing of what a text says.
-- Assumes nothing.
use mathlib.Core.Path.{◌≡◌, refl, sym, ap, ◌∙◌, subst}
use mathlib.Core.Bool.{Bool, true, false}
use mathlib.Core.List.{List, [], ◌∷◌}
use Rattle.std.specs.Prelude.{Option, None, Some}
use Prim.Native.Nat.{ℕ, ◌*◌, ◌≤◌}
use native.Mathlib.Nat.{mul-le-mul_right}
use native.Mathlib.Omega.{arith}
use lib.Dec.{ltb, leb, eqb}
use lib.IntN.{ℤ}
use lib.ListN.{length, take}
use borrow.Author.Tests.{ltb-false, leb-true, leb-false, lt-ltb, le-ltb}
use Rattle.strided.specs.Base.{first}
use Rattle.strided.specs.Layout.{total}
use Rattle.strided.specs.Refusals.{refused_by, row1, row2, layout_refused, planning_refused}
use Rattle.strided.specs.Machine.{fixed_four}
use Rattle.strided.specs.Plan.{the_plan}
use Rattle.strided.specs.Begin.{begin_refused}
use Rattle.strided.specs.Text.{Parsed, InForm, sizes_of, strides_of, printed, printed_of, row13, row14, refusing, listing_or, text_refused, listed, zero_starts}
use Rattle.strided.specs.Memory.{plan_of}
use Rattle.strided.specs.declared.Purpose.{Purpose}
use Rattle.strided.specs.declared.Plan.{Plan}
use Rattle.strided.specs.declared.Refusal.{Refusal}
use Rattle.strided.specs.declared.Refusal.TheVariants.{Rank, Operands, TextTotal}
use Rattle.laws.specs.Base.Tests.{or_none}
use Rattle.laws.specs.Refusals.Record.{planning_fixed}
use Rattle.laws.specs.Text.Begins.{planned_begins}
use Rattle.laws.specs.Text.Planning.{as_planning}
use Rattle.advance.specs.Sized.{whole_sized}
use Rattle.kernel.specs.Made.{Made}
use Rattle.kernel.proofs.Plans.{made_whole}
use Rattle.layout.specs.Lent.{Whole}
use Rattle.reading.specs.Lines.{Arrays}
use Rattle.reading.specs.Texts.{Says}
use Rattle.reading.specs.Counted.{counted_extents, counted_sizes, counted_strides}
use Rattle.writing.specs.Plan.{Printable, listed_in}
use Rattle.text.specs.Listed.{Places, listed_layout, listed_numbers}

-- ---- a layout that rows 1 to 6 let through

module _ (es sizes : List ℕ) (ss : List ℤ) (u : Purpose) (h : layout_refused es sizes ss u ≡ None) where
  -- planning with the fixed four lets it through too
  passed : planning_refused fixed_four es sizes ss u ≡ None
  passed = planning_fixed es sizes ss u ∙ h

  -- the plan made may be lent, and is one that is written
  pub made_lent : (rank : ℕ) (E B : List ℕ) (S : List ℤ) → Made fixed_four es sizes ss u rank E B S → Whole (plan_of rank (length sizes) E B S)
  made_lent rank E B S m = made_whole fixed_four es sizes ss u passed m

  pub made_printable : (rank : ℕ) (E B : List ℕ) (S : List ℤ) → Made fixed_four es sizes ss u rank E B S → Printable (plan_of rank (length sizes) E B S)
  made_printable rank E B S m =
      record {
        sized = whole_sized (made_lent rank E B S m);
        begins = subst (λ (p : Plan). begin_refused p (zero_starts p) ≡ None) (sym m.is) (planned_begins fixed_four es sizes ss u passed);
      }

-- ---- a layout

module _ (es sizes : List ℕ) (ss : List ℤ) (u : Purpose) (room : List ℕ) where
  pub layout_refused_lem : (r : Refusal) → layout_refused es sizes ss u ≡ Some r → refusing r room ≡ listed_layout es sizes ss u room
  unfolding listed_layout
  layout_refused_lem r e = rw e

  pub layout_total : layout_refused es sizes ss u ≡ None → leb (total es) 1048576 ≡ false → refusing TextTotal room ≡ listed_layout es sizes ss u room
  unfolding listed_layout
  layout_total e t = rw (e, lt-ltb 1048576 (total es) (leb-false (total es) 1048576 t))

  planned_listed : layout_refused es sizes ss u ≡ None → leb (total es) 1048576 ≡ true
      → listed_in (the_plan fixed_four es sizes ss u) room ≡ listed_layout es sizes ss u room
  unfolding listed_layout printed
  planned_listed e t = rw (e, le-ltb 1048576 (total es) (leb-true (total es) 1048576 t))

  -- the plan's listing is the layout's
  pub layout_served : layout_refused es sizes ss u ≡ None → leb (total es) 1048576 ≡ true → {rank : ℕ} {E B : List ℕ} {S : List ℤ}
      → Made fixed_four es sizes ss u rank E B S → listed_in (plan_of rank (length sizes) E B S) room ≡ listed_layout es sizes ss u room
  layout_served e t m = ap (λ (p : Plan). listed_in p room) m.is ∙ planned_listed e t

-- ---- numbers in arrays

module _ (rank operands : ℕ) (E Z : List ℕ) (S : List ℤ) (u : Purpose) (room : List ℕ) where
  pub numbers-rank : (row1 rank).applies ≡ true → refusing Rank room ≡ listed_numbers rank operands E Z S u room
  unfolding listed_numbers
  numbers-rank e = rw e

  pub numbers_operands : (row1 rank).applies ≡ false → (row2 operands).applies ≡ true → refusing Operands room ≡ listed_numbers rank operands E Z S u room
  unfolding listed_numbers
  numbers_operands e f = rw (e, f)

  pub numbers_layout : (row1 rank).applies ≡ false → (row2 operands).applies ≡ false
      → listed_layout (take rank E) (take operands Z) (take (rank * operands) S) u room ≡ listed_numbers rank operands E Z S u room
  unfolding listed_numbers
  numbers_layout e f = rw (e, f)

-- the counts that rows 1 and 2 let through, and how many strides they make
pub record Within (rank operands : ℕ) : Type 0 where
  pub axes : rank ≤ 64
  pub few : operands ≤ 8
  pub all : rank * operands ≤ 512

pub within : (rank operands : ℕ) → (row1 rank).applies ≡ false → (row2 operands).applies ≡ false → Within rank operands
within rank operands e f =
    let axes : rank ≤ 64 = ltb-false 64 rank e in
    let few : operands ≤ 8 = ltb-false 8 operands (or_none (eqb operands 0) (ltb 8 operands) f).1 in
    let a : rank * operands ≤ 64 * operands = mul-le-mul_right operands axes in
    record { axes = axes; few = few; all = omega arith }

-- ---- what a text says

module _ (p : Parsed) (room : List ℕ) where
  -- rows 1 and 2 stand first
  listed-rank : (row1 p.rank).applies ≡ true → refusing Rank room ≡ listed p room
  unfolding listed text_refused
  listed-rank e = rw e

  listed_operands : (row1 p.rank).applies ≡ false → (row2 p.operands).applies ≡ true → refusing Operands room ≡ listed p room
  unfolding listed text_refused
  listed_operands e f = rw (e, f)

  -- and the rows in front of 13 are planning's
  listed_layout_lem : {text : List ℕ} → InForm text p → listed_layout p.extents (sizes_of p) (strides_of p) p.purpose room ≡ listed p room
  unfolding listed text_refused listed_layout
  listed_layout_lem f =
      ap
      (λ (o : Option Refusal). listing_or (first o (refused_by (row13 p.extents ∷ row14 (printed_of p) (length room) ∷ []))) (printed_of p) room)
      (sym (as_planning f))

module _ {text : List ℕ} {p : Parsed} {u : Purpose} {rank operands : ℕ} {old new : Arrays} (h : Says text p u rank operands old new)
    (places : Places old.extents old.sizes old.strides) (room : List ℕ) where
  -- the numbers that were read: above the limits they are refused unseen, within them the counted places hold them all
  pub said-listed : listed_numbers rank operands new.extents new.sizes new.strides u room ≡ listed p room
  said-listed = go (row1 rank).applies refl (row2 operands).applies refl
    where
      goal : Type 0
      goal = listed_numbers rank operands new.extents new.sizes new.strides u room ≡ listed p room

      go : (a : Bool) → (row1 rank).applies ≡ a → (b : Bool) → (row2 operands).applies ≡ b
          → listed_numbers rank operands new.extents new.sizes new.strides u room ≡ listed p room
      go true e b f =
          sym (numbers-rank rank operands new.extents new.sizes new.strides u room e)
          ∙ listed-rank p room (ap (λ (n : ℕ). (row1 n).applies) h.ranks ∙ e)
      go false e true f =
          sym (numbers_operands rank operands new.extents new.sizes new.strides u room e f)
          ∙ listed_operands p room (ap (λ (n : ℕ). (row1 n).applies) h.ranks ∙ e) (ap (λ (n : ℕ). (row2 n).applies) h.counts ∙ f)
      go false e false f =
          let w = within rank operands e f in
          let es = counted_extents h (omega (arith, w.axes, places.axes)) in
          let zs = counted_sizes h (omega (arith, w.few, places.few)) in
          let ss = counted_strides h (omega (arith, w.all, places.all)) in
          sym (numbers_layout rank operands new.extents new.sizes new.strides u room e f)
          ∙ (λ i. listed_layout (es i) (zs i) (ss i) (sym h.purposes i) room)
          ∙ listed_layout_lem p room h.form
