-- What the rows that do not apply leave to those after them. Assumes nothing.
use mathlib.Core.Path.{◌≡◌, sym, ◌∙◌}
use mathlib.Core.Bool.{Bool, true, false, ◌&&◌}
use mathlib.Core.List.{List, [], ◌∷◌, ◌++◌}
use Rattle.std.specs.Prelude.{Some}
use Prim.Native.Nat.{ℕ, ◌%◌}
use lib.Dec.{leb, eqb}
use lib.IntN.{ℤ}
use lib.ListN.{length}
use Rattle.strided.specs.Layout.{stride_row}
use Rattle.strided.specs.Refusals.{Row, row5, row6, row24, refused_by, count_rows, span_rows, layout_refused, planning_refused}
use Rattle.strided.specs.Machine.{line_allowed, allowed}
use Rattle.strided.specs.declared.Machine.{Machine}
use Rattle.strided.specs.declared.Purpose.{Purpose}
use Rattle.strided.specs.declared.Refusal.{Refusal}
use Rattle.strided.specs.declared.Refusal.TheVariants.{Record}
use Rattle.laws.specs.Refusals.Rows.{rows_refuse, rows_pass}
use Rattle.layout.specs.declared.slices.Layout.{Layout}
use Rattle.layout.specs.Checked.{LetThrough}

-- ---- row 24

-- a record is allowed by these four tests; one that fails decides
pub allowed_is : (mc : Machine) {a b d e : Bool} → a ≡ line_allowed mc.line → b ≡ (leb 4096 mc.cache && leb mc.cache 1048576)
    → d ≡ (eqb (mc.way % mc.line) 0 && (leb mc.line mc.way && leb mc.way mc.cache)) → e ≡ (leb 1 mc.live && leb mc.live 16)
    → (a && (b && (d && e))) ≡ allowed mc
unfolding allowed
allowed_is mc p q r s = λ i. p i && (q i && (r i && s i))

-- ---- rows 1 to 4, then the others

-- the spans of a layout that rows 1 to 4 let through
module _ (es sizes : List ℕ) (ss : List ℤ) (u : Purpose) {l : Layout} (c : LetThrough (refused_by (count_rows es sizes ss u)) es sizes ss l) where
  abbrev spans_of : List ℕ → ℕ → List ℤ → List Row
  spans_of es operands ss = row5 es ∷ row6 es operands (stride_row ss (length es)) ∷ []

  abbrev spans : List Row
  spans = spans_of l.extents.now l.operands l.strides.now

  behind : (rs : List Row) → refused_by (count_rows es sizes ss u ++ (rs ++ span_rows es sizes ss)) ≡ refused_by (rs ++ spans)
  behind rs = rows_pass (count_rows es sizes ss u) (rs ++ span_rows es sizes ss) c.served ∙ sym (λ i. refused_by (rs ++ spans_of (c.extents i) (c.operands i) (c.strides i)))

  pub layout_spans : layout_refused es sizes ss u ≡ refused_by spans
  unfolding layout_refused
  layout_spans = behind []

  module _ (mc : Machine) where
    pub planning_spans : allowed mc ≡ true → planning_refused mc es sizes ss u ≡ refused_by spans
    unfolding planning_refused
    planning_spans t = behind (row24 mc ∷ []) ∙ rw t

    pub planning_record : allowed mc ≡ false → planning_refused mc es sizes ss u ≡ Some Record
    unfolding planning_refused
    planning_record t = behind (row24 mc ∷ []) ∙ rw t

module _ (es sizes : List ℕ) (ss : List ℤ) (u : Purpose) {r : Refusal} (told : refused_by (count_rows es sizes ss u) ≡ Some r) where
  pub layout_counts_refuse : layout_refused es sizes ss u ≡ Some r
  unfolding layout_refused
  layout_counts_refuse = rows_refuse (count_rows es sizes ss u) (span_rows es sizes ss) r told

  pub planning_counts_refuse : (mc : Machine) → planning_refused mc es sizes ss u ≡ Some r
  unfolding planning_refused
  planning_counts_refuse mc = rows_refuse (count_rows es sizes ss u) (row24 mc ∷ span_rows es sizes ss) r told
