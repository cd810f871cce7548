-- The answers of the C entries, put together from what the entry called answered. Assumes nothing.
use mathlib.Core.Path.{◌≡◌, refl, sym, ap, ◌∙◌, subst}
use mathlib.Core.List.{List}
use Prim.Native.Nat.{ℕ, ◌<◌, ◌≤◌, ◌^◌}
use native.Mathlib.Omega.{arith}
use lib.IntN.{ℤ, pos}
use lib.ListN.{length}
use mir.Syntax.{w64}
use mir.Val.{of_z, to_z}
use Rattle.strided.specs.Refusals.{negated}
use Rattle.strided.specs.Step.{stepped, walk_after}
use Rattle.strided.specs.Bulk.{next_blocks, room_for, written, several_by, SteppedMany, stepped_many}
use Rattle.strided.specs.Memory.{code_of, whether, Handed, Tells, StepMemory, Steps, ManyMemory, StepsMany, many_count, many_code}
use Rattle.strided.specs.declared.Purpose.{Purpose}
use Rattle.strided.specs.declared.Refusal.{Refusal}
use Rattle.strided.specs.declared.Plan.{Plan}
use Rattle.strided.specs.declared.Walk.{Walk}
use Rattle.strided.specs.declared.Block.{Block}
use Rattle.strided.specs.declared.Stepped.{Stepped}
use Rattle.strided.specs.declared.Several.{Several}
use Rattle.strided.specs.declared.Told.{Told}
use Rattle.std.specs.Int.Signed.{mag}
use Rattle.laws.specs.Base.Bits.{read_back}
use Rattle.laws.specs.Walk.Bulk.{blocks_few}
use Rattle.bulk.specs.Blocks.{blocks_in, SteppedManyInto}
use Rattle.finding.specs.Memory.{Leaves}
use Rattle.std.specs.Prelude.{Option, None, Some, Ok, Err, Result}

-- the signed number z that a call answers, read back from its bits, is what the call ensures
pub read_code : {z n : ℤ} → mag z < 2 ^ 63 → z ≡ n → to_z w64 (of_z w64 z) ≡ n
read_code {z} fits e = read_back z fits ∙ e

-- a call's result x at an argument u, which is v
pub called : {U X : Type 0} (f : U → X) {u v : U} {x : X} → x ≡ f u → u ≡ v → x ≡ f v
called f h e = h ∙ ap f e

-- an entry that answers t, in the call's result x
module _ {A M : Type 0} (laid : A → M) {x t : Result A Refusal} (is : x ≡ t) {old : M} where
  pub handed-refused : {r : Refusal} {n : ℤ} → x ≡ Err r → n ≡ negated r → Handed laid t old old n
  handed-refused {r} {n} h e =
      let g : t ≡ Err r = sym is ∙ h in
      subst (λ (y : Result A Refusal). Handed laid y old old n) (sym g) (record { code = e; memory = refl })

  pub handed_served : {new : M} {value : A} → x ≡ Ok value → new ≡ laid value → Handed laid t old new (pos 0)
  handed_served {new} {value} h e =
      let g : t ≡ Ok value = sym is ∙ h in
      subst (λ (y : Result A Refusal). Handed laid y old new (pos 0)) (sym g) (record { code = refl; memory = e })

-- index finding in lent memory, for the purpose u, which is v
pub whether_code : {A : Type 0} (t : Result A Refusal) → code_of (λ value. pos 0) (whether t) ≡ code_of (λ value. pos 0) t
whether_code (Ok value) = refl
whether_code (Err r) = refl

pub told_as : (f : Purpose → Result Told Refusal) {u v : Purpose} → u ≡ v → {c x c' x' : List ℕ} {a : Result (Unit {0}) Refusal} {n : ℤ} → Leaves (f u) c x c' x' a → n ≡ code_of (λ value. pos 0) a
    → Tells (f v) (record { count = c; index = x }) (record { count = c'; index = x' }) n
told_as f {u} e {c} {x} {c'} {x'} {n = n} l q =
    subst (λ (w : Purpose). Tells (f w) (record { count = c; index = x }) (record { count = c'; index = x' }) n) e
    (record { code = q ∙ ap (λ (y : Result (Unit {0}) Refusal). code_of (λ value. pos 0) y) l.answer ∙ whether_code (f u); memory = l.memory })

-- a step that is refused
pub step-refused : {s : Result Stepped Refusal} {r : Refusal} {old : StepMemory} {n : ℤ} → Err r ≡ s → n ≡ negated r → Steps s old old n
step-refused {old = old} {n = n} h e = subst (λ (s : Result Stepped Refusal). Steps s old old n) h (record { code = e; memory = refl })

-- ---- many steps

few : (x : Option Block) {n count : ℕ} → Some count ≡ written x n → count ≡ n
few (Some b) q = cc q
few None q = let z : ◌≡◌ {A = ℕ} 0 1 = cc q in absurd (omega arith)

-- no more blocks are written than the slice of lengths has places
module _ (p : Plan) (w : Walk) (ls : List ℕ) (os : List ℤ) where
  abbrev room : ℕ
  room = room_for p.operands (length ls) (length os)

  abbrev n : ℕ
  n = length (next_blocks room p w)

  pub many-count : {old new : ManyMemory} {count : ℕ} → SteppedManyInto (stepped_many p w ls os) old new (Ok (Some count)) → count ≤ length ls
  unfolding stepped_many
  many-count {count = count} l = go (stepped p w) l.said
    where
      go : (s : Result Stepped Refusal) → Ok (Some count) ≡ blocks_in (several_by s n (walk_after p n w)) → count ≤ length ls
      go (Ok s) q = let e : count ≡ n = few s.block (cc q) in omega (arith, e, blocks_few p room w)
      go (Err r) q = let z : ◌≡◌ {A = ℕ} 0 1 = cc q in absurd (omega arith)

-- what is answered in lent memory, as a number
number_of : (t : Result Several Refusal) → code_of (λ o. pos (many_count o)) (blocks_in t) ≡ many_code t
number_of (Ok s) = refl
number_of (Err r) = refl

pub steps_many : {m : SteppedMany} {old new : ManyMemory} {answer : Result (Option ℕ) Refusal} {n : ℤ} → SteppedManyInto m old new answer → n ≡ code_of (λ o. pos (many_count o)) answer → StepsMany m old new n
steps_many {m} l e = record { code = e ∙ ap (code_of (λ o. pos (many_count o))) l.said ∙ number_of m.several; memory = l.memory }
