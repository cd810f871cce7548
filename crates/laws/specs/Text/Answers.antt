-- The answer of the text entry: an output lies within the lent bytes. And as C gets it: a refusal's is below 0.
-- Assumes nothing.
use Rattle.std.specs.Prelude.{◌≡◌, refl, ◌⊎◌, Bool, true, false, List, [], ◌∷◌, ℕ, suc, ◌≤◌, ℤ, pos, negsuc, neg_ℤ, length, Option, None, Some, Ok, Err, Result}
use Rattle.std.proofs.Common.{sym, ap, ◌∙◌, inl, inr, arith, ltb-false}
use Rattle.strided.specs.Base.{first}
use Rattle.strided.specs.Refusals.{Row, refused_by, number, negated}
use Rattle.strided.specs.Text.{Parsed, InForm, NotInForm, Listing, Lists, layout_rows_of, printed_of, row13, row14, text_refused, listing_or, listed}
use Rattle.strided.specs.Memory.{code_of, ListsMemory}
use Rattle.strided.specs.declared.Refusal.{Refusal}
use Rattle.strided.specs.declared.Refusal.TheVariants.{Rank, Operands, StrideCount, Chosen, Total, Reach, StartCount, Offsets, State, Index, Form, TextTotal, Room, Window, CopySizes, Buffer, Repeats, ByteStrides, Ninth, Leaving, Slice, Visits, Record}

-- no refusal has the number 0
pub number_above : (r : Refusal) → (k : ℕ) × (number r ≡ suc k)
number_above Rank = (0, refl)
number_above Operands = (1, refl)
number_above StrideCount = (2, refl)
number_above Chosen = (3, refl)
number_above Total = (4, refl)
number_above Reach = (5, refl)
number_above StartCount = (7, refl)
number_above Offsets = (8, refl)
number_above State = (9, refl)
number_above Index = (10, refl)
number_above Form = (11, refl)
number_above TextTotal = (12, refl)
number_above Room = (13, refl)
number_above Window = (14, refl)
number_above CopySizes = (15, refl)
number_above Buffer = (16, refl)
number_above Repeats = (17, refl)
number_above ByteStrides = (18, refl)
number_above Ninth = (19, refl)
number_above Leaving = (20, refl)
number_above Slice = (21, refl)
number_above Visits = (22, refl)
number_above Record = (23, refl)

pub negated-below : (r : Refusal) (n : ℕ) → negated r ≡ pos n → ⊥
negated-below r n e =
    let k = number_above r in
    let q : negsuc k.0 ≡ pos n = sym (ap (λ (m : ℕ). neg_ℤ (pos m)) k.1) ∙ e in
    let z : ◌≡◌ {A = ℕ} 0 1 = cc in
    absurd (omega arith)

-- the last of the rows passes where none refuses
behind : (a b : Option Refusal) → first a b ≡ None → b ≡ None
behind None b e = e
behind (Some r) b e = let z : ◌≡◌ {A = ℕ} 0 1 = cc in absurd (omega arith)

last_row : (r s : Row) → refused_by (r ∷ s ∷ []) ≡ None → s.applies ≡ false
last_row r s e = go r.applies s.applies e
  where
    go : (a b : Bool) → refused_by (record { applies = a; refusal = r.refusal } ∷ record { applies = b; refusal = s.refusal } ∷ []) ≡ None → b ≡ false
    go true b q = let z : ◌≡◌ {A = ℕ} 0 1 = cc in absurd (omega arith)
    go false true q = let z : ◌≡◌ {A = ℕ} 0 1 = cc in absurd (omega arith)
    go false false q = refl

-- a listing's output is within the lent bytes, where they have room for it or something refuses
pub filled_within : (o : Option Refusal) (out room : List ℕ) → (o ≡ None → length out ≤ length room) → (n : ℕ) → (listing_or o out room).answer ≡ Ok n → n ≤ length room
filled_within None out room fits n e = let l : length out ≡ n = cc in omega (arith, l, fits refl)
filled_within (Some r) out room fits n e = let z : ◌≡◌ {A = ℕ} 0 1 = cc in absurd (omega arith)

listed-within : (p : Parsed) (room : List ℕ) (n : ℕ) → (listed p room).answer ≡ Ok n → n ≤ length room
unfolding listed text_refused
listed-within p room =
    let out : List ℕ = printed_of p in
    filled_within (text_refused p (length room)) out room
    (λ q. ltb-false (length room) (length out) (last_row (row13 p.extents) (row14 out (length room)) (behind (refused_by (layout_rows_of p)) _ q)))

-- an output is no longer than the bytes lent
pub lists_within : {text room : List ℕ} {l : Listing} → Lists text room l → (n : ℕ) → l.answer ≡ Ok n → n ≤ length room
lists_within {text} {room} {l} h n e = go h.either
  where
    go : ((p : Parsed) × InForm text p) ⊎ NotInForm text → n ≤ length room
    go (inl q) = listed-within q.0 room n (sym (ap (λ (x : Listing). x.answer) (h.formed q.0 q.1)) ∙ e)
    go (inr q) =
        let f : ◌≡◌ {A = Result ℕ Refusal} (Err Form) (Ok n) = sym (ap (λ (x : Listing). x.answer) (h.unformed q)) ∙ e in
        let z : ◌≡◌ {A = ℕ} 0 1 = cc in
        absurd (omega arith)

-- a number of 0 or more that C gets is a length
pub code_length : (answer : Result ℕ Refusal) (n : ℕ) → code_of pos answer ≡ pos n → answer ≡ Ok n
code_length (Ok m) n e = let q : m ≡ n = cc in ap Ok q
code_length (Err r) n e = absurd (negated-below r n e)

-- so C's number is below 0, or within the lent bytes
pub code_within : {text old new : List ℕ} {r : ℤ} → ListsMemory text old new r → (n : ℕ) → r ≡ pos n → n ≤ length old
code_within h n e = lists_within h.lists n (code_length h.listing.answer n (sym h.fills.code ∙ e))
