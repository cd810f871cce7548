-- `walklist::list_text` meets its contract: the output is there, or the R line is put in front of the bytes. Assumes nothing.
use mathlib.Core.Path.{◌≡◌, ap, ◌∙◌, subst}
use mathlib.Core.List.{List}
use Prim.Native.Nat.{ℕ}
use native.Mathlib.Omega.{arith}
use lib.ListN.{length, length-replicate}
use Rattle.std.specs.Prelude.{Result}
use Rattle.strided.specs.Text.{Lists, field, line_of}
use Rattle.strided.specs.declared.Refusal.{Refusal}
use Rattle.writing.specs.Put.{Wrote}
use Rattle.walklist.proofs.Printed.{refusal_short, refusal_printed, output_printed}
use Rattle.walklist.proofs.list_text.Goals as goal

-- the listing, by what was answered and what was lent
listing : {text old new room : List ℕ} {a b : Result ℕ Refusal} → Lists text old (record { answer = a; room = room }) → old ≡ new → a ≡ b
    → Lists text new (record { answer = b; room = room })
listing {text} {old} {new} {room} {a} {b} l e h =
    subst (λ (x : Result ℕ Refusal). Lists text new (record { answer = x; room = room })) h
    (subst (λ (x : List ℕ). Lists text x (record { answer = a; room = room })) e l)

pub put_refusal-requires : goal.put_refusal-requires
put_refusal-requires c =
    let long : length c.walklist.new.room ≡ 65536 = c.walklist.auto.room ∙ ap length c.requires ∙ length-replicate {A = ℕ} 65536 0 in
    let h = refusal_short c.number.result c.number.type_inv in
    omega (arith, h, long)

pub returns-in-Ok : goal.returns-in-Ok
returns-in-Ok c =
    let a = c.walklist in
    let long : length a.new.room ≡ 65536 = a.auto.room ∙ ap length c.requires ∙ length-replicate {A = ℕ} 65536 0 in
    output_printed (listing a.ensures c.requires c.in-Ok.is) long

pub returns-in-Err : goal.returns-in-Err
returns-in-Err c =
    let a = c.walklist in
    refusal_printed (listing a.ensures c.requires c.in-Err.is)
    (subst (λ (n : ℕ). Wrote a.new.room 0 (line_of 82 (field n)) c.put_refusal.new.out c.put_refusal.result) c.number.ensures c.put_refusal.ensures)
