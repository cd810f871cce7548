-- What an entry of a session answers and leaves, where its numbers were read from lent places and written back to them. Assumes nothing.
use mathlib.Core.Path.{◌≡◌, sym, ap, ◌∙◌, subst}
use mathlib.Core.List.{List}
use Prim.Native.Nat.{ℕ}
use lib.IntN.{ℤ, pos}
use Rattle.strided.specs.Memory.{code_of, Handed}
use Rattle.gougelily.proofs.Answers.{whether_code}
use Rattle.session.specs.Made.{session_at, Lent}
use Rattle.session.specs.declared.Numbers.{Numbers}
use Rattle.session.specs.declared.Session.{Session}
use Rattle.std.specs.Prelude.{Result}
use Rattle.strided.specs.declared.Refusal.{Refusal}

-- n are numbers as they were read, m as they lie; n' as they were written, m' as they lie afterwards
lent_as :
    (f : Session → Result Session Refusal) (old new : Numbers → Session) {n m n' m' : Numbers} {a : Result (Unit {0}) Refusal} →
    n ≡ m →
    m' ≡ n' →
    Lent (f (old n)) (old n) (new n') a →
    Lent (f (old m)) (old m) (new m') a
lent_as f old new {n} {m} {n'} {m'} {a} read put l =
    subst (λ (x : Numbers). Lent (f (old x)) (old x) (new m') a) read (subst (λ (x : Numbers). Lent (f (old n)) (old n) (new x) a) (sym put) l)

given_back : (t : Result Session Refusal) {old new : Session} {a : Result (Unit {0}) Refusal} {r : ℤ} → r ≡ code_of (λ value. pos 0) a → Lent t old new a → Handed (λ s. s) t old new r
given_back t code l = record { code = code ∙ ap (λ (x : Result (Unit {0}) Refusal). code_of (λ value. pos 0) x) l.answers ∙ whether_code t; memory = l.leaves }

pub handed :
    (f : Session → Result Session Refusal) {E Z : List ℕ} {S : List ℤ} {R W C PE PB : List ℕ} {PS : List ℤ} {E' Z' : List ℕ} {S' : List ℤ} {R' W' C' PE' PB' : List ℕ} {PS' : List ℤ} {n m n' m' : Numbers} {a : Result (Unit {0}) Refusal} {r : ℤ} →
    n ≡ m →
    m' ≡ n' →
    r ≡ code_of (λ value. pos 0) a →
    Lent (f (session_at n E Z S R W C PE PB PS)) (session_at n E Z S R W C PE PB PS) (session_at n' E' Z' S' R' W' C' PE' PB' PS') a →
    Handed (λ s. s) (f (session_at m E Z S R W C PE PB PS)) (session_at m E Z S R W C PE PB PS) (session_at m' E' Z' S' R' W' C' PE' PB' PS') r
handed f {E} {Z} {S} {R} {W} {C} {PE} {PB} {PS} {E'} {Z'} {S'} {R'} {W'} {C'} {PE'} {PB'} {PS'} {n} {m} {n'} {m'} {a} {r} read put code l =
    given_back (f (session_at m E Z S R W C PE PB PS)) code
    (lent_as f (λ (x : Numbers). session_at x E Z S R W C PE PB PS) (λ (x : Numbers). session_at x E' Z' S' R' W' C' PE' PB' PS') {n = n} {m = m} {n' = n'} {m' = m'} read put l)
