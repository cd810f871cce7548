-- Where lines go: what the walk that hands them on knows of it, and the two kinds. S is its state, from line to line; `May s out t` is asked of a
-- text t; `Took s out t s' out'` says that t went there, and what is then its state and the bytes that are lent; `Full s t` that t had no room.
-- Assumes nothing.
use Rattle.std.specs.Prelude.{◌≡◌, List, [], ◌++◌, ℕ, ◌+◌, ◌<◌, ◌≤◌, ⊤, length, Option, MatchOption}
use Rattle.std.proofs.Common.{ap, ◌∙◌, arith, length-append}
use Rattle.writing.specs.Put.{Wrote}
use Rattle.writing.specs.Putting.{wrote_nothing, wrote_length, wrote_then}
use Rattle.writing.specs.declared.sink.Counter.{Counter}
use Rattle.writing.specs.declared.sink.Place.{Place}

-- r is what answers to t: the state behind it, or that it had no room
abbrev pub Goes : {S : Type 0} → (S → List ℕ → List ℕ → S → List ℕ → Type 0) → (S → List ℕ → Type 0) → S → List ℕ → List ℕ → List ℕ → Option S → Type 0
Goes Took Full s out t new r = MatchOption r (Full s t) (λ s'. Took s out t s' new)

-- nothing is taken; one text behind another; the next part of what may come; and a part that has no room
pub record Sinks {S : Type 0} (May : S → List ℕ → List ℕ → Type 0) (Took : S → List ℕ → List ℕ → S → List ℕ → Type 0) (Full : S → List ℕ → Type 0) : Type 0 where
  pub none : (s : S) (out t : List ℕ) → May s out t → Took s out [] s out
  pub more : (s : S) (out t : List ℕ) (s' : S) (out' u : List ℕ) (s'' : S) (out'' : List ℕ) → Took s out t s' out' → Took s' out' u s'' out'' → Took s out (t ++ u) s'' out''
  pub next : (s : S) (out t : List ℕ) (s' : S) (out' u rest : List ℕ) → Took s out t s' out' → May s out (t ++ (u ++ rest)) → May s' out' u
  pub over : (s : S) (out t : List ℕ) (s' : S) (out' u rest : List ℕ) → Took s out t s' out' → Full s' u → Full s (t ++ (u ++ rest))

long : (t u rest : List ℕ) → length (t ++ (u ++ rest)) ≡ length t + (length u + length rest)
long t u rest = length-append t (u ++ rest) ∙ ap (λ (n : ℕ). length t + n) (length-append u rest)

-- so many bytes are left
pub counter_laws : Sinks {S = Counter} (λ s out t. ⊤) (λ s out t s' out'. s.left ≡ length t + s'.left) (λ s t. s.left < length t)
counter_laws = record {
  none = λ s out t m. omega arith;
  more = λ s out t s' out' u s'' out'' a b. let l = length-append t u in omega (arith, a, b, l);
  next = λ s out t s' out' u rest a m. m;
  over = λ s out t s' out' u rest a f. let l = long t u rest in omega (arith, a, f, l);
}

-- the place behind what is written
pub place_laws : Sinks {S = Place} (λ s out t. s.at + length t ≤ length out) (λ s out t s' out'. (s.at + length t ≤ length out) × Wrote out s.at t out' s'.at) (λ s t. ⊥)
place_laws = record {
  none = λ s out t m. (omega (arith, m), wrote_nothing out s.at);
  more = λ s out t s' out' u s'' out'' a b. (
    let l = length-append t u in let p = a.1.place in let k = wrote_length a.1 a.0 in let c = b.0 in omega (arith, l, p, k, c),
    wrote_then a.1 b.1 a.0,
  );
  next = λ s out t s' out' u rest a m. let l = long t u rest in let p = a.1.place in let k = wrote_length a.1 a.0 in omega (arith, m, l, p, k);
  over = λ s out t s' out' u rest a f. absurd f;
}
