-- Bytes moved at once are those moved one by one.
-- Assumes nothing.
use mathlib.Core.Path.{◌≡◌, sym, ap, ◌∙◌}
use mathlib.Core.List.{List}
use mathlib.Core.Logic.{inl, inr}
use Prim.Native.Nat.{ℕ, ◌+◌, ◌-◌, ◌<◌, ◌≤◌}
use native.Mathlib.Omega.{arith}
use lib.ListN.{length, get_or, take, drop}
use borrow.Rule.Slice.PartMut.{put_mid}
use Rattle.std.proofs.lemmas.Grind.{common_steps}
use Rattle.std.proofs.lemmas.List.{ext_get_or}
use Rattle.cells.specs.Copy.{moved}
use Rattle.cells.specs.Meaning.{by_lt, moved_length, moved-off, moved_at_lem, moved-add}

module _ (dst : List ℕ) (d : ℕ) (src : List ℕ) (s n : ℕ) (h : d + n ≤ length dst) (g : s + n ≤ length src) where
  part-long : length (put_mid d n dst (take n (drop s src))) ≡ length dst
  part-long = grind (arith, common_steps)

  part-before : (k : ℕ) → k < d → get_or (put_mid d n dst (take n (drop s src))) k 0 ≡ get_or dst k 0
  part-before k l = grind (arith, common_steps)

  part-in : (k : ℕ) → k < n → get_or (put_mid d n dst (take n (drop s src))) (d + k) 0 ≡ get_or src (s + k) 0
  part-in k l = grind (arith, common_steps)

  part-behind : (k : ℕ) → d + n ≤ k → get_or (put_mid d n dst (take n (drop s src))) k 0 ≡ get_or dst k 0
  part-behind k l = grind (arith, common_steps)

  part-at : (k : ℕ) → get_or (put_mid d n dst (take n (drop s src))) k 0 ≡ get_or (moved dst d src s n) k 0
  part-at k =
      by_lt
      k
      d
      (λ (l : k < d). part-before k l ∙ sym (moved-off dst d src s n k (inl l)))
      (λ (l : d ≤ k).
      by_lt
      k
      (d + n)
      (λ (m : k < d + n).
      let e : k ≡ d + (k - d) = omega arith in
      let i : k - d < n = omega arith in
      rw e (part-in (k - d) i ∙ sym (moved_at_lem dst d src s n (k - d) i h)))
      (λ (m : d + n ≤ k). part-behind k m ∙ sym (moved-off dst d src s n k (inr m))))

  -- the n bytes from s on, put at d
  pub moved_part : put_mid d n dst (take n (drop s src)) ≡ moved dst d src s n
  moved_part = ext_get_or 0 _ _ (part-long ∙ sym (moved_length dst d src s n)) (λ k l. part-at k)

-- what is written to a part of the destination, where it is a part of the source
pub moved_slice : (dst : List ℕ) (d : ℕ) (src : List ℕ) (s n : ℕ) → d + n ≤ length dst → s + n ≤ length src → (new : List ℕ) → new ≡ take (s + n - s) (drop s src) →
    put_mid d (d + n - d) dst new ≡ moved dst d src s n
moved_slice dst d src s n h g new e =
    let m : d + n - d ≡ n = omega arith in
    let k : s + n - s ≡ n = omega arith in
    rw (m, e, k) (moved_part dst d src s n h g)

-- a piece more of a whole that is moved in pieces, and the last
module _ (src : List ℕ) (old : List ℕ) (i : ℕ) (l : length old ≡ length src) (dst : List ℕ) (e : dst ≡ moved old 0 src 0 i) (new : List ℕ) where
  pub piece_more : (n : ℕ) → i + n ≤ length src → new ≡ take (i + n - i) (drop i src) → put_mid i (i + n - i) dst new ≡ moved old 0 src 0 (i + n)
  piece_more n h f =
      let long : length dst ≡ length old = ap length e ∙ moved_length old 0 src 0 i in
      let z : 0 + i ≡ i = omega arith in
      moved_slice dst i src i n (omega (arith, long, l, h)) h new f
      ∙ ap (λ (xs : List ℕ). moved xs i src i n) e
      ∙ ap (λ (k : ℕ). moved (moved old 0 src 0 i) k src k n) (sym z)
      ∙ moved-add old 0 src 0 i n

-- the whole moved is the source
pub moved_whole : (src old : List ℕ) → length old ≡ length src → moved old 0 src 0 (length src) ≡ src
moved_whole src old l = ext_get_or 0 _ _ (moved_length old 0 src 0 (length src) ∙ l) (λ k h.
    let z : 0 + k ≡ k = omega arith in
    let b : k < length src = omega (arith, h, moved_length old 0 src 0 (length src), l) in
    ap (λ (j : ℕ). get_or (moved old 0 src 0 (length src)) j 0) (sym z) ∙ moved_at_lem old 0 src 0 (length src) k b (omega (arith, l)) ∙ ap (λ (j : ℕ). get_or src j 0) z)
