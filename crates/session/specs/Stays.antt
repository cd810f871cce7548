-- "the ranks of operands that stayed are the numbers they had", and "The chosen operand moves with its data": what the accepted calls leave as it
-- was. Assumes nothing.
use Rattle.std.specs.Prelude.{◌≡◌, refl, Bool, true, false, cond, ℕ, suc, ◌+◌, ◌-◌, ◌*◌, ◌≤◌, ◌<◌, ltb, ℤ, get_or, take, drop, None, Ok}
use Rattle.std.proofs.Math.Path.{sym, ap}
use Rattle.std.proofs.Common.{◌∙◌, ⊎_elim, eq-or-lt_of_le, arith, length-append, ltb-true, ltb-false, lt-ltb, le-ltb}
use mathlib.Core.List.{List, [], ◌∷◌}
use Rattle.std.proofs.Math.ListN.{length}
use Rattle.strided.specs.Base.{padded, run}
use Rattle.strided.specs.Layout.{stride_row}
use Rattle.strided.specs.Ranks.{ranks, rank_table}
use Rattle.strided.specs.Refusals.{refused_by}
use Rattle.laws.specs.Refusals.Rows.{served_none, served_is}
use Rattle.laws.specs.Base.Arrays.{length-padded}
use Rattle.laws.specs.Base.Lists.{over-map, get_d_run}
use Rattle.session.specs.declared.Session.{Session}
use Rattle.session.specs.Session.{Given, refused_of, ranks_of, fresh_of, given_of, with_operand, old_place, new_place, sizes_without, strides_without, without_operand, Right, join_rows, leave_rows, joined, left}
use Rattle.session.specs.Afresh.{taken_of, right_operands, row_stays, row_new, row_moves, old-there, join_right, join_room, join_counted, join_near, join_accepted, leave_right, leave_there, leave_two, leave_accepted, one_less}
use Rattle.session.specs.Tables.{array_row}

-- ---- ranks

-- operand k's ranks, 64 places
abbrev pub ranks_at : Session → ℕ → List ℕ
ranks_at s k = take 64 (drop (k * 64) s.ranks)

row_of : Given → ℕ → List ℕ
row_of g k = padded 64 0 (ranks (stride_row g.strides (length g.extents) k))

given-ranks : (g : Given) (k : ℕ) → length g.sizes ≤ 8 → k < length g.sizes → take 64 (drop (k * 64) (ranks_of g)) ≡ row_of g k
unfolding ranks_of rank_table row_of
given-ranks g k few h =
    ap (λ (l : List ℕ). take 64 (drop (k * 64) (padded 512 0 l))) (over-map (λ j. ranks (stride_row g.strides (length g.extents) j)) (run 0 (length g.sizes)) (padded 64 0))
    ∙ array_row 0 (row_of g) (length g.sizes) k (λ j. length-padded 0 64 (ranks (stride_row g.strides (length g.extents) j))) few h

fresh-ranks : (g : Given) (k : ℕ) → refused_of g ≡ None → k < length g.sizes → ranks_at (fresh_of g) k ≡ row_of g k
unfolding fresh_of
fresh-ranks g k h l = given-ranks g k (taken_of g h).few l

own_ranks : (s : Session) (k : ℕ) → Right s → k < length (given_of s).sizes → ranks_at s k ≡ row_of (given_of s) k
own_ranks s k r l = ap (λ (t : Session). ranks_at t k) r.afresh ∙ fresh-ranks (given_of s) k r.accepted l

module _ (s : Session) (z : ℕ) (ts : List ℤ) (t : Session) (h : joined s z ts ≡ Ok t) where
  passed : refused_by (join_rows s ts) ≡ None
  unfolding joined
  passed = served_none _ _ h

  handed_join : t ≡ fresh_of (with_operand (given_of s) z ts)
  unfolding joined
  handed_join = served_is (refused_by (join_rows s ts)) _ h

  abbrev g : Given
  g = given_of s

  r : Right s
  r = join_right s ts passed

  more : length (with_operand g z ts).sizes ≡ length g.sizes + 1
  more = length-append g.sizes (z ∷ [])

  accepted : refused_of (with_operand g z ts) ≡ None
  accepted = join_accepted g z ts r.accepted (join_room s ts passed) (join_counted s ts passed) (join_near s ts passed)

  rows_of : (k : ℕ) → k < length g.sizes + 1 → ranks_at t k ≡ row_of (with_operand g z ts) k
  rows_of k l = ap (λ (x : Session). ranks_at x k) handed_join ∙ fresh-ranks (with_operand g z ts) k accepted (omega (arith, l, more))

  -- the operands that were there keep their numbers
  pub join_keeps : (k : ℕ) → k < s.operands → ranks_at t k ≡ ranks_at s k
  unfolding row_of
  join_keeps k l =
      let w : k < length g.sizes = omega (arith, l, right_operands s r) in
      rows_of k (omega (arith, w))
      ∙ ap (λ (l : List ℤ). padded 64 0 (ranks l)) (row_stays g.strides ts (length g.extents) (length g.sizes) (taken_of g r.accepted).strides k w)
      ∙ sym (own_ranks s k r w)

  -- and behind them stand the ranks of the new one's own strides
  pub join_adds : ranks_at t s.operands ≡ padded 64 0 (ranks ts)
  unfolding row_of
  join_adds =
      ap (ranks_at t) (right_operands s r)
      ∙ rows_of (length g.sizes) (omega arith)
      ∙ ap (λ (l : List ℤ). padded 64 0 (ranks l))
      (row_new g.strides ts (length g.extents) (length g.sizes) (taken_of g r.accepted).strides (join_counted s ts passed))

module _ (s : Session) (k : ℕ) (t : Session) (h : left s k ≡ Ok t) where
  let_through : refused_by (leave_rows s k) ≡ None
  unfolding left
  let_through = served_none _ _ h

  handed-left : t ≡ fresh_of (without_operand (given_of s) k)
  unfolding left
  handed-left = served_is (refused_by (leave_rows s k)) _ h

  -- those before it stay where they are, those behind it move up with their numbers
  pub leave_keeps : (j : ℕ) → j < s.operands - 1 → ranks_at t j ≡ ranks_at s (old_place k j)
  unfolding row_of
  leave_keeps j l =
      let r' = leave_right s k let_through in
      let g' = given_of s in
      let there = leave_there s k let_through in
      let e : s.operands ≡ length g'.sizes = right_operands s r' in
      let ok = leave_accepted g' k r'.accepted there (leave_two s k let_through) in
      let less = one_less g' k r'.accepted there (leave_two s k let_through) in
      let w : j < length g'.sizes - 1 = omega (arith, l, e) in
      ap (λ (x : Session). ranks_at x j) handed-left
      ∙ fresh-ranks (without_operand g' k) j ok (omega (arith, w, less))
      ∙ ap (λ (l : List ℤ). padded 64 0 (ranks l)) (row_moves g'.strides (length g'.extents) (length g'.sizes) k (taken_of g' r'.accepted).strides there j w)
      ∙ sym (own_ranks s (old_place k j) r' (old-there (length g'.sizes) k j there w))

-- ---- the chosen operand

-- the operand at the new place of c is c
pub place-back : (k c : ℕ) → (c ≡ k → ⊥) → old_place k (new_place k c) ≡ c
place-back k c d = go (ltb k c) refl
  where
    go : (b : Bool) → ltb k c ≡ b → old_place k (cond b (c - 1) c) ≡ c
    go true q =
        let t = ltb-true k c q in
        let n : ltb (c - 1) k ≡ false = le-ltb (c - 1) k (omega (arith, t)) in
        rw n (let e : suc (c - 1) ≡ c = omega (arith, t) in e)
    go false q =
        let t = ltb-false k c q in
        let x : c < k = ⊎_elim (λ (e : c ≡ k). absurd (d e)) (λ (e : c < k). e) (eq-or-lt_of_le t) in
        rw (lt-ltb c k x)

-- so the chosen operand, where another leaves, has the size and the strides that it had
pub chosen_moves : (sizes : List ℕ) (ss : List ℤ) (rank k c : ℕ) → length ss ≡ rank * length sizes → k < length sizes → (c ≡ k → ⊥) → new_place k c < length sizes - 1
    → (get_or (sizes_without k sizes) (new_place k c) 0 ≡ get_or sizes c 0) × (stride_row (strides_without rank (length sizes) k ss) rank (new_place k c) ≡ stride_row ss rank c)
chosen_moves sizes ss rank k c e h d l = (
  get_d_run (λ j. get_or sizes (old_place k j) 0) 0 (length sizes - 1) 0 (new_place k c) l
      ∙ ap (λ (i : ℕ). get_or sizes (old_place k i) 0) (let z : 0 + new_place k c ≡ new_place k c = omega arith in z)
      ∙ ap (λ (i : ℕ). get_or sizes i 0) (place-back k c d),
  row_moves ss rank (length sizes) k e h (new_place k c) l ∙ ap (stride_row ss rank) (place-back k c d),
)
