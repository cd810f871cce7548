-- A text that is being written part by part. `Doing` is what every loop that writes keeps: `rest` of it is left to write, at p.
-- Assumes nothing.
use mathlib.Core.Path.{◌≡◌, refl, sym, ap, ◌∙◌}
use mathlib.Core.List.{List, [], ◌++◌, append_assoc, append-nil}
use Prim.Native.Nat.{ℕ, ◌+◌, ◌≤◌}
use native.Mathlib.Omega.{arith}
use lib.ListN.{length, length-append}
use Rattle.writing.specs.Put.{Wrote}
use Rattle.writing.specs.Putting.{wrote_nothing, wrote_length, wrote_then, wrote_is}

pub record Doing (old : List ℕ) (at : ℕ) (whole new : List ℕ) (p : ℕ) (rest : List ℕ) : Type 0 where
  pub done : List ℕ
  pub wrote : Wrote old at done new p
  pub splits : whole ≡ done ++ rest
  pub room : at + length whole ≤ length old

pub doing_start : (old : List ℕ) (at : ℕ) (whole : List ℕ) → at + length whole ≤ length old → Doing old at whole old at whole
doing_start old at whole h = record { done = []; wrote = wrote_nothing old at; splits = refl; room = h }

module _ {old : List ℕ} {at : ℕ} {whole new : List ℕ} {p : ℕ} {rest : List ℕ} (d : Doing old at whole new p rest) where
  doing_lengths : length whole ≡ length d.done + length rest
  doing_lengths = ap length d.splits ∙ length-append d.done rest

  pub doing_length : length new ≡ length old
  doing_length = let l = doing_lengths in wrote_length d.wrote (omega arith)

  -- what is left has room
  doing_fits : p + length rest ≤ length new
  doing_fits = let l = doing_lengths in let k = doing_length in omega arith

-- what is left begins with u: u has room, and once it is written the rest is left
module _ {old : List ℕ} {at : ℕ} {whole new : List ℕ} {p : ℕ} {left : List ℕ} (u rest : List ℕ) (e : left ≡ u ++ rest) (d : Doing old at whole new p left) where
  pub doing_room : p + length u ≤ length new
  doing_room = let f = doing_fits d in let l = ap length e ∙ length-append u rest in omega arith

  pub doing_next : {newer : List ℕ} {q : ℕ} → Wrote new p u newer q → Doing old at whole newer q rest
  doing_next w =
      record {
        done = d.done ++ u;
        wrote = let l = doing_lengths d in let m = ap length e ∙ length-append u rest in wrote_then d.wrote w (omega arith);
        splits = d.splits ∙ ap (λ (l : List ℕ). d.done ++ l) e ∙ sym (append_assoc d.done u rest);
        room = d.room;
      }

-- nothing is left
pub doing_end : {old : List ℕ} {at : ℕ} {whole new : List ℕ} {p : ℕ} {left : List ℕ} → left ≡ [] → Doing old at whole new p left → Wrote old at whole new p
doing_end e d = wrote_is d.wrote (sym (append-nil d.done) ∙ ap (λ (l : List ℕ). d.done ++ l) (sym e) ∙ sym d.splits)
