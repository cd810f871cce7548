-- A step that hands out a block, seen: what is told of its first cell decides. Assumes nothing.
use Rattle.std.specs.Prelude.{◌≡◌, List, ℕ, take, Option, Some, Result, Ok, Err}
use Rattle.std.proofs.Common.{ap, arith}
use Rattle.strided.specs.Step.{left, handed_block}
use Rattle.strided.specs.Memory.{StepMemory, step_memory, step_leaves, kept_step}
use Rattle.strided.specs.declared.Refusal.{Refusal}
use Rattle.strided.specs.declared.Plan.{Plan}
use Rattle.strided.specs.declared.Told.{Told}
use Rattle.strided.specs.declared.Walk.{Walk}
use Rattle.strided.specs.declared.Block.{Block}
use Rattle.strided.specs.declared.Stepped.{Stepped}
use Rattle.views.specs.Visits.{found_visit, visit_by, seen_by}

module _ (s : Result Stepped Refusal) (b : Block) (h : handed_block s ≡ Some b) (lent : Walk) where
  pub seen_block : (tell : List ℕ → Result Told Refusal) (p : Plan) → seen_by tell p s ≡ found_visit p b (left s lent) (tell (take p.rank b.counters))
  seen_block tell p = go s h
    where
      go : (s : Result Stepped Refusal) → handed_block s ≡ Some b → seen_by tell p s ≡ found_visit p b (left s lent) (tell (take p.rank b.counters))
      go (Ok x) q = ap (λ (o : Option Block). visit_by tell p o x.walk) q
      go (Err r) q = let z : ◌≡◌ {A = ℕ} 0 1 = cc q in absurd (omega arith)

  -- and what lent memory then holds
  pub leaves_block : (old : StepMemory) → step_leaves s old ≡ step_memory (left s lent) b
  leaves_block old = go s h
    where
      go : (s : Result Stepped Refusal) → handed_block s ≡ Some b → step_leaves s old ≡ step_memory (left s lent) b
      go (Ok x) q = ap (λ (o : Option Block). kept_step (step_memory x.walk) o old) q
      go (Err r) q = let z : ◌≡◌ {A = ℕ} 0 1 = cc q in absurd (omega arith)
