-- The parts of a plan's output, as they are handed on one after the other: the K line, the A lines, the rest.
-- Assumes nothing.
use mathlib.Core.Path.{◌≡◌, refl, sym, ap, ◌∙◌}
use mathlib.Core.List.{List, ◌++◌}
use Prim.Native.Nat.{ℕ}
use Rattle.std.specs.Prelude.{Option}
use Rattle.strided.specs.Base.{over, run}
use Rattle.strided.specs.Text.{rank_line, printed_plan}
use Rattle.strided.specs.declared.Plan.{Plan}
use Rattle.writing.specs.Plan.{axis_at, rest_from}
use Rattle.writing.specs.Sink.{Sinks, Goes}
use Rattle.writing.proofs.Axes.{printed_parts}
use Rattle.writing.proofs.Taking.{Taking, taking_start, taking_may, taking_next, taking_full, taking_last_may, taking_last}

module _ {S : Type 0} (May : S → List ℕ → List ℕ → Type 0) (Took : S → List ℕ → List ℕ → S → List ℕ → Type 0) (Full : S → List ℕ → Type 0) (L : Sinks May Took Full)
    (p : Plan) (s₀ : S) (old : List ℕ) (m : May s₀ old (printed_plan p)) (line : List ℕ) (e : line ≡ rank_line p.rank) where
  abbrev whole : List ℕ
  whole = printed_plan p

  abbrev axes : List ℕ
  axes = over (run 0 p.rank) (axis_at p)

  abbrev rest : List ℕ
  rest = rest_from p 0

  parts : printed_plan p ≡ line ++ (over (run 0 p.rank) (axis_at p) ++ rest_from p 0)
  parts = printed_parts p ∙ ap (λ (l : List ℕ). l ++ (axes ++ rest)) (sym e)

  start : Taking May Took s₀ old (printed_plan p) s₀ old (printed_plan p)
  start = taking_start May Took Full L s₀ old whole m

  pub head_may : May s₀ old line
  head_may = taking_may May Took Full L s₀ old whole s₀ old whole start line (axes ++ rest) parts

  pub head_full : Full s₀ line → Full s₀ (printed_plan p)
  head_full = taking_full May Took Full L s₀ old whole s₀ old whole start line (axes ++ rest) parts

  module _ (s : S) (out : List ℕ) (w : Took s₀ old line s out) where
    behind : Taking May Took s₀ old (printed_plan p) s out (over (run 0 p.rank) (axis_at p) ++ rest_from p 0)
    behind = taking_next May Took Full L s₀ old whole s₀ old whole start line (axes ++ rest) parts w

    pub axes_may : May s out (over (run 0 p.rank) (axis_at p))
    axes_may = taking_may May Took Full L s₀ old whole s out (axes ++ rest) behind axes rest refl

    pub axes_full : Full s (over (run 0 p.rank) (axis_at p)) → Full s₀ (printed_plan p)
    axes_full = taking_full May Took Full L s₀ old whole s out (axes ++ rest) behind axes rest refl

    module _ (s' : S) (out' : List ℕ) (v : Took s out (over (run 0 p.rank) (axis_at p)) s' out') where
      left : Taking May Took s₀ old (printed_plan p) s' out' (rest_from p 0)
      left = taking_next May Took Full L s₀ old whole s out (axes ++ rest) behind axes rest refl v

      pub rest_may : May s' out' (rest_from p 0)
      rest_may = taking_last_may May Took Full L s₀ old whole s' out' rest left rest refl

      pub rest_goes : (r : Option S) (new : List ℕ) → Goes Took Full s' out' (rest_from p 0) new r → Goes Took Full s₀ old (printed_plan p) new r
      rest_goes = taking_last May Took Full L s₀ old whole s' out' rest left rest refl
