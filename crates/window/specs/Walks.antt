-- DEMAND 3 FOR A WINDOW'S WALK: "Walks of a window meet the window's own indices once, and no two of these name the same parent index", and
-- at each place the offsets are those of the parent index. Assumes nothing.
use Rattle.std.specs.Prelude.{◌≡◌, false, List, ℕ, ◌<◌, ℤ, pos, ◌+ℤ◌, ◌-ℤ◌, ◌*ℤ◌, length, get_or, None, Some, Result, Ok}
use Rattle.std.proofs.Common.{sym, ap, ◌∙◌, subst, arith}
use Rattle.std.proofs.Math.IntN.{+ℤ_comm, -ℤ-+ℤ_cancel}
use Rattle.strided.specs.Base.{nth}
use Rattle.strided.specs.Layout.{Within, NoZero, dot, chosen, stride_row}
use Rattle.strided.specs.Machine.{Allowed}
use Rattle.strided.specs.Refusals.{missing, planning_refused}
use Rattle.strided.specs.Plan.{planned}
use Rattle.strided.specs.Begin.{begin_refused, begun_at}
use Rattle.strided.specs.Demand3.{replaced, steps_from, Ends, Meets, Demand3}
use Rattle.strided.specs.declared.Machine.{Machine}
use Rattle.strided.specs.declared.Purpose.{Purpose}
use Rattle.strided.specs.declared.Refusal.{Refusal}
use Rattle.strided.specs.declared.Plan.{Plan}
use Rattle.strided.specs.declared.Stepped.{Stepped}
use Rattle.laws.specs.Base.Integers.{+ℤ-left-comm, +ℤ-less}
use Rattle.laws.specs.Plan.Begins.{begins_to}
use Rattle.laws.specs.Plan.Answers.{not-refused, planned_served, planned_is}
use Rattle.laws.specs.Refusals.Record.{planning_layout}
use Rattle.laws.specs.Refusals.Rows.{served_none}
use Rattle.laws.specs.Demand3.Whole.{demand3}
use Rattle.window.specs.declared.Windowed.{Windowed}
use Rattle.window.specs.Window.{parent_index, window_strides, window_shifts, shifted, windowed}
use Rattle.window.specs.Indices.{parent_within, parent_once}
use Rattle.window.specs.Layouts.{WindowTaken, window_taken, served_window, window_planned, length_shifts}
use Rattle.window.specs.Starts.{length-shifted, get_d_shifted, window_offset, window_begins}
use Rattle.strided.specs.declared.Walk.{Walk}

-- the parent, the window, the purpose and the plan of the window's layout, and the list of steps
module _ (es sizes : List ℕ) (ss : List ℤ) (fs ns : List ℕ) (st : List ℤ) (u : Purpose) (p : Plan) (steps : List (Result Stepped Refusal)) where
  -- "It meets the original index whose plan index is that of cell k": an index of the window's layout
  abbrev pub MeetsWindow : ℕ → ℕ → List ℕ → Type 0
  MeetsWindow m k x = Meets ns sizes (window_strides ns st ss (length es) (length sizes)) u p steps m k x

  -- zs are starts in the parent; the walk began at these, shifted
  pub record WindowWalk (zs : List ℤ) : Type 0 where
    -- "Walks of a window meet the window's own indices once"
    pub own : Demand3 ns sizes (window_strides ns st ss (length es) (length sizes)) u p steps (shifted zs (window_shifts fs ns ss (length es) (length sizes)))
    -- each is an index of the parent, "first + step × i"
    pub within : (m k : ℕ) (x : List ℕ) → MeetsWindow m k x → Within es (parent_index fs st x)
    -- "no two of these name the same parent index": no parent index is met at two places
    pub once : (m k i j : ℕ) (x y : List ℕ) → MeetsWindow m k x → MeetsWindow i j y → parent_index fs st x ≡ parent_index fs st y → (x ≡ y) × (m ≡ i) × (k ≡ j)
    -- "the offsets must agree cell by cell": less the parent's start, it is the sum of parent index times parent stride
    pub offsets : (m k : ℕ) (x : List ℕ) (q : MeetsWindow m k x) (j : ℕ) → j < length sizes
        → get_or q.by.offsets j (pos 0) +ℤ pos k *ℤ get_or q.by.strides j (pos 0) -ℤ get_or zs j (pos 0) ≡ dot (parent_index fs st x) (stride_row ss (length es) j)
    -- once the walk has ended, each index of the window was met before, so each parent index that the window names
    pub all : (m : ℕ) (s : Result Stepped Refusal) (end : Walk) → nth steps m ≡ Some s → Ends s end → (x : List ℕ) → Within ns x → (i : ℕ) × (k : ℕ) × (i < m) × MeetsWindow i k x

-- THE STATEMENT: for every window that is served and has no count of 0, every machine and purpose that planning takes, the plan's block sizes left or
-- replaced by any numbers, every list of parent starts at which, shifted, the window's walk begins, and every number of steps
abbrev pub Statement : Type 0
Statement =
    (es sizes : List ℕ) (ss : List ℤ) (fs ns : List ℕ) (st : List ℤ) → (w : Windowed) → windowed es sizes ss fs ns st ≡ Ok w → NoZero ns
    → (mc : Machine) (u : Purpose) → (p : Plan) → planned mc ns sizes (window_strides ns st ss (length es) (length sizes)) u ≡ Ok p
    → (bs : List ℕ) (zs : List ℤ) → (b : Walk) → begun_at (replaced p bs) (shifted zs (window_shifts fs ns ss (length es) (length sizes))) ≡ Ok b
    → (n : ℕ) → WindowWalk es sizes ss fs ns st u (replaced p bs) (steps_from (replaced p bs) n b) zs

-- what lies behind a shifted start lies behind the start, with the shift
unshift : (o z d r : ℤ) → o -ℤ (z +ℤ d) ≡ r → o -ℤ z ≡ d +ℤ r
unshift o z d r h =
    let e : o ≡ z +ℤ (d +ℤ r) =
    sym (-ℤ-+ℤ_cancel o (z +ℤ d)) ∙ ap (λ (y : ℤ). y +ℤ (z +ℤ d)) h ∙ +ℤ-left-comm r z d ∙ ap (λ (y : ℤ). z +ℤ y) (+ℤ_comm r d) in
    ap (λ (y : ℤ). y -ℤ z) e ∙ +ℤ-less z (d +ℤ r)

-- DEMAND 3 FOR A WINDOW'S WALK
pub window_walk : Statement
unfolding begun_at
window_walk es sizes ss fs ns st v served nz mc u p hp bs zs b hb n =
    record {
      own = d;
      within = λ m k x q. parent_within w.lies x q.inside;
      once = λ m k i j x y q r e.
          let same : x ≡ y = parent_once w.lies x y q.inside r.inside e in
          let one = d.once m k i j y (subst (λ (v : List ℕ). MeetsWindow es sizes ss fs ns st u P L m k v) same q) r in
          (same, one.0, one.1);
      offsets = λ m k x q j l.
          unshift (get_or q.by.offsets j (pos 0) +ℤ pos k *ℤ get_or q.by.strides j (pos 0)) (get_or zs j (pos 0)) (get_or ds j (pos 0)) (dot x (stride_row ws (length ns) j))
          (ap (λ (s : ℤ). get_or q.by.offsets j (pos 0) +ℤ pos k *ℤ get_or q.by.strides j (pos 0) -ℤ s) (sym (start j l)) ∙ d.offsets m k x q j l)
          ∙ window_offset es sizes ss fs ns st w x q.inside j l;
      all = λ m s end e h. (d.ends m s e).0 (end, h);
    }
  where
    ws : List ℤ
    ws = window_strides ns st ss (length es) (length sizes)

    ds : List ℤ
    ds = window_shifts fs ns ss (length es) (length sizes)

    P : Plan
    P = replaced p bs

    L : List (Result Stepped Refusal)
    L = steps_from P n b

    w : WindowTaken es (length sizes) ss fs ns st
    w = window_taken es sizes ss fs ns st (served_window es sizes ss fs ns st served)

    d : Demand3 ns sizes ws u P L (shifted zs ds)
    d = demand3 mc ns sizes ws u nz p hp bs (shifted zs ds) b hb n

    many : length zs ≡ length sizes
    many =
        sym (length-shifted zs ds)
        ∙ (begins_to mc ns sizes ws u (not-refused mc ns sizes ws u hp) bs (shifted zs ds)
        (subst (λ (q : Plan). begin_refused (replaced q bs) (shifted zs ds) ≡ None) (planned_is mc ns sizes ws u hp) (served_none (begin_refused P (shifted zs ds)) _ hb))).0

    start : (j : ℕ) → j < length sizes → get_or (shifted zs ds) j (pos 0) ≡ get_or zs j (pos 0) +ℤ get_or ds j (pos 0)
    start j l = get_d_shifted zs ds j (omega (arith, many)) (omega (arith, length_shifts es sizes ss fs ns st w))

-- THE SAME FROM THE PARENT: where a walk of the parent's plan begins, the walk of the window's plan from the shifted starts is such a walk,
-- whatever allowed machine and purpose the window is planned for, and whatever the block sizes
module _ (es sizes : List ℕ) (ss : List ℤ) (fs ns : List ℕ) (st : List ℤ) where
  abbrev ws : List ℤ
  ws = window_strides ns st ss (length es) (length sizes)

  pub walk-from_parent : (w : Windowed) → windowed es sizes ss fs ns st ≡ Ok w → NoZero ns
      → (mc : Machine) (u : Purpose) → (p : Plan) → planned mc es sizes ss u ≡ Ok p → (bs : List ℕ) (zs : List ℤ) → (b : Walk) → begun_at (replaced p bs) zs ≡ Ok b
      → (mc' : Machine) (v : Purpose) → Allowed mc' → missing (length sizes) (chosen v) ≡ false → (cs : List ℕ) (n : ℕ)
      → (p' : Plan) × (b' : Walk) × (planned mc' ns sizes (window_strides ns st ss (length es) (length sizes)) v ≡ Ok p')
      × (begun_at (replaced p' cs) (shifted zs (window_shifts fs ns ss (length es) (length sizes))) ≡ Ok b')
      × WindowWalk es sizes ss fs ns st v (replaced p' cs) (steps_from (replaced p' cs) n b') zs
  walk-from_parent o served nz mc u p hp bs zs b hb mc' v m c cs n =
      let w : WindowTaken es (length sizes) ss fs ns st = window_taken es sizes ss fs ns st (served_window es sizes ss fs ns st served) in
      let h : planning_refused mc es sizes ss u ≡ None = not-refused mc es sizes ss u hp in
      let g : planning_refused mc' ns sizes ws v ≡ None = window_planned es sizes ss fs ns st w u (planning_layout mc es sizes ss u h) mc' v m c in
      let plans = planned_served mc' ns sizes ws v g in
      let begins = window_begins es sizes ss fs ns st w mc u h bs mc' v g cs zs (subst (λ (q : Plan). begun_at (replaced q bs) zs ≡ Ok b) (planned_is mc es sizes ss u hp) hb) in
      (_, _, plans, begins, window_walk es sizes ss fs ns st o served nz mc' v _ plans cs zs _ begins n)
