-- THE VISITS BLOCK BY BLOCK: a block's cells are a run from its offset, with the plan's first stride between them; and the blocks of a stretch are
-- rows of runs. So the visits are what a loop over stretches goes through.
-- Assumes nothing.
use Rattle.std.specs.Prelude.{◌≡◌, refl, List, [], ◌∷◌, ◌++◌, map, ℕ, zero, suc, ◌+◌, ℤ, pos, ◌+ℤ◌, ◌*ℤ◌, length, get_or, take}
use Rattle.std.proofs.Common.{sym, ap, ◌∙◌, subst, add-zero, arith}
use Rattle.std.proofs.lemmas.Simd.{map-map}
use Rattle.std.proofs.lemmas.List.{map-append}
use Rattle.std.proofs.Math.IntN.{+ℤ_assoc, +ℤ_comm, +ℤ_idr, suc_ℤ-*ℤ}
use Rattle.strided.specs.Base.{over, run}
use Rattle.strided.specs.Layout.{dot}
use Rattle.strided.specs.Walk.{CutAxis, ax, Block, counters, length_at, block_at, cell_at}
use Rattle.strided.specs.Begin.{plan_row}
use Rattle.strided.specs.Memory.{plan_of}
use Rattle.strided.specs.declared.Plan.{Plan}
use Rattle.strided.specs.Step.{plan_cut_axes}
use Rattle.laws.specs.Base.Lists.{over-map}
use Rattle.laws.specs.Walk.Placed.{Placed, placed_from, placed_walk}
use Rattle.walker.specs.declared.Next.{Next}
use Rattle.walker.specs.Stretch.{block_in, laid, told}
use Rattle.summary.specs.Visits.{indices_in, offset_at, visits_of}
use Rattle.summary.specs.Ahead.{run_from, rows_from}
use Rattle.summary.proofs.Meeting.{move_none, move_last}

-- the run of a block, as its user has it
abbrev pub run_in : ℤ → Placed → List ℤ
run_in t b = run_from (get_or b.offsets 0 (pos 0)) t b.length

-- ---- a block

-- numbers that grow by t
map-run : (f : ℕ → ℤ) (t : ℤ) → ((k : ℕ) → f (suc k) ≡ f k +ℤ t) → (n j : ℕ) → map f (run j n) ≡ run_from (f j) t n
map-run f t h zero j = refl
map-run f t h (suc n) j = ap (λ (l : List ℤ). f j ∷ l) (map-run f t h n (suc j) ∙ ap (λ (o : ℤ). run_from o t n) (h j))

-- one more on axis 0 is one more stride
one_more_lem : (z t d : ℤ) (k : ℕ) → z +ℤ (pos (suc k) *ℤ t +ℤ d) ≡ (z +ℤ (pos k *ℤ t +ℤ d)) +ℤ t
one_more_lem z t d k =
    ap (λ (y : ℤ). z +ℤ y) (ap (λ (y : ℤ). y +ℤ d) (suc_ℤ-*ℤ (pos k) t) ∙ +ℤ_assoc (pos k *ℤ t) t d ∙ ap (λ (y : ℤ). pos k *ℤ t +ℤ y) (+ℤ_comm t d) ∙ sym (+ℤ_assoc (pos k *ℤ t) d t))
    ∙ sym (+ℤ_assoc z (pos k *ℤ t +ℤ d) t)

row_more : (z : ℤ) (ts : List ℤ) (s k : ℕ) (v : List ℕ)
    → z +ℤ dot (cell_at (s ∷ v) (suc k)) ts ≡ (z +ℤ dot (cell_at (s ∷ v) k) ts) +ℤ get_or ts 0 (pos 0)
row_more z [] s k v = sym (+ℤ_idr (z +ℤ pos 0))
row_more z (t ∷ ts) s k v =
    let e : s + suc k ≡ suc (s + k) = omega arith in
    ap (λ (n : ℕ). z +ℤ (pos n *ℤ t +ℤ dot v ts)) e ∙ one_more_lem z t (dot v ts) (s + k)

-- at its first cell
first_cell : (c : List ℕ) → cell_at c 0 ≡ c
first_cell [] = refl
first_cell (s ∷ v) = ap (λ (n : ℕ). n ∷ v) (add-zero s)

-- the stride between the cells: that of axis 0, where there is one
head-take : (r : ℕ) (ss : List ℤ) → get_or (take (suc r) ss) 0 (pos 0) ≡ get_or ss 0 (pos 0)
head-take r [] = refl
head-take r (t ∷ ss) = refl

-- with no axis a block has one cell at most
lone : (z t : ℤ) (ts : List ℤ) (axs : List CutAxis) → map (λ (k : ℕ). z +ℤ dot (cell_at [] k) ts) (run 0 (length_at axs [])) ≡ run_from (z +ℤ dot [] ts) t (length_at axs [])
lone z t ts [] = refl
lone z t ts (ax e w ∷ axs) = refl

one_cell : (z t : ℤ) (ts : List ℤ) (c : List ℕ) → map (λ (k : ℕ). z +ℤ dot (cell_at c k) ts) (run 0 1) ≡ run_from (z +ℤ dot c ts) t 1
one_cell z t ts c = ap (λ (x : List ℕ). (z +ℤ dot x ts) ∷ []) (first_cell c)

many-cells : (z : ℤ) (ts : List ℤ) (s : ℕ) (v : List ℕ) (n : ℕ)
    → map (λ (k : ℕ). z +ℤ dot (cell_at (s ∷ v) k) ts) (run 0 n) ≡ run_from (z +ℤ dot (s ∷ v) ts) (get_or ts 0 (pos 0)) n
many-cells z ts s v n =
    map-run (λ (k : ℕ). z +ℤ dot (cell_at (s ∷ v) k) ts) (get_or ts 0 (pos 0)) (λ k. row_more z ts s k v) n 0
    ∙ ap (λ (x : List ℕ). run_from (z +ℤ dot x ts) (get_or ts 0 (pos 0)) n) (first_cell (s ∷ v))

block_run_lem : (rank : ℕ) (E B : List ℕ) (S : List ℤ) (z : ℤ) (c : List ℕ)
    → map (offset_at (plan_of rank 1 E B S) z) (indices_in (block_at (plan_cut_axes (plan_of rank 1 E B S)) c))
    ≡ run_from (offset_at (plan_of rank 1 E B S) z c) (get_or S 0 (pos 0)) (length_at (plan_cut_axes (plan_of rank 1 E B S)) c)
block_run_lem zero E B S z c = map-map (offset_at (plan_of 0 1 E B S) z) (cell_at c) (run 0 1) ∙ one_cell z (get_or S 0 (pos 0)) [] c
block_run_lem (suc r) E B S z [] =
    let p = plan_of (suc r) 1 E B S in
    map-map (offset_at p z) (cell_at []) (run 0 (length_at (plan_cut_axes p) [])) ∙ lone z (get_or S 0 (pos 0)) (plan_row p 0) (plan_cut_axes p)
block_run_lem (suc r) E B S z (s ∷ v) =
    let p = plan_of (suc r) 1 E B S in
    let n = length_at (plan_cut_axes p) (s ∷ v) in
    map-map (offset_at p z) (cell_at (s ∷ v)) (run 0 n) ∙ many-cells z (plan_row p 0) s v n
    ∙ ap (λ (t : ℤ). run_from (offset_at p z (s ∷ v)) t n) (head-take r S)

-- ---- all blocks

map-over : {A B C : Type 0} (f : B → C) (l : List A) (g : A → List B) → map f (over l g) ≡ over l (λ (x : A). map f (g x))
map-over f [] g = refl
map-over {A} {B} {C} f (x ∷ l) g = map-append f (g x) (over l g) ∙ ap (λ (r : List C). map f (g x) ++ r) (map-over f l g)

-- THE VISITS, block by block
visits-placed : (rank : ℕ) (E B : List ℕ) (S : List ℤ) (z : ℤ)
    → visits_of (plan_of rank 1 E B S) z ≡ over (placed_walk (plan_of rank 1 E B S) (z ∷ [])) (run_in (get_or S 0 (pos 0)))
visits-placed rank E B S z =
    let p = plan_of rank 1 E B S in
    let cs = counters (plan_cut_axes p) in
    map-over (offset_at p z) (map (block_at (plan_cut_axes p)) cs) indices_in
    ∙ over-map (block_at (plan_cut_axes p)) cs (λ (b : Block). map (offset_at p z) (indices_in b))
    ∙ ap (λ (g : List ℕ → List ℤ). over cs g) (λ i c. block_run_lem rank E B S z c i)
    ∙ sym (over-map (placed_from p (z ∷ [])) cs (run_in (get_or S 0 (pos 0))))

-- of a plan of one operand
pub visits_walk : (p : Plan) → p.operands ≡ 1 → (z : ℤ) → visits_of p z ≡ over (placed_walk p (z ∷ [])) (run_in (get_or p.strides 0 (pos 0)))
visits_walk p one z =
    let e : 1 ≡ p.operands = sym one in
    let is : plan_of p.rank 1 p.extents p.blocks p.strides ≡ p = λ i. record { rank = p.rank; operands = e i; extents = p.extents; blocks = p.blocks; strides = p.strides } in
    subst (λ (q : Plan). visits_of q z ≡ over (placed_walk q (z ∷ [])) (run_in (get_or q.strides 0 (pos 0)))) is (visits-placed p.rank p.extents p.blocks p.strides z)

-- ---- a stretch

-- its rows, from block s on
rows_on : (o d t : ℤ) (m n : ℕ) (c s : ℕ)
    → over (map (block_in (record { offsets = o ∷ []; length = m; count = n; moves = d ∷ [] })) (run s c)) (run_in t) ≡ rows_from (o +ℤ pos s *ℤ d) d c t m
rows_on o d t m n zero s = refl
rows_on o d t m n (suc c) s =
    ap (λ (l : List ℤ). run_from (o +ℤ pos s *ℤ d) t m ++ l) (rows_on o d t m n c (suc s) ∙ ap (λ (y : ℤ). rows_from y d c t m) (sym (move_last o d s)))

rows_all : (o d t : ℤ) (m c : ℕ) → over (laid (record { offsets = o ∷ []; length = m; count = c; moves = d ∷ [] })) (run_in t) ≡ rows_from o d c t m
rows_all o d t m c = rows_on o d t m c c 0 ∙ ap (λ (y : ℤ). rows_from y d c t m) (sym (move_none o d))

-- THE BLOCKS OF A STRETCH, as rows of runs
pub laid-rows : (t : ℤ) (r : Next) (first ds : List ℤ) → length first ≡ 8 → length ds ≡ 8
    → over (laid (told 1 r first ds)) (run_in t) ≡ rows_from (get_or first 0 (pos 0)) (get_or ds 0 (pos 0)) r.count t r.length
laid-rows t r [] ds h g = absurd (omega arith)
laid-rows t r (o ∷ os) [] h g = absurd (omega arith)
laid-rows t r (o ∷ os) (d ∷ ds) h g = rows_all o d t r.length r.count
