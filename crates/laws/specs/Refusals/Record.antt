-- ROW 24: the test on a machine record is the claim; and planning's rows against the layout's. With an allowed record planning refuses what
-- index finding does; where planning does not refuse, the record is allowed.
-- Assumes nothing.
use Rattle.std.specs.Prelude.{◌≡◌, refl, true, ◌&&◌, ◌||◌, List, ℤ, None}
use Rattle.std.proofs.Common.{sym, ◌∙◌, subst, ⊎_elim, arith, pow_mono}
use Rattle.std.proofs.Math.Bool.{Bool}
use Prim.Native.Nat.{ℕ, zero, suc, ◌%◌, ◌^◌, ◌≤◌}
use Rattle.std.proofs.Math.Dec.{leb, eqb}
use borrow.Author.Tests.{leb-true, le-leb, eqb-true, eq-eqb, not-false}
use Rattle.strided.specs.Machine.{Allowed, line_allowed, allowed, fixed_four}
use Rattle.strided.specs.Refusals.{layout_refused, planning_rows, planning_refused}
use Rattle.strided.specs.declared.Machine.{Machine}
use Rattle.strided.specs.declared.Purpose.{Purpose}
use Rattle.laws.specs.Base.Refusals.{NoneApplies, none_applies}
use Rattle.laws.specs.Base.Tests.{and_both, or_cases}

-- ---- the line: a power of two, 32 to 256

pub record Line (n : ℕ) : Type 0 where
  pub power : (k : ℕ) × (n ≡ 2 ^ k)
  pub from : 32 ≤ n
  pub to : n ≤ 256

pub line_true : (n : ℕ) → line_allowed n ≡ true → Line n
line_true n h = ⊎_elim
    (λ e. let q = eqb-true n 32 e in record { power = (5, q); from = omega arith; to = omega arith })
    (λ r. ⊎_elim
    (λ e. let q = eqb-true n 64 e in record { power = (6, q); from = omega arith; to = omega arith })
    (λ r. ⊎_elim
    (λ e. let q = eqb-true n 128 e in record { power = (7, q); from = omega arith; to = omega arith })
    (λ e. let q = eqb-true n 256 e in record { power = (8, q); from = omega arith; to = omega arith })
    (or_cases (eqb n 128) (eqb n 256) r))
    (or_cases (eqb n 64) (eqb n 128 || eqb n 256) r))
    (or_cases (eqb n 32) (eqb n 64 || (eqb n 128 || eqb n 256)) h)

power_allowed : (k : ℕ) → 32 ≤ 2 ^ k → 2 ^ k ≤ 256 → line_allowed (2 ^ k) ≡ true
power_allowed zero h l = absurd (omega arith)
power_allowed (suc zero) h l = absurd (omega arith)
power_allowed (suc (suc zero)) h l = absurd (omega arith)
power_allowed (suc (suc (suc zero))) h l = absurd (omega arith)
power_allowed (suc (suc (suc (suc zero)))) h l = absurd (omega arith)
power_allowed (suc (suc (suc (suc (suc zero))))) h l = refl
power_allowed (suc (suc (suc (suc (suc (suc zero)))))) h l = refl
power_allowed (suc (suc (suc (suc (suc (suc (suc zero))))))) h l = refl
power_allowed (suc (suc (suc (suc (suc (suc (suc (suc zero)))))))) h l = refl
power_allowed (suc (suc (suc (suc (suc (suc (suc (suc (suc k))))))))) h l =
    let j : ℕ = suc (suc (suc (suc (suc (suc (suc (suc (suc k)))))))) in
    let big : 2 ^ 9 ≤ 2 ^ j = pow_mono {i = 9} {j = j} (omega arith) in
    absurd (omega arith)

line_back : (n : ℕ) → Line n → line_allowed n ≡ true
line_back n h =
    let e = h.power.1 in
    subst (λ (x : ℕ). line_allowed x ≡ true) (sym e) (power_allowed h.power.0 (omega (arith, h.from, e)) (omega (arith, h.to, e)))

-- ---- the record

module _ (mc : Machine) where
  -- the test holds of the allowed records
  pub allowed_true : allowed mc ≡ true → Allowed mc
  unfolding allowed
  allowed_true h =
      let l : ℕ = mc.line in
      let c : ℕ = mc.cache in
      let w : ℕ = mc.way in
      let n : ℕ = mc.live in
      let cs : Bool = leb 4096 c && leb c 1048576 in
      let ws : Bool = eqb (w % l) 0 && (leb l w && leb w c) in
      let ns : Bool = leb 1 n && leb n 16 in
      let a = and_both (line_allowed l) (cs && (ws && ns)) h in
      let b = and_both cs (ws && ns) a.1 in
      let d = and_both ws ns b.1 in
      let line = line_true l a.0 in
      let cache = and_both (leb 4096 c) (leb c 1048576) b.0 in
      let way = and_both (eqb (w % l) 0) (leb l w && leb w c) d.0 in
      let ways = and_both (leb l w) (leb w c) way.1 in
      let live = and_both (leb 1 n) (leb n 16) d.1 in
      record {
        power = line.power;
        line_from = line.from;
        line_to = line.to;
        cache_from = leb-true 4096 c cache.0;
        cache_to = leb-true c 1048576 cache.1;
        way_lines = eqb-true (w % l) 0 way.0;
        way_from = leb-true l w ways.0;
        way_to = leb-true w c ways.1;
        live_from = leb-true 1 n live.0;
        live_to = leb-true n 16 live.1;
      }

  -- and of no others
  pub allowed-back : Allowed mc → allowed mc ≡ true
  unfolding allowed
  allowed-back a =
      rw (
        line_back mc.line (record { power = a.power; from = a.line_from; to = a.line_to }),
        le-leb 4096 mc.cache a.cache_from,
        le-leb mc.cache 1048576 a.cache_to,
        eq-eqb (mc.way % mc.line) 0 a.way_lines,
        le-leb mc.line mc.way a.way_from,
        le-leb mc.way mc.cache a.way_to,
        le-leb 1 mc.live a.live_from,
        le-leb mc.live 16 a.live_to,
      )

pub fixed_allowed : Allowed fixed_four
unfolding allowed
fixed_allowed = allowed_true fixed_four refl

-- ---- planning's rows

module _ (mc : Machine) (es sizes : List ℕ) (ss : List ℤ) (u : Purpose) where
  -- with an allowed record planning refuses a layout as index finding does
  pub planning_as : Allowed mc → planning_refused mc es sizes ss u ≡ layout_refused es sizes ss u
  unfolding planning_refused layout_refused
  planning_as a = rw (allowed-back mc a)

  pub planning_allowed : planning_refused mc es sizes ss u ≡ None → Allowed mc
  unfolding planning_refused NoneApplies
  planning_allowed h = allowed_true mc (not-false (allowed mc) (none_applies (planning_rows mc es sizes ss u) h).1.1.1.1.0)

  pub planning_layout : planning_refused mc es sizes ss u ≡ None → layout_refused es sizes ss u ≡ None
  planning_layout h = sym (planning_as (planning_allowed h)) ∙ h

-- "the walklist text keeps the fixed four"
pub planning_fixed : (es sizes : List ℕ) (ss : List ℤ) (u : Purpose) → planning_refused fixed_four es sizes ss u ≡ layout_refused es sizes ss u
planning_fixed es sizes ss u = planning_as fixed_four es sizes ss u fixed_allowed
