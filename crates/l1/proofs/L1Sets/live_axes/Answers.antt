-- `l1::L1Sets::live_axes` meets its contract. The invariant: no axis before i has a byte stride below a line, and the set holds those whose
-- stride is a multiple of the way. Assumes nothing.
use native.Mathlib.Omega.{arith}
use mathlib.Core.Path.{◌≡◌, sym, ap, subst⁻¹, ◌∙◌}
use mathlib.Core.List.{List}
use Prim.Native.Nat.{ℕ, ◌+◌, ◌*◌, ◌%◌, ◌^◌, ◌<◌}
use Rattle.strided.specs.declared.Machine.{Machine}
use native.Mathlib.Nat.{sub-zero}
use lib.Dec.{eqb}
use lib.Pow.{pow_mono}
use mir.Val.{bool_byte}
use borrow.Author.Tests.{lt-ltb, le-ltb, eq-eqb, ne_eqb}
use Rattle.strided.specs.Base.{seek}
use Rattle.strided.specs.Region.{byte_at}
use Rattle.strided.specs.Fit.{reuse}
use Rattle.laws.specs.Cut.Ranges.{seek_none, seek_hit, seek_miss}
use Rattle.l1.specs.Live.{Holds, aliases_at, live_count}
use Rattle.std.proofs.Common.{rules}
use Rattle.l1.proofs.Loads.{holds_none, holds_more}
use Rattle.l1.proofs.L1Sets.live_axes.Goals as goal
use Rattle.l1.proofs.L1Sets.live_axes.Invariants.{near}

pub returns-then-size-eq0 : goal.returns-then-size-eq0
unfolding live_count
returns-then-size-eq0 c = record { count = rw (eq-eqb _ _ c.if-size-eq0.true); aliased = holds_none }

pub loop-i-init : goal.loop-i-init
unfolding reuse
loop-i-init c =
    let a = c.args in
    (ap (seek (near a.cut.machine.numbers a.cut.bytes.now a.k) 0) (sub-zero a.cut.axes.rank), holds_none)

pub returns-then-s-cut : goal.returns-then-s-cut
unfolding live_count
returns-then-s-cut c = let a = c.args in
    let e : reuse a.cut.machine.numbers a.cut.bytes.now a.cut.axes.rank a.k ≡ c.loop-i.i = sym c.loop-i.invariant.0 ∙ seek_hit (near a.cut.machine.numbers a.cut.bytes.now a.k) c.loop-i.i a.cut.axes.rank (omega arith) (lt-ltb (byte_at a.cut.bytes.now a.k c.loop-i.i) a.cut.machine.numbers.line (omega (arith, c.from-s.ensures, c.if-s-cut.true))) in
    record { count = rw (ne_eqb _ _ c.if-size-eq0.false, e, lt-ltb c.loop-i.i a.cut.axes.rank (omega arith)); aliased = c.loop-i.invariant.1 }

-- the set with axis i: its byte stride is a line at least, so not 0
stored : (mc : Machine) (bytes : List ℕ) (k i : ℕ) {aliased s r : ℕ} → Holds (aliases_at mc bytes k) i aliased → i < 64 → s ≡ byte_at bytes k i → 0 < s
    → r ≡ bool_byte (eqb (s % mc.way) 0) → Holds (aliases_at mc bytes k) (i + 1) (aliased + r * 2 ^ i % 2 ^ 64)
stored mc bytes k i {aliased} {s} {r} h l e p q =
    subst⁻¹ (λ (x : ℕ). Holds (aliases_at mc bytes k) (i + 1) (aliased + x * 2 ^ i % 2 ^ 64)) q
    (holds_more (eqb (s % mc.way) 0) h l (rw (ne_eqb (byte_at bytes k i) 0 (λ z. omega (arith, e, z)), e)))

pub overflow_add-aliased : goal.overflow_add-aliased
overflow_add-aliased c =
    let multiple : c.is_multiple_of.result ≡ eqb (c.from-s.result % c.args.cut.machine.numbers.way) 0 = search rules in
    let i : ℕ = c.loop-i.i in
    omega (arith, (stored c.args.cut.machine.numbers c.args.cut.bytes.now c.args.k i c.loop-i.invariant.1 (omega arith) c.from-s.ensures (omega arith) (c.from.ensures ∙ ap bool_byte multiple)).below, pow_mono {i = i + 1} {j = 64} (omega arith))

pub loop-i-preserved : goal.loop-i-preserved
loop-i-preserved c =
    let a = c.args in
    let multiple : c.is_multiple_of.result ≡ eqb (c.from-s.result % c.args.cut.machine.numbers.way) 0 = search rules in
    let i : ℕ = c.loop-i.i in (
      sym (seek_miss (near a.cut.machine.numbers a.cut.bytes.now a.k) i a.cut.axes.rank (omega arith) (le-ltb (byte_at a.cut.bytes.now a.k i) a.cut.machine.numbers.line (omega (arith, c.from-s.ensures, c.if-s-cut.false)))) ∙ c.loop-i.invariant.0,
      stored a.cut.machine.numbers a.cut.bytes.now a.k i c.loop-i.invariant.1 (omega arith) c.from-s.ensures (omega arith) (c.from.ensures ∙ ap bool_byte multiple),
    )

pub returns : goal.returns
unfolding live_count
returns c = let a = c.args in
    let e : reuse a.cut.machine.numbers a.cut.bytes.now a.cut.axes.rank a.k ≡ c.loop-i.i = sym c.loop-i.invariant.0 ∙ seek_none (near a.cut.machine.numbers a.cut.bytes.now a.k) c.loop-i.i a.cut.axes.rank (omega arith) in
    record { count = rw (ne_eqb _ _ c.if-size-eq0.false, e, le-ltb c.loop-i.i a.cut.axes.rank (omega arith)); aliased = holds_none }
