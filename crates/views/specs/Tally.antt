-- What the functions that work a block's number out ask and answer: three figures of the axes from some axis on, and the room that each turn
-- has in 64 bits.
-- Assumes nothing.
use Rattle.std.specs.Prelude.{◌≡◌, List, ℕ, ◌+◌, ◌-◌, ◌*◌, ◌/◌, ◌^◌, ◌≤◌, ◌<◌, length, take}
use Rattle.strided.specs.Layout.{total}
use Rattle.strided.specs.Walk.{len_at}
use Rattle.strided.specs.Begin.{plan_extents}
use Rattle.strided.specs.Step.{plan_cut_axes}
use Rattle.strided.specs.declared.Plan.{Plan}
use Rattle.laws.specs.Walk.States.{Inside, OnStart}
use Rattle.views.specs.declared.number.Tally.{Tally}

-- one axis more, of extent e and block size w, at k
unfoldable pub tallied : ℕ → ℕ → ℕ → Tally → Tally
tallied e w k t =
    record {
      before = e * t.before + k / w * w * t.size;
      size = len_at e w (k / w * w) * t.size;
      place = len_at e w (k / w * w) * t.place + (k - k / w * w);
    }

-- and axis 0, which counts by whole tiles
unfoldable pub numbered : ℕ → ℕ → ℕ → Tally → ℕ
numbered e w k t = ((e - 1) / w + 1) * t.before + k / w * t.size + t.place

pub record Room (e w k : ℕ) (t : Tally) : Type 0 where
  pub wide : 0 < w
  pub below : k < e
  pub before : e * t.before + k / w * w * t.size < 2 ^ 64
  pub size : len_at e w (k / w * w) * t.size < 2 ^ 64
  pub place : len_at e w (k / w * w) * t.place + (k - k / w * w) < 2 ^ 64

pub record First (e w k : ℕ) (t : Tally) : Type 0 where
  pub wide : 0 < w
  pub below : k < e
  pub number : ((e - 1) / w + 1) * t.before + k / w * t.size + t.place < 2 ^ 64

-- the counters are those of a block of the plan, and the total fits 64 bits
pub record Countable (p : Plan) (c : List ℕ) : Type 0 where
  pub few : p.rank ≤ 64
  pub extents-all : length p.extents ≡ 64
  pub blocks_all : length p.blocks ≡ 64
  pub counters-all : length c ≡ 64
  pub inside : Inside (plan_cut_axes p) (take p.rank c)
  pub starts : OnStart (plan_cut_axes p) (take p.rank c)
  pub fits : total (plan_extents p) < 2 ^ 64
