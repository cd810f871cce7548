-- Ask 13, "Other processors": "Planning shall take a machine record". What it holds, which records are allowed, and the one that the text
-- keeps. Every definition that reads the record takes it as its first argument.
-- Assumes nothing.
use Rattle.std.specs.Prelude.{◌≡◌, Bool, ◌&&◌, ◌||◌, ℕ, ◌%◌, ◌^◌, ◌≤◌, leb, eqb}
use Rattle.strided.specs.declared.Machine.{Machine}

-- the claim
pub record Allowed (mc : Machine) : Type 0 where
  -- "line (a power of two, 32 to 256 bytes)"
  pub power : (k : ℕ) × (mc.line ≡ 2 ^ k)
  pub line_from : 32 ≤ mc.line
  pub line_to : mc.line ≤ 256
  -- "cache bytes (4,096 to 1,048,576)"
  pub cache_from : 4096 ≤ mc.cache
  pub cache_to : mc.cache ≤ 1048576
  -- "way bytes (a multiple of the line, from the line up to the cache)"
  pub way_lines : mc.way % mc.line ≡ 0
  pub way_from : mc.line ≤ mc.way
  pub way_to : mc.way ≤ mc.cache
  -- "live lines (1 to 16)"
  pub live_from : 1 ≤ mc.live
  pub live_to : mc.live ≤ 16

-- and the test; that they say the same is a law (crate laws, Refusals/Record)
abbrev pub line_allowed : ℕ → Bool
line_allowed n = eqb n 32 || (eqb n 64 || (eqb n 128 || eqb n 256))

unfoldable pub allowed : Machine → Bool
allowed mc =
    line_allowed mc.line
    && ((leb 4096 mc.cache && leb mc.cache 1048576)
    && ((eqb (mc.way % mc.line) 0 && (leb mc.line mc.way && leb mc.way mc.cache))
    && (leb 1 mc.live && leb mc.live 16)))

-- the record of four numbers, as entries take it that have no records
abbrev pub machine_of : ℕ → ℕ → ℕ → ℕ → Machine
machine_of l c w n = record { line = l; cache = c; way = w; live = n }

-- "The plan section's fixed 64, 32,768, 4,096 and 6"; "the walklist text keeps the fixed four"
abbrev pub fixed_four : Machine
fixed_four = machine_of 64 32768 4096 6
