-- The version of the library.
-- Assumes nothing.
use Rattle.std.specs.Prelude.{ℕ, ◌+◌, ◌*◌}

abbrev pub major : ℕ
major = 1

abbrev pub minor : ℕ
minor = 0

abbrev pub patch : ℕ
patch = 3

-- as one number, which grows with the version
abbrev pub version : ℕ
version = major * 1000000 + minor * 1000 + patch
