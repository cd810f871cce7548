-- `finding::index_map` meets its contract. Assumes nothing.
use mathlib.Core.Path.{◌∙◌}
use Rattle.finding.proofs.Maps.{rank_are, sound}
use Rattle.finding.proofs.index_map.Goals as goal

pub returns : goal.returns
returns c =
    let f = c.map_into.ensures in record { mapped = record { rank_is = c.plan_rank-rank.ensures ∙ rank_are c.args.layout.fits.rank-few f; arrays = f }; usable = record { arrays = sound c.args.layout.fits f c.requires; rank_is = c.plan_rank-rank.ensures } }
