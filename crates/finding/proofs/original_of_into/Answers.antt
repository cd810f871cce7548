-- `finding::original_of_into` meets its contract. Assumes nothing.
use Rattle.finding.specs.Mapped.{Sound}
use Rattle.finding.proofs.Maps.{sound}
use Rattle.finding.proofs.Answers.{same-told, tells_original}
use Rattle.finding.proofs.original_of_into.Goals as goal

-- the map serves
pub invariant_of-map : goal.invariant_of-map
invariant_of-map c = record { sound = sound c.args.layout.fits c.map_into.ensures c.requires }

pub returns : goal.returns
returns c =
    let serves : Sound c.args.layout.extents.now c.map_into.new.order c.map_into.new.fused = sound c.args.layout.fits c.map_into.ensures c.requires in
    same-told (tells_original serves c.map_into.ensures c.args.counters.now) c.original_by_into.ensures
