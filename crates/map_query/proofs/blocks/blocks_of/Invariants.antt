use Rattle.std.proofs.Common.{◌++◌, ◌-◌, List, Option, drop, length}
use Rattle.osm_base.specs.declared.values.place.GeoBox.{GeoBox}
use Rattle.map_query.specs.Ordered.{AreBlocks}
use Rattle.map_query.proofs.blocks.blocks_of.Given as goal

-- with boxes around the rows that are left, these are boxes around all
abbrev pub invariant-loop-at : goal.invariant-loop-at
invariant-loop-at l = (later : List (Option GeoBox)) → AreBlocks later (drop l.at l.rows) → AreBlocks (l.blocks.items ++ later) l.rows

abbrev pub decreases-loop-at : goal.decreases-loop-at
decreases-loop-at l = length l.rows - l.at
