use Rattle.std.proofs.Common.{◌≡◌, take}
use Rattle.std.specs.Prelude.{flat_map}
use Rattle.lanes_geo.specs.Box.{box_of}
use Rattle.map_query.specs.Answer.{line_places}
use Rattle.map_query.proofs.boxes.box_of_polygons.Given as goal

-- the box so far is that of the polygons so far
abbrev pub invariant-loop-rings : goal.invariant-loop-rings
invariant-loop-rings l = l.around ≡ box_of (flat_map line_places (take l.rings-index l.polygons))
