use Rattle.std.proofs.Common.{◌≡◌, ◌++◌, drop}
use Rattle.std.specs.List.{filter_map}
use Rattle.line_build.proofs.points.places_of.Given as goal

-- the places of the nodes so far, and then of those that are left
abbrev pub invariant-loop-id : goal.invariant-loop-id
invariant-loop-id g l =
    l.places.items ++ filter_map (g.L.Lookup.known l.lookup).place (drop l.id-index l.ids)
    ≡ filter_map (g.L.Lookup.known l.lookup).place l.ids
