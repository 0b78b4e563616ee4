use Rattle.std.proofs.Common.{◌≡◌, drop, fold}
use Rattle.row_rules.specs.Shape.{with_way, ways_among}
use Rattle.row_map.specs.Seen.{AreSeen}
use Rattle.row_map.proofs.pieces.ways_among.Given as goal

-- the ways so far, and then what the members that are left make of them
abbrev pub invariant-loop-member : goal.invariant-loop-member
invariant-loop-member l =
    (fold with_way l.ways.items (drop l.member-index l.members) ≡ ways_among l.members) × AreSeen l.seen l.ways.items
