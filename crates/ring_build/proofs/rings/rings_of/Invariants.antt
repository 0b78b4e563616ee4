use Rattle.std.proofs.Common.{◌≡◌, ◌++◌, true, length}
use Rattle.std.specs.Prelude.{All}
use Rattle.std.specs.List.{list_all}
use Rattle.piece_ends.specs.Walk.{lines_by}
use Rattle.piece_ends.specs.Rings.{ring_begun, has_four_points}
use Rattle.osm_base.specs.values.Line.{IsRing}
use Rattle.ring_build.proofs.Closed.{AreAlike}
use Rattle.ring_build.proofs.rings.rings_of.Given as goal

-- the rings so far, and then those of the pieces that are left, are all of them
abbrev pub invariant-rings : goal.invariant-rings
invariant-rings l = record {
  all : l.rings ++ lines_by ring_begun l.unused ≡ lines_by ring_begun l.pieces;
  alike : AreAlike l.pieces l.unused;
  four : list_all has_four_points l.rings ≡ true;
  closed : All IsRing l.rings;
}

abbrev pub decreases-rings : goal.decreases-rings
decreases-rings l = length l.unused
