use Rattle.std.proofs.Common.{◌≡◌, ◌<◌, length}
use Rattle.piece_ends.specs.Walk.{extended}
use Rattle.piece_ends.proofs.walk.extend.Given as goal

-- from here the walk comes to the same line as from the start
abbrev pub invariant-walk : goal.invariant-walk
invariant-walk l = record {
  points : 0 < length l.line.items;
  walk : extended (length l.unused) l.line.items l.unused ≡ extended (length l.initial.unused) l.initial.line.items l.initial.unused;
}

abbrev pub decreases-walk : goal.decreases-walk
decreases-walk l = length l.unused
