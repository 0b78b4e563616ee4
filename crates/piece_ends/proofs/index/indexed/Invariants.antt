use Rattle.std.proofs.Common.{◌≡◌, ◌≤◌, length}
use Rattle.piece_ends.specs.Index.{AreLinks, AreHeadsFrom}
use Rattle.piece_ends.proofs.index.indexed.Given as goal

-- the pieces from the number on are taken in
abbrev pub invariant-loop-number : goal.invariant-loop-number
invariant-loop-number l = record {
  all : l.count ≡ length l.pieces;
  below : l.number ≤ length l.pieces;
  rows : length l.links.items ≡ length l.pieces;
  heads : AreHeadsFrom l.pieces l.heads l.number;
  linked : AreLinks l.pieces l.links.items l.number;
}
