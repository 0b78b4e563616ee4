use Rattle.std.proofs.Common.{◌≡◌, ◌++◌, ◌+◌, ◌≤◌, length}
use Rattle.opl_files.proofs.ShareLaws.{bytes_of}
use Rattle.opl_files.proofs.share_out.pieces_of.Given as goal

-- the pieces are what stands before the rest, and there is room for it
abbrev pub invariant-loop : goal.invariant-loop
invariant-loop l = record {
  whole : bytes_of l.pieces.items ++ l.rest ≡ l.bytes;
  few : length l.pieces.items + 1 ≤ l.counter;
}
