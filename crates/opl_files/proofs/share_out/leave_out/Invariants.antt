use Rattle.std.proofs.Common.{take, ◌≤◌, ◌-◌, length}
use Rattle.opl_files.proofs.ShareLaws.{AreWhole}
use Rattle.opl_files.proofs.share_out.leave_out.Given as goal

-- the shares so far have their whole pieces
abbrev pub invariant-loop-whole : goal.invariant-loop-whole
invariant-loop-whole l = record {
  pieces : l.whole ≤ length l.pieces;
  shares : l.whole ≤ length l.shares.items;
  whole : AreWhole (take l.whole l.pieces) (take l.whole l.shares.items);
}

abbrev pub decreases-loop-whole : goal.decreases-loop-whole
decreases-loop-whole l = length l.pieces - l.whole
