use Rattle.std.proofs.Common.{◌≡◌, ◌≤◌, drop, length}
use Rattle.opl_files.specs.Parts.{bytes_in}
use Rattle.opl_files.proofs.waiting.behind.Given as goal

-- behind the shares that are left stands the same
abbrev pub invariant-loop-share : goal.invariant-loop-share
invariant-loop-share l = record {
  within : bytes_in l.left ≤ length l.rest;
  same : drop (bytes_in l.left) l.rest ≡ drop (bytes_in l.shares) l.bytes;
}

abbrev pub decreases-loop-share : goal.decreases-loop-share
decreases-loop-share l = length l.left
