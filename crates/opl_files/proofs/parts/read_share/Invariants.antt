use Rattle.std.proofs.Common.{length}
use Rattle.opl_files.proofs.PartLaws.{HasFront}
use Rattle.opl_files.proofs.parts.read_share.Given as goal

-- the lines before the rest are read
abbrev pub invariant-loop-line : goal.invariant-loop-line
invariant-loop-line l = HasFront l.limits l.bytes l.rest l.part

abbrev pub decreases-loop-line : goal.decreases-loop-line
decreases-loop-line l = length l.rest
