use Rattle.std.proofs.Common.{◌≡◌, []}
use Rattle.opl_files.proofs.waiting.emptied.Given as goal

-- the room has no entry
abbrev pub invariant-loop-share : goal.invariant-loop-share
invariant-loop-share l = l.room.items ≡ []
