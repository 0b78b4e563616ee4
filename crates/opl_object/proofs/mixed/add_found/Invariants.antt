use Rattle.std.proofs.Common.{◌≡◌, ◌++◌, take}
use Rattle.opl_object.specs.Mixed.{tags_in}
use Rattle.opl_object.proofs.mixed.add_found.Given as goal

abbrev pub invariant-loop-piece : goal.invariant-loop-piece
invariant-loop-piece l = l.list ≡ l.fn.list ++ tags_in (take l.piece-index l.found)
