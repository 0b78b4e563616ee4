use Rattle.std.proofs.Common.{◌≡◌, take}
use Rattle.update_step.specs.NewObjects.{relations_folded}
use Rattle.update_step.proofs.new_objects.relations_of.Given as goal

-- the relations among what the entries so far make
abbrev pub invariant-loop-entry : goal.invariant-loop-entry
invariant-loop-entry l = l.relations ≡ relations_folded (take l.entry-index l.entry-items)
