use Rattle.std.proofs.Common.{take}
use Rattle.update_flow.specs.Ids.{AreIdEntries}
use Rattle.update_flow.proofs.ids.known_ids.Given as goal

-- so far each has
abbrev pub invariant-loop-entry : goal.invariant-loop-entry
invariant-loop-entry l = AreIdEntries (take l.entry-index l.entries)
