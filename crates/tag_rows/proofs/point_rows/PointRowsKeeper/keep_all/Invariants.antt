use Rattle.std.proofs.Common.{◌≡◌, drop, fold}
use Rattle.tag_rows.specs.PointRows.{after_entry}
use Rattle.tag_rows.proofs.point_rows.PointRowsKeeper.keep_all.Given as goal

-- what is left makes of the rows now what all entries make of them
abbrev pub invariant-loop-entry : goal.invariant-loop-entry
invariant-loop-entry l = fold after_entry l.self (drop l.entry-index l.entry-items) ≡ fold after_entry l.fn.self l.fn.entries.items
