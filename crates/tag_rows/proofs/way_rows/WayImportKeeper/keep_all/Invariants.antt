use Rattle.std.proofs.Common.{◌≡◌, drop, fold}
use Rattle.tag_rows.specs.WayRows.{after_way}
use Rattle.tag_rows.proofs.way_rows.WayImportKeeper.keep_all.Given as goal

-- what is left makes of the objects now what all entries make of them
abbrev pub invariant-loop-entry : goal.invariant-loop-entry
invariant-loop-entry l = fold after_way l.self (drop l.entry-index l.entry-items) ≡ fold after_way l.fn.self l.fn.entries.items
