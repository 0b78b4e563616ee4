use Rattle.std.proofs.Common.{◌≡◌, ◌++◌, drop}
use Rattle.std.specs.Vec.Iter.{into_iter_items}
use Rattle.table_versions.specs.Steps.{steps_of_all}
use Rattle.table_versions.proofs.publisher.queue_changes.Given as goal

-- the steps that are handed in, and then those of the changes that are left, are all
abbrev pub invariant-loop-change : goal.invariant-loop-change
invariant-loop-change l =
    (l.board.desk ≡ l.fn.board.desk) × (drop l.board.behind l.board.log.items ++ steps_of_all (into_iter_items l.change-iterator)
    ≡ steps_of_all l.fn.changes)
