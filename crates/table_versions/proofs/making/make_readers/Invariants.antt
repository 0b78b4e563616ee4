use Rattle.std.proofs.Common.{◌≡◌, drop, length}
use Rattle.std.specs.Prelude.{All}
use Rattle.left_right.specs.Sides.{view as knowledge}
use Rattle.table_versions.specs.Views.{IsNewReader}
use Rattle.table_versions.proofs.making.make_readers.Given as goal

-- the board shows and knows the same, and the readers so far are new ones
abbrev pub invariant-loop : goal.invariant-loop
invariant-loop l =
    (l.board.desk.shown ≡ l.fn.board.desk.shown)
    × (drop l.board.behind l.board.log.items ≡ drop l.fn.board.behind l.fn.board.log.items)
    × (knowledge l.board.desk.place ≡ knowledge l.fn.board.desk.place)
    × (length l.made.items ≡ l.counter)
    × All (IsNewReader l.style l.front) l.made.items
