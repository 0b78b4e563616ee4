use Rattle.std.proofs.Common.{◌≡◌, ◌++◌, drop, map}
use Rattle.std.specs.String.{string_bytes}
use Rattle.row_text.specs.Numbered.{seen}
use Rattle.row_text.specs.Table.{lines_of}
use Rattle.row_text.proofs.table.push_rows.Given as goal

-- what is written, and then the lines of the rows that are left, are the lines of all
abbrev pub invariant-loop-own : goal.invariant-loop-own
invariant-loop-own l =
    string_bytes l.out ++ lines_of l.of_areas (map seen (drop l.own-index l.rows)) ≡ string_bytes l.initial.out
    ++ lines_of l.of_areas (map seen l.rows)
