use Rattle.std.proofs.Common.{◌≡◌, ◌++◌, drop, map}
use Rattle.row_text.specs.Numbered.{seen}
use Rattle.map_query.specs.RowBoxes.{rows_at}
use Rattle.map_query.proofs.near.rows_at.Given as goal

-- the rows that are found, and then those at the keys that are left, are all
abbrev pub invariant-loop-key : goal.invariant-loop-key
invariant-loop-key l = map seen l.rows.items ++ rows_at l.tables l.table (drop l.key-index l.keys) ≡ rows_at l.tables l.table l.keys
