use Rattle.std.proofs.Common.{◌≡◌, ◌++◌, map}
use Rattle.std.specs.Prelude.{drop}
use Rattle.toml.specs.View.{view}
use Rattle.style_read.specs.Reading.{table}
use Rattle.style_read.proofs.table_defs.tables.Given as goal

-- what is made, and then what is left, is all
abbrev pub invariant-loop-part : goal.invariant-loop-part
invariant-loop-part l =
    l.made ++ map (table (map view l.selections)) (map view (drop l.part-index l.parts))
    ≡ map (table (map view l.selections)) (map view l.fn.parts)
