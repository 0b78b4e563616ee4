use Rattle.std.proofs.Common.{◌≡◌, ◌++◌, map}
use Rattle.std.specs.Prelude.{drop}
use Rattle.toml.specs.View.{view}
use Rattle.style_read.specs.Reading.{conditions}
use Rattle.style_read.proofs.table_defs.conditions.Given as goal

-- what is made, and then what is left, is all
abbrev pub invariant-loop-value : goal.invariant-loop-value
invariant-loop-value l =
    l.made ++ conditions (map view l.selections) (map view (drop l.value-index l.values))
    ≡ conditions (map view l.selections) (map view l.fn.values)
