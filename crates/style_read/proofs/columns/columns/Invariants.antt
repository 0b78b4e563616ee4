use Rattle.std.proofs.Common.{◌≡◌, ◌++◌, map}
use Rattle.std.specs.Prelude.{drop}
use Rattle.std.specs.List.{filter_map}
use Rattle.toml.specs.View.{view}
use Rattle.style_read.specs.Column.{column_of}
use Rattle.style_read.proofs.columns.columns.Given as goal

-- what is made, and then what is left, is all
abbrev pub invariant-loop-value : goal.invariant-loop-value
invariant-loop-value l =
    l.made ++ filter_map (column_of (map view l.selections)) (map view (drop l.value-index l.values))
    ≡ filter_map (column_of (map view l.selections)) (map view l.fn.values)
