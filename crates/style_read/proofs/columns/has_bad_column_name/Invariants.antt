use Rattle.std.proofs.Common.{◌≡◌, [], map}
use Rattle.std.specs.Prelude.{take, drop}
use Rattle.toml.specs.View.{view}
use Rattle.style_read.specs.Causes.{has_bad_column_name}
use Rattle.style_read.proofs.columns.has_bad_column_name.Given as goal

-- the columns that are left, beside those before them, are judged as all are
abbrev pub invariant-loop-index : goal.invariant-loop-index
invariant-loop-index l =
    has_bad_column_name (map view (take l.index l.columns)) (map view (drop l.index l.columns))
    ≡ has_bad_column_name [] (map view l.columns)
