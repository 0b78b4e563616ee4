use Rattle.std.proofs.Common.{◌≡◌, [], map}
use Rattle.std.specs.Prelude.{take, drop}
use Rattle.toml.specs.View.{view}
use Rattle.style_read.specs.Causes.{first_with_cause, table_cause}
use Rattle.style_read.specs.declared.fault.StylePart.TheVariants as parts
use Rattle.style_read.proofs.reading.tables_fault.Given as goal

-- what stands against those that are left, beside those before them, stands against all
abbrev pub invariant-loop-index : goal.invariant-loop-index
invariant-loop-index l =
    first_with_cause (table_cause (map view l.selections)) parts.Table (map view (take l.index l.tables)) (map view (drop l.index l.tables))
    ≡ first_with_cause (table_cause (map view l.selections)) parts.Table [] (map view l.tables)
