use Rattle.std.proofs.Common.{◌≡◌, ◌++◌, map}
use Rattle.std.specs.Prelude.{drop}
use Rattle.toml.specs.View.{view}
use Rattle.style_read.specs.Reading.{tag_conditions}
use Rattle.style_read.proofs.selections.tag_conditions.Given as goal

-- what is made, and then what is left, is all
abbrev pub invariant-loop-value : goal.invariant-loop-value
invariant-loop-value l = l.made ++ tag_conditions (map view (drop l.value-index l.values)) ≡ tag_conditions (map view l.fn.values)
