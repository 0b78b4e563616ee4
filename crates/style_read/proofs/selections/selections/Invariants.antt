use Rattle.std.proofs.Common.{◌≡◌, ◌++◌, map}
use Rattle.std.specs.Prelude.{drop}
use Rattle.toml.specs.View.{view}
use Rattle.style_read.specs.Reading.{selection}
use Rattle.style_read.proofs.selections.selections.Given as goal

-- what is made, and then what is left, is all
abbrev pub invariant-loop-part : goal.invariant-loop-part
invariant-loop-part l = l.made ++ map selection (map view (drop l.part-index l.parts)) ≡ map selection (map view l.fn.parts)
