use Rattle.std.proofs.Common.{◌≡◌, ◌+◌, List, length}
use Rattle.std.specs.Prelude.{All}
use Rattle.style_read.specs.Style.{StyleOf}
use Rattle.table_versions.specs.Fronts.{FrontOf}
use Rattle.map_query.specs.declared.query.Query.{Query}
use Rattle.table_versions.specs.Views.{IsNewReader}
use Rattle.reader_rounds.specs.Asking.{HasAsked}
use Rattle.reader_rounds.proofs.askers.Askers.of.Given as goal

-- the readers that are left are new ones, and the others have not asked
abbrev pub invariant-loop-reader : goal.invariant-loop-reader
invariant-loop-reader l =
    (length l.askers.items + length l.readers ≡ length l.fn.readers)
    × ((style : StyleOf) (front : FrontOf) (queries : List Query) → All (IsNewReader style front) l.fn.readers
    → All (IsNewReader style front) l.readers × All (HasAsked style front queries 0) l.askers.items)

abbrev pub decreases-loop-reader : goal.decreases-loop-reader
decreases-loop-reader l = length l.readers
