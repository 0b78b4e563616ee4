-- The steps from one version to the next, and what they make of it.
use Rattle.std.specs.Prelude.{List, [], ◌∷◌, ◌++◌, flat_map}
use Rattle.osm_base.specs.declared.values.row.Delta.{Delta}
use Rattle.osm_base.specs.declared.values.row.RowChange.{RowChange}
use Rattle.osm_base.specs.map.Spots.{changed}
use Rattle.grid_index.specs.Grid.{with_box}
use Rattle.table_versions.specs.Fronts.{FrontOf}
use Rattle.table_versions.specs.declared.shown.Shown.{Shown}
use Rattle.table_versions.specs.declared.shown.Step.{Step}
use Rattle.table_versions.specs.declared.shown.Step.TheVariants.{Boxed, Changed, Whole}
use Rattle.map_query.specs.RowBoxes.{box_in}

-- what a step makes of a version
abbrev pub stepped : Shown → Step → Shown
stepped shown (Boxed table key around) = record shown { boxes = with_box shown.boxes table key around }
stepped shown (Changed change) = record shown { tables = changed shown.tables change }
stepped shown (Whole version front) = record shown { version = version; front = front }

-- the steps of a change of a row, and of all changes
abbrev pub steps_of : RowChange → List Step
steps_of change = Boxed change.table change.key (box_in change.row) ∷ Changed change ∷ []

abbrev pub steps_of_all : List RowChange → List Step
steps_of_all changes = flat_map steps_of changes

-- the steps to the version that a delta makes
abbrev pub steps_to : Delta → FrontOf → List Step
steps_to delta front = steps_of_all delta.changes ++ Whole delta.version front ∷ []
