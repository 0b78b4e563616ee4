-- What suffices for the rows of keys.
use Rattle.std.specs.Prelude.{◌≡◌, List, map}
use Rattle.osm_base.specs.declared.values.row.TableRow.{TableRow}
use Rattle.osm_base.specs.values.Key.{KeyOf}
use Rattle.style_read.specs.Style.{StyleOf}
use Rattle.row_rules.specs.Condition.{reaches_nodes}
use Rattle.row_rules.specs.Rows.{rows_known}
use Rattle.store_maps.specs.Maps.{Maps}
use Rattle.store_maps.specs.Named.{known_on}
use Rattle.update_step.specs.Gather.{AreAsked, Gathered, IsRight, all_needs, known_in}

-- rows that are built of right answers to all that is asked of these keys are these
abbrev pub IsBuilt : StyleOf → Maps → List KeyOf → (KeyOf → List TableRow) → Type 0
IsBuilt style maps keys rows =
    (g : Gathered) → IsRight g (known_on maps) → AreAsked g (all_needs style (reaches_nodes style) (known_on maps) keys)
    → map (rows_known style (known_in g)) keys ≡ map rows keys
