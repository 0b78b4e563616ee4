-- The rows of keys, where what is known of a map suffices.
use Rattle.std.specs.Prelude.{◌≡◌, ℕ, List, map}
use Rattle.std.specs.List.{AllByRecursion}
use Rattle.osm_base.specs.map.Known.{Known}
use Rattle.osm_base.specs.map.Objects.{ObjectSet}
use Rattle.osm_base.specs.values.Key.{KeyOf}
use Rattle.style_read.specs.Style.{StyleOf}
use Rattle.row_rules.specs.Agree.{Suffices}
use Rattle.row_rules.specs.Rows.{rows_in, rows_known}

-- what is known suffices for all rows of a key in a map with these objects
abbrev pub SufficesFor : StyleOf → Known → ObjectSet → KeyOf → Type 0
SufficesFor style known objects key = (table : ℕ) → Suffices style table key known objects

-- where what is known suffices for each of these keys, their rows are those of the map
abbrev pub RowsAgree : StyleOf → Known → List KeyOf → Type 0
RowsAgree style known keys =
    (objects : ObjectSet) → AllByRecursion (SufficesFor style known objects) keys
    → map (rows_known style known) keys ≡ map (rows_in style objects) keys
