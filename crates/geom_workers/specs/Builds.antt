-- What a worker built.
use Rattle.std.specs.Prelude.{◌≡◌, ℕ, List, map}
use Rattle.osm_base.specs.map.Known.{Known}
use Rattle.osm_base.specs.map.Pending.{PendingOf}
use Rattle.osm_base.specs.declared.values.row.TableRow.{TableRow}
use Rattle.style_read.specs.Style.{StyleOf}
use Rattle.geom_workers.specs.Keys.{key_at}
use Rattle.row_rules.specs.Rows.{rows_known}
use Rattle.geom_workers.specs.declared.part.Part.{Part}

-- the rows of the key with a number
abbrev pub rows_at : StyleOf → Known → PendingOf → ℕ → List TableRow
rows_at style known pending number = rows_known style known (key_at pending number)

-- the tickets drawn, and at the same place the rows of each
pub record Builds (style : StyleOf) (known : Known) (pending : PendingOf) (drawn : List ℕ) (part : Part) : Type 0 where
  pub tickets : part.tickets ≡ drawn
  pub rows : part.rows ≡ map (rows_at style known pending) drawn
