use Rattle.std.proofs.Common.{◌≡◌, ℕ, cond, take}
use Rattle.std.specs.FinMap as map
use Rattle.std.specs.Str.{chars}
use Rattle.osm_base.specs.values.Ids.{has}
use Rattle.tag_rows.specs.WayRows.{row_known, some_row}
use Rattle.tag_rows.proofs.way_rows.set_rows.Given as goal

-- the rows of the ways so far are built anew
abbrev pub invariant-loop-id : goal.invariant-loop-id
invariant-loop-id g l = (id : ℕ) → map.get l.rows id
    ≡ cond (has (take l.id-index l.due) id) (some_row (row_known (chars l.key) (g.L.Lookup.known l.objects) id)) (map.get l.initial.rows id)
