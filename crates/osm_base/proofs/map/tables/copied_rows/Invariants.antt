use Rattle.std.proofs.Common.{◌≡◌, map, reverse}
use Rattle.std.specs.FinMap as finite
use Rattle.osm_base.specs.map.SpotTree.{rows_in}
use Rattle.osm_base.specs.map.Spots.{spot_cmp}
use Rattle.osm_base.proofs.map.tables.copied_rows.Given as goal

-- the copy has the rows that came, the last of which is the first
abbrev pub invariant-loop-spot : goal.invariant-loop-spot
invariant-loop-spot l = rows_in l.copy ≡ finite.from_entries {R = spot_cmp} (reverse (map (λ entry. (entry.0.now, entry.1.now)) l.yielded))
