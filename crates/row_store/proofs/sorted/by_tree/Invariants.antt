use Rattle.std.proofs.Common.{◌≡◌, reverse}
use Rattle.std.specs.FinMap as finite
use Rattle.osm_base.specs.map.Spots.{spot_cmp}
use Rattle.row_store.proofs.sorted.by_tree.Given as goal

-- the tables have the rows that came, the last of which is the first
abbrev pub invariant-loop-spot : goal.invariant-loop-spot
invariant-loop-spot l = l.tables ≡ finite.from_entries {R = spot_cmp} (reverse l.yielded)
