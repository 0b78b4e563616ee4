use Rattle.std.proofs.Common.{T, drop}
use Rattle.std.specs.FinMap.{is_sorted}
use Rattle.osm_base.specs.map.Spots.{spot_cmp}
use Rattle.row_store.proofs.OrderLaws.{rises_behind}
use Rattle.row_store.proofs.sorted.are_rising.Given as goal

-- the rows rise where those that are left do, behind the last
abbrev pub invariant-loop-spot : goal.invariant-loop-spot
invariant-loop-spot l = T (rises_behind l.last (drop l.spot-index l.rows)) → T (is_sorted spot_cmp l.rows)
