use Rattle.std.proofs.Common.{None, subst}
use Rattle.std.specs.BTreeMap.{Updates}
use Rattle.osm_base.specs.map.Spots.{spot_cmp}
use Rattle.osm_base.proofs.Found.{removed}
use Rattle.osm_base.proofs.SpotOrder.{tree_cmp-spot_cmp, spot_cmp_total, spot_cmp-IsAntisymmetric}
use Rattle.osm_base.proofs.map.tables.remove_row.Goals as goal

pub returns : goal.returns
returns c =
    removed spot_cmp spot_cmp_total spot_cmp-IsAntisymmetric c.args.rows.now c.remove.new.self c.args.spot
    (subst (λ cmp. Updates cmp c.args.rows.now c.remove.new.self c.args.spot None) tree_cmp-spot_cmp c.remove.ensures.updates)
