use Rattle.std.proofs.Common.{Some, subst}
use Rattle.std.specs.BTreeMap.{Updates}
use Rattle.osm_base.specs.map.Spots.{spot_cmp}
use Rattle.osm_base.proofs.Found.{inserted}
use Rattle.osm_base.proofs.SpotOrder.{tree_cmp-spot_cmp, spot_cmp_total, spot_cmp-IsAntisymmetric}
use Rattle.osm_base.proofs.map.tables.set_row.Goals as goal

pub returns-clause-ok : goal.returns-clause-ok
returns-clause-ok c =
    inserted spot_cmp spot_cmp_total spot_cmp-IsAntisymmetric c.args.rows.now c.insert.new.self c.args.spot c.args.row
    (subst (λ cmp. Updates cmp c.args.rows.now c.insert.new.self c.args.spot (Some c.args.row)) tree_cmp-spot_cmp
    c.in_ok-insert.ensures.updates)
