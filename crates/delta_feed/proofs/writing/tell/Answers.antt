use Rattle.std.proofs.Common.{Some, subst}
use Rattle.std.specs.BTreeMap.{Updates}
use Rattle.osm_base.specs.map.Spots.{spot_cmp, spot_of}
use Rattle.osm_base.proofs.Found.{inserted}
use Rattle.osm_base.proofs.SpotOrder.{tree_cmp-spot_cmp, spot_cmp_total, spot_cmp-IsAntisymmetric}
use Rattle.delta_feed.proofs.writing.tell.Goals as goal

pub returns : goal.returns
returns c = record {
  told = inserted spot_cmp spot_cmp_total spot_cmp-IsAntisymmetric c.args.told.now c.insert.new.self (spot_of c.args.change) c.args.change
      (subst (λ cmp. Updates cmp c.args.told.now c.insert.new.self (spot_of c.args.change) (Some c.args.change)) tree_cmp-spot_cmp
      c.in_ok-insert.ensures.updates);
}
