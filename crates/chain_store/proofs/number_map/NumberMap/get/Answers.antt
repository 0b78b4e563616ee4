use Rattle.std.proofs.Common.{◌∙◌, ap}
use Rattle.std.specs.Cmp.{nat_cmp_total}
use Rattle.std.specs.Ordering.{nat_cmp}
use Rattle.std.specs.FinMap as map
use Rattle.std.specs.FinMap.{nat_cmp-IsAntisymmetric}
use Rattle.osm_base.proofs.Found.{found}
use Rattle.chain_store.proofs.number_map.NumberMap.get.Goals as goal

pub returns : goal.returns
returns g c = record {
  value =
      c.get.ensures.value ∙ found nat_cmp nat_cmp_total nat_cmp-IsAntisymmetric c.args.n c.self.inside.tree.entries
      ∙ ap (λ numbers. map.get numbers c.args.n) c.self.view_is;
}
