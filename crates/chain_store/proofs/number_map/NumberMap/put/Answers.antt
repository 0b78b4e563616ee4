use Rattle.std.proofs.Common.{◌∙◌, ap}
use Rattle.std.specs.Cmp.{nat_cmp_total}
use Rattle.std.specs.Ordering.{nat_cmp}
use Rattle.std.specs.FinMap as map
use Rattle.std.specs.FinMap.{nat_cmp-IsAntisymmetric}
use Rattle.osm_base.proofs.Found.{inserted}
use Rattle.chain_store.proofs.number_map.NumberMap.put.Goals as goal

pub returns-clause-ok : goal.returns-clause-ok
returns-clause-ok g c =
    inserted nat_cmp nat_cmp_total nat_cmp-IsAntisymmetric c.self.inside.tree c.insert.new.self c.args.n c.args.value
    c.in_ok-insert.ensures.updates
    ∙ ap (λ numbers. map.insert numbers c.args.n c.args.value) c.self.view_is
