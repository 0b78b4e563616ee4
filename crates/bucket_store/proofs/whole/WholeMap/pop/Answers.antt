-- The least key leaves.
use Rattle.std.proofs.Common.{sym, ap, ◌∙◌}
use Rattle.std.specs.Cmp.{nat_cmp_total}
use Rattle.std.specs.Ordering.{nat_cmp}
use Rattle.std.specs.FinMap as map
use Rattle.std.specs.FinMap.{nat_cmp-IsAntisymmetric}
use Rattle.osm_base.proofs.Found.{removed}
use Rattle.bucket_records.specs.Records.{BucketMap}
use Rattle.bucket_store.proofs.Caches.{if_some}
use Rattle.bucket_store.proofs.Wholes.{tree_get}
use Rattle.bucket_store.proofs.whole.WholeMap.pop.Goals as goal

pub returns-clause-there : goal.returns-clause-there
returns-clause-there c =
    if_some c.pop_first.result _ _ c.pop_first.ensures.value
    (λ p is. sym (tree_get p.0 c.self.inside.tree.entries c.args.self.now c.self.view_is) ∙ is)

pub returns-clause-rest : goal.returns-clause-rest
returns-clause-rest c =
    if_some c.pop_first.result _ _ c.pop_first.ensures.updates (λ p is.
    removed nat_cmp nat_cmp_total nat_cmp-IsAntisymmetric c.self.inside.tree c.pop_first.new.self p.0 is
    ∙ ap (λ (m : BucketMap). map.remove m p.0) c.self.view_is)
