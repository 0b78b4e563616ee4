-- What is put in the tree is put in the map.
use Rattle.std.proofs.Common.{ap, ◌∙◌}
use Rattle.std.specs.Cmp.{nat_cmp_total}
use Rattle.std.specs.Ordering.{nat_cmp}
use Rattle.std.specs.FinMap as map
use Rattle.std.specs.FinMap.{nat_cmp-IsAntisymmetric}
use Rattle.osm_base.proofs.Found.{inserted}
use Rattle.bucket_records.specs.Records.{BucketMap}
use Rattle.bucket_store.proofs.whole.WholeMap.put.Goals as goal

pub returns : goal.returns
returns c = record {
  put = inserted nat_cmp nat_cmp_total nat_cmp-IsAntisymmetric c.self.inside.tree c.insert.new.self c.args.key c.args.value
      c.in_ok-insert.ensures.updates
      ∙ ap (λ (m : BucketMap). map.insert m c.args.key c.args.value) c.self.view_is;
}
