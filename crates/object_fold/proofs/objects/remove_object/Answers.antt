use Rattle.std.proofs.Common.{None, subst}
use Rattle.std.specs.BTreeMap.{Updates}
use Rattle.osm_base.specs.values.KeyOrder.{key_cmp}
use Rattle.osm_base.proofs.KeyLaws.{key_cmp_total, key_cmp-IsAntisymmetric, tree_cmp-key_cmp}
use Rattle.osm_base.proofs.Found.{removed}
use Rattle.object_fold.proofs.objects.remove_object.Goals as goal

pub returns : goal.returns
returns c =
    removed key_cmp key_cmp_total key_cmp-IsAntisymmetric c.args.objects.now c.remove.new.self c.args.key
    (subst (λ cmp. Updates cmp c.args.objects.now c.remove.new.self c.args.key None) tree_cmp-key_cmp c.remove.ensures.updates)
