use Rattle.std.proofs.Common.{Some, subst}
use Rattle.std.specs.BTreeMap.{Updates}
use Rattle.osm_base.specs.values.KeyOrder.{key_cmp}
use Rattle.osm_base.proofs.KeyLaws.{key_cmp_total, key_cmp-IsAntisymmetric, tree_cmp-key_cmp}
use Rattle.osm_base.proofs.Found.{inserted}
use Rattle.object_fold.proofs.objects.set_object.Goals as goal

pub returns : goal.returns
returns c = record {
  objects = record {
    ok = inserted key_cmp key_cmp_total key_cmp-IsAntisymmetric c.args.objects.now c.insert.new.self c.args.key c.args.object
        (subst (λ cmp. Updates cmp c.args.objects.now c.insert.new.self c.args.key (Some c.args.object)) tree_cmp-key_cmp
        c.in_ok-insert.ensures.updates);
    err = tt;
  };
}
