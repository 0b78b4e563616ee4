use Rattle.std.proofs.Common.{sym, subst}
use Rattle.std.specs.FinMap as finite
use Rattle.osm_base.specs.values.Key.{KeyOf, IsId}
use Rattle.osm_base.specs.map.Objects.{objects_in}
use Rattle.object_fold.specs.Listings.{HasIds}
use Rattle.object_fold.proofs.Gathered.{made-ids}
use Rattle.object_fold.proofs.Relisted.{set-ids, unset-ids}
use Rattle.object_fold.proofs.objects.unlisted.UnlistedObjects.apply.Goals as goal

pub invariant_of-self : goal.invariant_of-self
invariant_of-self c =
    let objects = objects_in c.self.inside.objects in
    let key = c.args.entry.key in
    made-ids c.set_object.result objects (finite.insert objects key c.in-Some.object) (objects_in c.set_object.new.objects)
    c.set_object.ensures.objects c.self.invariant
    (set-ids objects c.self.invariant key c.in-Some.object (subst (λ (own : KeyOf). IsId own.id) c.key.view_is c.key.invariant))

pub invariant_of-self-in-None : goal.invariant_of-self-in-None
invariant_of-self-in-None c =
    subst HasIds (sym c.remove_object.ensures) (unset-ids (objects_in c.self.inside.objects) c.self.invariant c.args.entry.key)
