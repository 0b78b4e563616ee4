use Rattle.std.proofs.Common.{◌≡◌, Some, sym, subst, rules}
use Rattle.std.specs.FinMap as finite
use Rattle.osm_base.specs.declared.values.key.Kind.TheVariants.{Node}
use Rattle.osm_base.proofs.KeyLaws.{key_cmp_total}
use Rattle.osm_base.specs.values.Key.{KeyOf, IsId}
use Rattle.osm_base.specs.map.Objects.{ObjectSet, objects_in}
use Rattle.object_fold.specs.Listings.{AreListingsOf}
use Rattle.object_fold.proofs.Relisted.{set-answers, undone-answers, set-ids, node-answers}
use Rattle.object_fold.proofs.objects.put.Goals as goal

pub returns-in-Err-clause-listings : goal.returns-in-Err-clause-listings
returns-in-Err-clause-listings c =
    let objects = objects_in c.args.objects.now in
    subst (λ (own : ObjectSet). AreListingsOf own c.take_out.new.self) (sym c.in-Err.ensures.objects.err) (record {
      told = undone-answers objects c.args.key c.in_ok-old.old c.in_ok-old.ensures.ids c.args.listings.now c.insert.new.listings
          c.take_out.new.self c.in_ok-new.new
          c.requires.told c.in-Err.ensures.some c.take_out.ensures.turns;
      ids = c.requires.ids;
    })

pub returns-clause-listings : goal.returns-clause-listings
returns-clause-listings c =
    let objects = objects_in c.args.objects.now in
    subst (λ (own : ObjectSet). AreListingsOf own c.take_out-2.new.self) (sym c.in_default.ensures.objects.ok) (record {
      told = set-answers objects c.args.key c.in_ok-old.old c.in_ok-old.ensures.ids c.args.object c.in_ok-new.new c.in_ok-new.ensures.ids
          c.args.listings.now c.insert.new.listings c.take_out-2.new.self c.requires.told c.in_default.ensures.listed
          c.take_out-2.ensures.turns;
      ids = set-ids objects c.requires.ids c.args.key c.args.object (subst (λ (own : KeyOf). IsId own.id) c.key.view_is c.key.invariant);
    })

pub returns-then-eq-clause-listings : goal.returns-then-eq-clause-listings
returns-then-eq-clause-listings c =
    let objects = objects_in c.args.objects.now in
    let is_node : c.args.key.kind ≡ Node = search rules in
    subst (λ (own : ObjectSet). AreListingsOf own c.args.listings.now) (sym c.in_ok-set_object.ensures.objects.ok) (record {
      told = node-answers c.args.key is_node objects (finite.insert objects c.args.key c.args.object) (Some c.args.object)
          (finite.get-insert key_cmp_total objects c.args.key c.args.object) c.args.listings.now c.requires.told;
      ids = set-ids objects c.requires.ids c.args.key c.args.object (subst (λ (own : KeyOf). IsId own.id) c.key.view_is c.key.invariant);
    })
