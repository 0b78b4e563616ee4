use Rattle.std.proofs.Common.{◌≡◌, None, sym, subst, rules}
use Rattle.std.specs.FinMap as finite
use Rattle.osm_base.specs.declared.values.key.Kind.TheVariants.{Node}
use Rattle.osm_base.proofs.KeyLaws.{key_cmp_total}
use Rattle.osm_base.specs.map.Objects.{ObjectSet, objects_in}
use Rattle.object_fold.specs.Listings.{AreListingsOf}
use Rattle.object_fold.proofs.Relisted.{unset-answers, unset-ids, node-answers}
use Rattle.object_fold.proofs.objects.take_out.Goals as goal

pub returns-then-eq-clause-listings : goal.returns-then-eq-clause-listings
returns-then-eq-clause-listings c =
    let objects = objects_in c.args.objects.now in
    let is_node : c.args.key.kind ≡ Node = search rules in
    subst (λ (own : ObjectSet). AreListingsOf own c.args.listings.now) (sym c.remove_object.ensures) (record {
      told = node-answers c.args.key is_node objects (finite.remove objects c.args.key) None
          (finite.get-remove key_cmp_total objects c.args.key) c.args.listings.now c.requires.told;
      ids = unset-ids objects c.requires.ids c.args.key;
    })

pub returns-clause-listings : goal.returns-clause-listings
returns-clause-listings c =
    let objects = objects_in c.args.objects.now in
    subst (λ (own : ObjectSet). AreListingsOf own c.take_out.new.self) (sym c.remove_object-2.ensures) (record {
      told = unset-answers objects c.args.key c.in_ok-old.old c.in_ok-old.ensures.ids c.none.result c.none.ensures.nodes c.none.ensures.ways
          c.args.listings.now c.take_out.new.self c.requires.told c.take_out.ensures.turns;
      ids = unset-ids objects c.requires.ids c.args.key;
    })
