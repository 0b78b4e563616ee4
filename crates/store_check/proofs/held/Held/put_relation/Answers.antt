use Rattle.std.proofs.Common.{ap, ◌∙◌}
use Rattle.std.specs.FinMap as finite
use Rattle.osm_base.specs.declared.values.object.Object.{Object}
use Rattle.osm_base.specs.values.Key.{KeyOf, relation_key}
use Rattle.store_check.proofs.HeldLaws.{relation_put}
use Rattle.store_check.proofs.held.Held.put_relation.Goals as goal

pub returns : goal.returns
returns c =
    let members = c.self.inside.members in
    record {
      ok = relation_put c.self.inside.places c.self.inside.ways c.self.inside.relations members c.args.self.now c.self.view_is
          c.args.id c.insert.new.self c.apply.new.self c.args.relation c.in_ok-insert.ensures.updates
          (c.in_ok-apply.ensures.ok
          ∙ ap (λ (key : KeyOf). finite.insert members key c.in_ok-copy.copy) c.new.ensures.fields
          ∙ ap (λ (object : Object). finite.insert members (relation_key c.args.id) object) c.in_ok-copy.ensures.equal);
    }
