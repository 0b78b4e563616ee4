use Rattle.std.proofs.Common.{◌≡◌, false, None, sym, ap, ◌∙◌}
use Rattle.std.specs.Bool.{if◌then◌else◌}
use Rattle.std.specs.FinMap as map
use Rattle.osm_base.specs.declared.values.key.Kind.TheVariants as kinds
use Rattle.osm_base.specs.map.Listers.{is_kind}
use Rattle.osm_base.specs.map.Objects.{ObjectSet}
use Rattle.placed_objects.proofs.Joined.{get-other}
use Rattle.placed_objects.proofs.import.PlacedImportLookup.object_of.Goals as goal

pub returns : goal.returns
returns c =
    let not : is_kind c.args.key.kind kinds.Node ≡ false = sym c.is_node.ensures ∙ c.if-is_node.false in
    record {
      object = c.object_of.ensures.object
          ∙ sym (get-other c.self.inside.places c.self.inside.others c.args.key.kind c.args.key.id not)
          ∙ ap (λ (own : ObjectSet). map.get own c.args.key) c.self.view_is
          ∙ sym (ap (λ b. if b then None else map.get c.args.self.now c.args.key) not);
    }
