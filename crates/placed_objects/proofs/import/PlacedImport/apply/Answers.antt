use Rattle.std.proofs.Common.{◌≡◌, true, false, cond, ap, ◌∙◌, rules}
use Rattle.osm_base.specs.declared.values.key.Kind.TheVariants as kinds
use Rattle.osm_base.specs.map.Listers.{is_kind}
use Rattle.osm_base.specs.map.Objects.{ObjectSet, folded}
use Rattle.osm_base.specs.values.Key.{KeyOf}
use Rattle.placed_objects.specs.Objects.{joined_objects}
use Rattle.placed_objects.proofs.Joined.{joined_objects-entry, joined_objects-object, on_ok}
use Rattle.placed_objects.proofs.import.PlacedImport.apply.Goals as goal

pub returns-then-not-is_node-clause-ok : goal.returns-then-not-is_node-clause-ok
returns-then-not-is_node-clause-ok c =
    let places = c.self.inside.places in
    let others = c.self.inside.others in
    let entry = c.args.entry in
    let not : is_kind entry.key.kind kinds.Node ≡ false = search rules in
    on_ok c.apply.result (λ is.
    ap (joined_objects places) is ∙ joined_objects-object places others entry.key.kind entry.key.id entry.object not
    ∙ ap (λ (own : ObjectSet). folded own entry) c.self.view_is) c.apply.ensures.ok

pub returns-clause-ok : goal.returns-clause-ok
returns-clause-ok c =
    let others = c.self.inside.others in
    let entry = c.args.entry in
    let node : is_kind entry.key.kind kinds.Node ≡ true = search rules in
    (λ i. joined_objects (c.take_out.ensures.left i) (c.in_ok-apply.ensures.ok i))
    ∙ joined_objects-entry entry node c.key.inside.id (ap (λ (own : KeyOf). own.id) c.key.view_is) c.put_plain.new.places others
    ∙ ap (λ (own : ObjectSet). folded own entry) (c.in_ok-put_plain.ensures.ok others
    ∙ ap (λ b. cond b (folded (joined_objects c.self.inside.places others) entry) (joined_objects c.self.inside.places others)) c.if-branch.false
    ∙ c.self.view_is)
