use Rattle.std.proofs.Common.{List, ℕ, sym, ap, ◌∙◌, subst}
use Rattle.osm_base.specs.values.Key.{KeyOf}
use Rattle.object_fold.specs.Listing.{Lists, ListsFront}
use Rattle.object_fold.proofs.ListingSteps.{on_err, if_err}
use Rattle.object_fold.proofs.ListingTurns.{some_of_way, some_nodes, some_ways}
use Rattle.object_fold.proofs.listings.Listings.add.Goals as goal

pub returns-in_err-list_all-in-Relation-clause-err : goal.returns-in_err-list_all-in-Relation-clause-err
returns-in_err-list_all-in-Relation-clause-err c =
    let key = c.args.key in
    let some = subst (λ (own : KeyOf). ListsFront c.args.ids.now.nodes own.id c.args.self.now.relations_of_nodes
    c.list_all-in-Relation.new.self) c.key.view_is
    (subst (λ (ids : List ℕ). ListsFront ids c.key.inside.id c.args.self.now.relations_of_nodes c.list_all-in-Relation.new.self)
    c.as_slice-in-Relation.ensures.ids
    c.in_err-list_all-in-Relation.ensures.err) in
    on_err c.from_residual.result (some_nodes key c.args.ids.now c.args.self.now
    (sym (ap (λ (own : KeyOf). own.kind) c.key.view_is) ∙ c.in-Relation.is) c.list_all-in-Relation.new.self some)

pub returns-in-Way-clause-err : goal.returns-in-Way-clause-err
returns-in-Way-clause-err c =
    let key = c.args.key in
    if_err c.list_all.result (λ front.
    let some = subst (λ (own : KeyOf). ListsFront c.args.ids.now.nodes own.id c.args.self.now.ways_of_nodes c.list_all.new.self)
    c.key.view_is
    (subst (λ (ids : List ℕ). ListsFront ids c.key.inside.id c.args.self.now.ways_of_nodes c.list_all.new.self) c.as_slice.ensures.ids
    front) in
    some_of_way key c.args.ids.now c.args.self.now
    (sym (ap (λ (own : KeyOf). own.kind) c.key.view_is) ∙ c.in-Way.is) c.list_all.new.self some)
    c.list_all.ensures.err

pub returns-in_ok-list_all-in-Relation-clause-err : goal.returns-in_ok-list_all-in-Relation-clause-err
returns-in_ok-list_all-in-Relation-clause-err c =
    let key = c.args.key in
    if_err c.list_all-in-Relation-2.result (λ front.
    let all = subst (λ (own : KeyOf). Lists c.args.ids.now.nodes own.id c.args.self.now.relations_of_nodes c.list_all-in-Relation.new.self)
    c.key.view_is
    (subst (λ (ids : List ℕ). Lists ids c.key.inside.id c.args.self.now.relations_of_nodes c.list_all-in-Relation.new.self)
    c.as_slice-in-Relation.ensures.ids
    c.in_ok-list_all-in-Relation.ensures.ok) in
    let some = subst (λ (own : KeyOf). ListsFront c.args.ids.now.ways own.id c.args.self.now.relations_of_ways
    c.list_all-in-Relation-2.new.self) c.key.view_is
    (subst (λ (ids : List ℕ). ListsFront ids c.key.inside.id c.args.self.now.relations_of_ways c.list_all-in-Relation-2.new.self)
    c.as_slice-in-Relation-2.ensures.ids front) in
    some_ways key c.args.ids.now c.args.self.now (sym (ap (λ (own : KeyOf). own.kind) c.key.view_is) ∙ c.in-Relation.is)
    c.list_all-in-Relation.new.self c.list_all-in-Relation-2.new.self all some)
    c.list_all-in-Relation-2.ensures.err
