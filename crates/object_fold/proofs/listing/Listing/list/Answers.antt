use Rattle.std.proofs.Common.{◌≡◌, [], ◌∷◌, Some, sym, ap, ◌∙◌, subst}
use Rattle.std.specs.Option.{unwrap_or}
use Rattle.std.specs.Ordering.{nat_cmp}
use Rattle.std.specs.BTreeMap.{Updates}
use Rattle.object_fold.specs.RisingIds.{Joins}
use Rattle.object_fold.specs.Listing.{ListingOf, listers, Lists}
use Rattle.object_fold.proofs.ListingSteps.{in_tree, written-sets, lists-set, lists-same, listers_in, some_found, on_err}
use Rattle.object_fold.proofs.listing.Listing.list.Goals as goal

pub returns-in_err-add-clause-err : goal.returns-in_err-add-clause-err
returns-in_err-add-clause-err c =
    let tree = c.self.inside.lists in
    let written = c.get_mut.follows.lender c.add.new.self in
    let sets = written-sets tree written c.args.id c.add.new.self
    ((c.get_mut.follows.holds c.add.new.self).3 (some_found tree c.args.id c.in-Some.ids.now c.in-Some.ensures.value)) in
    let same : c.add.new.self ≡ listers (in_tree tree) c.args.id
    = c.in_err-add.ensures.err ∙ ap (λ found. unwrap_or found []) c.in-Some.ensures.value ∙ sym (listers_in tree c.args.id) in
    let kept = subst (λ (old : ListingOf). Lists [] c.args.lister old (in_tree written)) c.self.view_is
    (lists-same (in_tree tree) (in_tree written) c.args.id c.args.lister c.add.new.self sets same) in
    on_err c.from_residual.result kept

pub returns-in-Some-clause-ok : goal.returns-in-Some-clause-ok
returns-in-Some-clause-ok c =
    let tree = c.self.inside.lists in
    let written = c.get_mut.follows.lender c.add.new.self in
    let sets = written-sets tree written c.args.id c.add.new.self
    ((c.get_mut.follows.holds c.add.new.self).3 (some_found tree c.args.id c.in-Some.ids.now c.in-Some.ensures.value)) in
    let was : c.in-Some.ids.now ≡ listers (in_tree tree) c.args.id
    = ap (λ found. unwrap_or found []) c.in-Some.ensures.value ∙ sym (listers_in tree c.args.id) in
    subst (λ (old : ListingOf). Lists (c.args.id ∷ []) c.args.lister old (in_tree written)) c.self.view_is
    (lists-set (in_tree tree) (in_tree written) c.args.id c.args.lister c.add.new.self sets
    (subst (λ old. Joins c.args.lister old c.add.new.self) was c.in_ok-add.ensures.ok))

pub returns-clause-ok : goal.returns-clause-ok
returns-clause-ok c =
    let tree = c.self.inside.lists in
    let sets = written-sets tree c.insert.new.self c.args.id c.add-2.new.self
    (subst (λ old. Updates nat_cmp old c.insert.new.self c.args.id (Some c.add-2.new.self)) c.get_mut.follows.holds-at-none
    c.in_ok-insert.ensures.updates) in
    let was : [] ≡ listers (in_tree tree) c.args.id
    = ap (λ found. unwrap_or found []) c.in_default.ensures.value ∙ sym (listers_in tree c.args.id) in
    subst (λ (old : ListingOf). Lists (c.args.id ∷ []) c.args.lister old (in_tree c.insert.new.self)) c.self.view_is
    (lists-set (in_tree tree) (in_tree c.insert.new.self) c.args.id c.args.lister c.add-2.new.self sets
    (subst (λ old. Joins c.args.lister old c.add-2.new.self) was
    (subst (λ old. Joins c.args.lister old c.add-2.new.self) c.new-ids.ensures.empty c.in_ok-add-2.ensures.ok)))
