use Rattle.std.proofs.Common.{◌≡◌, List, ℕ, [], ◌∷◌, refl, sym, ap, ◌∙◌, subst}
use Rattle.std.specs.Option.{unwrap_or}
use Rattle.std.specs.BTreeMap.{BTreeMap}
use Rattle.object_fold.specs.RisingIds.{Leaves}
use Rattle.object_fold.specs.Listing.{ListingOf, listers, Unlists}
use Rattle.object_fold.proofs.ListingSteps.{in_tree, written-sets, taken-sets, unlists-set, unlists-none, listers_in, some_found}
use Rattle.object_fold.proofs.listing.Listing.unlist.Goals as goal
use Rattle.object_fold.proofs.listing.Listing.unlist.Goals.{in-Some-1, in-None-1}

pub returns-in_default : goal.returns-in_default
returns-in_default c =
    let tree = c.self.inside.lists in
    let was : listers (in_tree tree) c.args.id ≡ []
    = listers_in tree c.args.id ∙ ap (λ found. unwrap_or found []) (sym c.in_default.ensures.value) in
    record {
      left = subst (λ (own : BTreeMap ℕ (List ℕ)). Unlists (c.args.id ∷ []) [] c.args.lister c.args.self.now (in_tree own))
          (sym c.get_mut.follows.holds-at-none)
          (subst (λ (old : ListingOf). Unlists (c.args.id ∷ []) [] c.args.lister old (in_tree tree)) c.self.view_is
          (unlists-none (in_tree tree) c.args.id c.args.lister was));
    }

pub returns-then-is_empty : goal.returns-then-is_empty
returns-then-is_empty c =
    let tree = c.self.inside.lists in
    let written = c.get_mut.follows.lender c.take_out.new.self in
    let last = c.remove.new.self in
    let updates = (c.get_mut.follows.holds c.take_out.new.self).3 (some_found tree c.args.id c.in-Some.ids.now c.in-Some.ensures.value) in
    let sets = taken-sets tree written c.args.id last c.take_out.new.self updates c.remove.ensures.updates in
    let was : c.in-Some.ids.now ≡ listers (in_tree tree) c.args.id
    = ap (λ found. unwrap_or found []) c.in-Some.ensures.value ∙ sym (listers_in tree c.args.id) in
    let none = subst (Leaves c.args.lister c.in-Some.ids.now) (c.if-is_empty.ensures.value.0 refl) c.take_out.ensures.left in
    let kept : c.match-remove.self ≡ in_tree last = elim c.match-remove.branch [ in-Some-1 w ↦ w.self-is | in-None-1 w ↦ w.self-is ] in
    record {
      left = subst (Unlists (c.args.id ∷ []) [] c.args.lister c.args.self.now) (sym kept)
          (subst (λ (old : ListingOf). Unlists (c.args.id ∷ []) [] c.args.lister old (in_tree last)) c.self.view_is
          (unlists-set (in_tree tree) (in_tree last) c.args.id c.args.lister [] sets
          (subst (λ old. Leaves c.args.lister old []) was none)));
    }

pub returns-else-is_empty : goal.returns-else-is_empty
returns-else-is_empty c =
    let tree = c.self.inside.lists in
    let written = c.get_mut.follows.lender c.take_out.new.self in
    let sets = written-sets tree written c.args.id c.take_out.new.self
    ((c.get_mut.follows.holds c.take_out.new.self).3 (some_found tree c.args.id c.in-Some.ids.now c.in-Some.ensures.value)) in
    let was : c.in-Some.ids.now ≡ listers (in_tree tree) c.args.id
    = ap (λ found. unwrap_or found []) c.in-Some.ensures.value ∙ sym (listers_in tree c.args.id) in
    record {
      left = subst (λ (old : ListingOf). Unlists (c.args.id ∷ []) [] c.args.lister old (in_tree written)) c.self.view_is
          (unlists-set (in_tree tree) (in_tree written) c.args.id c.args.lister c.take_out.new.self sets
          (subst (λ old. Leaves c.args.lister old c.take_out.new.self) was c.take_out.ensures.left));
    }
