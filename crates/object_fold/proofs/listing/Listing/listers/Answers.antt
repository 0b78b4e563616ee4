use Rattle.std.proofs.Common.{[], sym, ap, ◌∙◌}
use Rattle.std.specs.Option.{unwrap_or}
use Rattle.object_fold.specs.Listing.{ListingOf, listers}
use Rattle.object_fold.proofs.ListingSteps.{listers_in}
use Rattle.object_fold.proofs.SortedIds.{none-rise}
use Rattle.object_fold.proofs.listing.Listing.listers.Goals as goal

pub returns-in-Some-clause-ids : goal.returns-in-Some-clause-ids
returns-in-Some-clause-ids c =
    c.as_slice.ensures.ids ∙ ap (λ found. unwrap_or found []) c.in-Some.ensures.value
    ∙ sym (listers_in c.self.inside.lists c.args.id) ∙ ap (λ (own : ListingOf). listers own c.args.id) c.self.view_is

pub returns-in-None-clause-ids : goal.returns-in-None-clause-ids
returns-in-None-clause-ids c =
    ap (λ found. unwrap_or found []) c.in-None.ensures.value
    ∙ sym (listers_in c.self.inside.lists c.args.id) ∙ ap (λ (own : ListingOf). listers own c.args.id) c.self.view_is

pub returns-in-None-clause-rise : goal.returns-in-None-clause-rise
returns-in-None-clause-rise c = none-rise
