use Rattle.std.proofs.Common.{◌∙◌, take, drop, sym}
use Rattle.std.proofs.lemmas.List.{take-append-drop}
use Rattle.object_fold.specs.Listing.{Lists, ListsFront}
use Rattle.object_fold.proofs.ListingSteps.{on_err}
use Rattle.object_fold.proofs.listing.Listing.list_all.Goals as goal

pub returns-in_err-list-clause-err : goal.returns-in_err-list-clause-err
returns-in_err-list-clause-err c =
    let front = take c.loop-id.id-index c.args.ids.now in
    let listed : Lists front c.args.lister c.args.self.now c.list.new.self =
    λ id by. c.in_err-list.ensures.err id by ∙ c.loop-id.invariant id by in
    let some : ListsFront c.args.ids.now c.args.lister c.args.self.now c.list.new.self =
    (front, drop c.loop-id.id-index c.args.ids.now, sym (take-append-drop c.loop-id.id-index c.args.ids.now), listed) in
    on_err c.from_residual.result some
