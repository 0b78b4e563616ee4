use Rattle.object_fold.proofs.ListingSteps.{on_err}
use Rattle.object_fold.proofs.objects.insert.Goals as goal

pub returns-in_err-set_object-clause-some : goal.returns-in_err-set_object-clause-some
returns-in_err-set_object-clause-some c =
    on_err c.from_residual-in_err-set_object.result (c.args.ids.now, (λ kind id there. there), c.in_ok-add.ensures.ok)
