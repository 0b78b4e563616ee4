-- The numbers are looked at first.
use Rattle.std.proofs.Common.{Some, refl}
use Rattle.update_flow.specs.Follower.{handle_of}
use Rattle.update_flow.specs.State.{Follow}
use Rattle.update_flow.proofs.Followers.{fit_next, stays_unfit, unfit_not}
use Rattle.update_flow.proofs.follower.Follower.apply.Goals as goal

pub returns-in-Some-clause-unbegun : goal.returns-in-Some-clause-unbegun
returns-in-Some-clause-unbegun g c = ((λ is. c.in-Some.ensures.unbegun.0 (cc (is))), (λ un. let same = c.in-Some.ensures.unbegun.1 un in cc (same)))

pub returns-in-Some-clause-gap : goal.returns-in-Some-clause-gap
returns-in-Some-clause-gap g c = λ have got.
    ((λ is. (c.in-Some.ensures.gap have got).0 (cc (is))), (λ gap. let same = (c.in-Some.ensures.gap have got).1 gap in cc (same)))

pub returns-in-Some-clause-unmoved : goal.returns-in-Some-clause-unmoved
returns-in-Some-clause-unmoved g c = λ not. refl

pub returns-in-Some-clause-takes : goal.returns-in-Some-clause-takes
returns-in-Some-clause-takes g c = λ next.
    absurd (unfit_not (handle_of c.args.self.now) c.args.block c.in-Some.fault c.in-Some.ensures.alone c.in-Some.ensures.unbegun
    c.in-Some.ensures.gap next)

pub returns-in-Some-clause-stays : goal.returns-in-Some-clause-stays
returns-in-Some-clause-stays g c = stays_unfit c.args.self.now (Some (Follow c.args.block)) c.in-Some.fault c.in-Some.ensures.alone

pub take-requires-clause-next : goal.take-requires-clause-next
take-requires-clause-next g c = fit_next (handle_of c.args.self.now) c.args.block c.in-None.ensures.unbegun c.in-None.ensures.gap

pub returns-in-Ok-clause-unbegun : goal.returns-in-Ok-clause-unbegun
returns-in-Ok-clause-unbegun g c = ((λ is. absurd (cc (is))), (λ un. absurd (cc (c.in-None.ensures.unbegun.1 un))))

pub returns-in-Ok-clause-gap : goal.returns-in-Ok-clause-gap
returns-in-Ok-clause-gap g c = λ have got. ((λ is. absurd (cc (is))), (λ gap. absurd (cc ((c.in-None.ensures.gap have got).1 gap))))

pub returns-in-Ok-clause-unmoved : goal.returns-in-Ok-clause-unmoved
returns-in-Ok-clause-unmoved g c = λ not.
    absurd (not (fit_next (handle_of c.args.self.now) c.args.block c.in-None.ensures.unbegun c.in-None.ensures.gap))

pub returns-in-Ok-clause-takes : goal.returns-in-Ok-clause-takes
returns-in-Ok-clause-takes g c = λ next. c.in-Ok.ensures.takes

pub returns-in-Ok-clause-stays : goal.returns-in-Ok-clause-stays
returns-in-Ok-clause-stays g c = c.in-Ok.ensures.takes.stays

pub returns-in-Err-clause-unbegun : goal.returns-in-Err-clause-unbegun
returns-in-Err-clause-unbegun g c = ((λ is. absurd (cc (is))), (λ un. absurd (cc (c.in-None.ensures.unbegun.1 un))))

pub returns-in-Err-clause-gap : goal.returns-in-Err-clause-gap
returns-in-Err-clause-gap g c = λ have got. ((λ is. absurd (cc (is))), (λ gap. absurd (cc ((c.in-None.ensures.gap have got).1 gap))))

pub returns-in-Err-clause-unmoved : goal.returns-in-Err-clause-unmoved
returns-in-Err-clause-unmoved g c = λ not.
    absurd (not (fit_next (handle_of c.args.self.now) c.args.block c.in-None.ensures.unbegun c.in-None.ensures.gap))

pub returns-in-Err-clause-takes : goal.returns-in-Err-clause-takes
returns-in-Err-clause-takes g c = λ next. c.in-Err.ensures.takes

pub returns-in-Err-clause-stays : goal.returns-in-Err-clause-stays
returns-in-Err-clause-stays g c = c.in-Err.ensures.takes.stays
