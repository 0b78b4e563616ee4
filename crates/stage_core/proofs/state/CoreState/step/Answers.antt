use Rattle.std.proofs.Common.{subst}
use Rattle.stage_core.proofs.Kept.{grows, grows_same, kept, stepped}
use Rattle.stage_core.proofs.Rounds.{promised}
use Rattle.stage_core.specs.Core.{Core, after}
use Rattle.stage_core.specs.Promise.{Grows, Promise}
use Rattle.stage_core.specs.Reached.{IsReached}
use Rattle.stage_core.proofs.state.CoreState.step.Goals as goal

reached : (c : goal.After-take) → IsReached c.args.self.now
reached c = subst IsReached c.self.view_is c.self.invariant

pub returns-clause-grows : goal.returns-clause-grows
returns-clause-grows c =
    stepped (Grows c.args.self.now) c.take.result _ _ _ c.take.ensures.state c.take.ensures.err
    (grows c.args.self.now c.args.event (reached c)) (grows_same c.args.self.now)

pub returns-clause-promise : goal.returns-clause-promise
returns-clause-promise c =
    let before = reached c in
    stepped Promise c.take.result _ _ _ c.take.ensures.state c.take.ensures.err (promised _ (kept c.args.self.now c.args.event before))
    (promised c.args.self.now before)
