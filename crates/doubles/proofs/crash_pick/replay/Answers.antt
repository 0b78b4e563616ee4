use Rattle.std.proofs.Common.{ap, take, ◌∙◌, arith}
use Rattle.doubles.specs.Tape.{Medium, fresh, run}
use Rattle.doubles.proofs.Cutting.{run_more}
use Rattle.doubles.proofs.crash_pick.replay.Goals as goal

pub loop-call-preserved : goal.loop-call-preserved
loop-call-preserved c =
    ap (λ (medium : Medium). medium.seen) (run_more (fresh c.args.start.now) c.args.calls.now c.loop-call.call-index c.call-item.result
    (omega arith) c.call-item.is)
    ∙ c.in_ok-repeat.ensures.seen (run (fresh c.args.start.now) (take c.loop-call.call-index c.args.calls.now)) c.loop-call.invariant
