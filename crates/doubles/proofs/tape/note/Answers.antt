use Rattle.std.proofs.Common.{ap, ◌∙◌, List}
use Rattle.doubles.specs.Tape.{Medium, fresh, run}
use Rattle.doubles.specs.declared.tape.Call.{Call}
use Rattle.doubles.proofs.History.{call_adds, adds_nothing, elapses_more, elapses_not, run_push}
use Rattle.doubles.proofs.tape.note.Goals as goal

pub returns-in_err-push-clause-idle : goal.returns-in_err-push-clause-idle
returns-in_err-push-clause-idle c = λ still start. ap (λ (calls : List Call). (run (fresh start) calls).seen) c.in_err-push.ensures.items

pub returns-in_err-push-clause-time : goal.returns-in_err-push-clause-time
returns-in_err-push-clause-time c = λ start. elapses_not start _ _ c.in_err-push.ensures.items

pub returns-in_err-push-clause-crash : goal.returns-in_err-push-clause-crash
returns-in_err-push-clause-crash c = λ start. adds_nothing c.args.call start _ _ c.in_err-push.ensures.items

pub returns-clause-runs : goal.returns-clause-runs
returns-clause-runs c = λ start. run_push c.args.call start _ _ c.in_ok-push.ensures.items

pub returns-clause-idle : goal.returns-clause-idle
returns-clause-idle c = λ still start.
    ap (λ (medium : Medium). medium.seen) (run_push c.args.call start _ _ c.in_ok-push.ensures.items)
    ∙ still (run (fresh start) c.args.calls.now.items)

pub returns-clause-time : goal.returns-clause-time
returns-clause-time c = λ start. elapses_more c.args.call start _ _ c.in_ok-push.ensures.items

pub returns-clause-crash : goal.returns-clause-crash
returns-clause-crash c = λ start. call_adds c.args.call start _ _ c.in_ok-push.ensures.items
