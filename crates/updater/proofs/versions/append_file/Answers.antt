use Rattle.std.proofs.Common.{Err, Ok}
use Rattle.update_flow.specs.Updater.{handle_of}
use Rattle.updater.proofs.ServeRuns.{leads_without}
use Rattle.updater.proofs.versions.append_file.Goals as goal

pub returns-clause-leads : goal.returns-clause-leads
returns-clause-leads g c = λ old start done held head.
    leads_without c.args.bounds.now c.args.file (Ok c.in-Ok.delta) start done held old (g.I.Inputs.view c.commit_file.new.inputs)
    (handle_of c.commit_file.new.store) (g.S.Sink.view c.commit_file.new.out)
    (c.in-Ok.ensures.leads old start done held head)

pub returns-in-Err-clause-leads : goal.returns-in-Err-clause-leads
returns-in-Err-clause-leads g c = λ old start done held head.
    leads_without c.args.bounds.now c.args.file (Err c.in-Err.fault) start done held old (g.I.Inputs.view c.commit_file.new.inputs)
    (handle_of c.commit_file.new.store) (g.S.Sink.view c.commit_file.new.out)
    (c.in-Err.ensures.leads old start done held head)

pub returns-clause-local : goal.returns-clause-local
returns-clause-local g c = c.in-Ok.ensures.local

pub returns-in-Err-clause-works : goal.returns-in-Err-clause-works
returns-in-Err-clause-works g c = c.in-Err.ensures.works

pub returns-clause-works : goal.returns-clause-works
returns-clause-works g c = c.in-Ok.ensures.works
