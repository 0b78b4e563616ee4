use Rattle.std.proofs.Common.{◌+◌, refl}
use Rattle.update_flow.specs.State.{Append, changed, imported}
use Rattle.update_flow.specs.Updater.{handle_of}
use Rattle.run_promise.specs.Courses.{version_line}
use Rattle.updater.proofs.VersionRuns.{file_unread}
use Rattle.updater.proofs.Keeping.{keeps_unread}
use Rattle.updater.proofs.versions.commit_file.Goals as goal

pub returns-in-Err-clause-leads : goal.returns-in-Err-clause-leads
returns-in-Err-clause-leads g c = λ old start done held head.
    file_unread start done (imported held) c.args.file old (g.I.Inputs.view c.args.inputs.now) (g.I.Inputs.view c.read_change.new.inputs)
    (handle_of c.args.store.now) (g.S.Sink.view c.args.out.now) head
    (λ entries. Append c.args.bounds.now entries) (version_line (held.changes + 1)) (λ entries. changed c.args.bounds.now entries held)
    (λ entries. refl) (λ entries. tt)
    c.in-Err.fault c.in-Err.ensures.reads.err

pub returns-clause-leads : goal.returns-clause-leads
returns-clause-leads g c = λ old start done held head.
    c.commit_change.ensures.leads c.args.file (g.I.Inputs.view c.args.inputs.now)
    (g.I.Inputs.view c.read_change.new.inputs) old start done held
    c.in-Ok.ensures.reads.ok head

pub returns-in-Err-clause-works : goal.returns-in-Err-clause-works
returns-in-Err-clause-works g c = record {
  keeps = keeps_unread _ _ c.in-Err.fault _ _ c.args.store.now c.in-Err.ensures.reads.err;
  asked = c.read_change.ensures.reads.asked;
}

pub returns-clause-works : goal.returns-clause-works
returns-clause-works g c = record { keeps = c.commit_change.ensures.keeps; asked = c.read_change.ensures.reads.asked }
