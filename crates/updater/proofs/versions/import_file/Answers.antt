use Rattle.std.proofs.Common.{◌+◌, refl}
use Rattle.std.specs.Result.{result_err}
use Rattle.update_flow.specs.State.{Import, formatted, fresh}
use Rattle.update_flow.specs.Updater.{handle_of}
use Rattle.run_promise.specs.Courses.{version_line}
use Rattle.run_promise.specs.Progress.{past}
use Rattle.updater.proofs.VersionRuns.{file_read, file_unread}
use Rattle.updater.proofs.Keeping.{keeps_unread}
use Rattle.updater.proofs.versions.import_file.Goals as goal

pub returns-in-Err-clause-leads : goal.returns-in-Err-clause-leads
returns-in-Err-clause-leads g c = λ old start done head.
    file_unread start done formatted c.args.file old (g.I.Inputs.view c.args.inputs.now) (g.I.Inputs.view c.read_change.new.inputs)
    (handle_of c.args.store.now) (g.S.Sink.view c.args.out.now) head
    (λ entries. Import c.args.style.style c.args.style.bytes c.args.buckets entries) (version_line 0)
    (λ entries. fresh c.args.style.style c.args.style.bytes c.args.buckets entries) (λ entries. refl) (λ entries. tt)
    c.in-Err.fault c.in-Err.ensures.reads.err

pub returns-clause-leads : goal.returns-clause-leads
returns-clause-leads g c = λ old start done head.
    let read = g.I.Inputs.view c.read_change.new.inputs in
    file_read start done formatted c.args.file old (g.I.Inputs.view c.args.inputs.now) read
    (handle_of c.args.store.now) (g.S.Sink.view c.args.out.now) head
    (λ entries. Import c.args.style.style c.args.style.bytes c.args.buckets entries) (version_line 0)
    (λ entries. fresh c.args.style.style c.args.style.bytes c.args.buckets entries) (λ entries. refl) (λ entries. tt)
    c.in-Ok.change c.in-Ok.ensures.reads.ok (result_err c.import_change.result) (handle_of c.import_change.new.store)
    (g.S.Sink.view c.import_change.new.out)
    (λ head. c.import_change.ensures.leads (c.args.file + 1) read old start (past c.args.file done) head)

pub returns-in-Err-clause-works : goal.returns-in-Err-clause-works
returns-in-Err-clause-works g c = record {
  keeps = keeps_unread _ _ c.in-Err.fault _ _ c.args.store.now c.in-Err.ensures.reads.err;
  asked = c.read_change.ensures.reads.asked;
}

pub returns-clause-works : goal.returns-clause-works
returns-clause-works g c = record { keeps = c.import_change.ensures.keeps; asked = c.read_change.ensures.reads.asked }
