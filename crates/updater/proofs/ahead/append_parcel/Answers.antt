use Rattle.std.proofs.Common.{◌+◌, Err, Ok, refl}
use Rattle.update_flow.specs.State.{Append, changed, imported}
use Rattle.update_flow.specs.Updater.{handle_of}
use Rattle.run_promise.specs.Courses.{version_line}
use Rattle.updater.proofs.ServeRuns.{leads_without}
use Rattle.updater.proofs.VersionRuns.{file_unread}
use Rattle.updater.proofs.Keeping.{keeps_ends, keeps_none}
use Rattle.updater.proofs.ahead.append_parcel.Goals as goal

pub returns-in-Err-clause-leads : goal.returns-in-Err-clause-leads
returns-in-Err-clause-leads g c = λ files read old start done held become head.
    file_unread start done (imported held) c.args.file old files read (handle_of c.args.store.now) (g.S.Sink.view c.args.out.now) head
    (λ entries. Append c.args.bounds.now entries) (version_line (held.changes + 1)) (λ entries. changed c.args.bounds.now entries held)
    (λ entries. refl) (λ entries. tt) c.in-Err.fault (c.in-Err.ensures.err files read become)

pub returns-in-Err-commit_change-clause-leads : goal.returns-in-Err-commit_change-clause-leads
returns-in-Err-commit_change-clause-leads g c = λ files read old start done held become head.
    leads_without c.args.bounds.now c.args.file (Err c.in-Err-commit_change.fault) start done held old read
    (handle_of c.commit_change.new.store) (g.S.Sink.view c.commit_change.new.out)
    (c.in-Err-commit_change.ensures.leads c.args.file files read old start done held (c.in-Ok.ensures.ok files read become) head)

pub returns-clause-leads : goal.returns-clause-leads
returns-clause-leads g c = λ files read old start done held become head.
    leads_without c.args.bounds.now c.args.file (Ok c.in-Ok-commit_change.delta) start done held old read
    (handle_of c.commit_change.new.store) (g.S.Sink.view c.commit_change.new.out)
    (c.in-Ok-commit_change.ensures.leads c.args.file files read old start done held (c.in-Ok.ensures.ok files read become) head)

pub returns-in-Err-clause-keeps : goal.returns-in-Err-clause-keeps
returns-in-Err-clause-keeps g c =
    keeps_ends c.args.store.now c.args.store.now (keeps_none c.args.store.now) c.in-Err.fault c.in-Err.ensures.formatted
    c.in-Err.ensures.sound

pub returns-in-Err-commit_change-clause-keeps : goal.returns-in-Err-commit_change-clause-keeps
returns-in-Err-commit_change-clause-keeps g c = c.in-Err-commit_change.ensures.keeps

pub returns-clause-keeps : goal.returns-clause-keeps
returns-clause-keeps g c = c.in-Ok-commit_change.ensures.keeps
