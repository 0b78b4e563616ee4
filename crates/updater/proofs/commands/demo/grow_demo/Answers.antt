use Rattle.std.proofs.Common.{◌+◌, Some, None, refl}
use Rattle.demo_map.specs.Demo.{demo_first, demo_second}
use Rattle.demo_map.specs.Style.{demo_bounds}
use Rattle.update_flow.specs.State.{Append, changed, imported}
use Rattle.update_flow.specs.Updater.{handle_of}
use Rattle.run_promise.specs.declared.fault.Fault.TheVariants as faults
use Rattle.run_promise.specs.Courses.{growing, version_line}
use Rattle.updater.proofs.DemoRuns.{grows_as, first_grown}
use Rattle.updater.proofs.VersionRuns.{these_short}
use Rattle.updater.proofs.Keeping.{keeps_short, keeps_then}
use Rattle.updater.proofs.commands.demo.grow_demo.Goals as goal

pub returns-in-Err-clause-leads : goal.returns-in-Err-clause-leads
returns-in-Err-clause-leads g c = λ next files old start done held head last.
    these_short start done (imported held) next old files (handle_of c.args.store.now) (g.S.Sink.view c.args.out.now) head
    (Append demo_bounds (demo_first c.args.squares.count)) (version_line (held.changes + 1)) (changed demo_bounds (demo_first c.args.squares.count) held) refl tt
    (growing demo_bounds (demo_second c.args.squares.count) last)

pub returns-in-Err-first_change_of-clause-leads : goal.returns-in-Err-first_change_of-clause-leads
returns-in-Err-first_change_of-clause-leads g c = λ next files old start done held head last.
    these_short start done (imported held) next old files (handle_of c.args.store.now) (g.S.Sink.view c.args.out.now) head
    (Append demo_bounds (demo_first c.args.squares.count)) (version_line (held.changes + 1)) (changed demo_bounds (demo_first c.args.squares.count) held) refl tt
    (growing demo_bounds (demo_second c.args.squares.count) last)

pub returns-in-Err-commit_change-clause-leads : goal.returns-in-Err-commit_change-clause-leads
returns-in-Err-commit_change-clause-leads g c = λ next files old start done held head last.
    grows_as demo_bounds (demo_first c.args.squares.count) c.in-Ok.bounds c.in-Ok-first_change_of.change c.in-Ok.ensures.bounds
    c.in-Ok-first_change_of.ensures.entries held (Some c.in-Err-commit_change.fault) start done next old files
    (handle_of c.commit_change.new.store) (g.S.Sink.view c.commit_change.new.out)
    (c.in-Err-commit_change.ensures.grows next files old start done held head) (growing demo_bounds (demo_second c.args.squares.count) last)

pub returns-in-Err-second_change_of-clause-leads : goal.returns-in-Err-second_change_of-clause-leads
returns-in-Err-second_change_of-clause-leads g c = λ next files old start done held head.
    let now = handle_of c.commit_change.new.store in
    let new = g.S.Sink.view c.commit_change.new.out in
    first_grown c.args.squares.count held start done next old files now new
    (grows_as demo_bounds (demo_first c.args.squares.count) c.in-Ok.bounds c.in-Ok-first_change_of.change c.in-Ok.ensures.bounds
    c.in-Ok-first_change_of.ensures.entries held None start done next old files now new
    (c.in-Ok-commit_change.ensures.grows next files old start done held head)) (Some faults.OutOfMemory) now new
    (λ further held head. these_short start further (imported held) next old files now new head
    (Append demo_bounds (demo_second c.args.squares.count)) (version_line (held.changes + 1)) (changed demo_bounds (demo_second c.args.squares.count) held)
    refl tt)

pub returns-in-Err-commit_change-2-clause-leads : goal.returns-in-Err-commit_change-2-clause-leads
returns-in-Err-commit_change-2-clause-leads g c = λ next files old start done held head.
    let now = handle_of c.commit_change.new.store in
    let new = g.S.Sink.view c.commit_change.new.out in
    let last_now = handle_of c.commit_change-2.new.store in
    let last_new = g.S.Sink.view c.commit_change-2.new.out in
    first_grown c.args.squares.count held start done next old files now new
    (grows_as demo_bounds (demo_first c.args.squares.count) c.in-Ok.bounds c.in-Ok-first_change_of.change c.in-Ok.ensures.bounds
    c.in-Ok-first_change_of.ensures.entries held None start done next old files now new
    (c.in-Ok-commit_change.ensures.grows next files old start done held head)) (Some c.in-Err-commit_change-2.fault) last_now last_new
    (λ further held head. grows_as demo_bounds (demo_second c.args.squares.count) c.in-Ok.bounds c.in-Ok-second_change_of.change
    c.in-Ok.ensures.bounds c.in-Ok-second_change_of.ensures.entries held (Some c.in-Err-commit_change-2.fault) start further next old
    files last_now last_new (c.in-Err-commit_change-2.ensures.grows next files old start further held head))

pub returns-clause-leads : goal.returns-clause-leads
returns-clause-leads g c = λ next files old start done held head.
    let now = handle_of c.commit_change.new.store in
    let new = g.S.Sink.view c.commit_change.new.out in
    let last_now = handle_of c.commit_change-2.new.store in
    let last_new = g.S.Sink.view c.commit_change-2.new.out in
    first_grown c.args.squares.count held start done next old files now new
    (grows_as demo_bounds (demo_first c.args.squares.count) c.in-Ok.bounds c.in-Ok-first_change_of.change c.in-Ok.ensures.bounds
    c.in-Ok-first_change_of.ensures.entries held None start done next old files now new
    (c.in-Ok-commit_change.ensures.grows next files old start done held head)) None last_now last_new
    (λ further held head. grows_as demo_bounds (demo_second c.args.squares.count) c.in-Ok.bounds c.in-Ok-second_change_of.change
    c.in-Ok.ensures.bounds c.in-Ok-second_change_of.ensures.entries held None start further next old
    files last_now last_new (c.in-Ok-commit_change-2.ensures.grows next files old start further held head))

pub returns-in-Err-commit_change-clause-keeps : goal.returns-in-Err-commit_change-clause-keeps
returns-in-Err-commit_change-clause-keeps g c = c.in-Err-commit_change.ensures.keeps

pub returns-in-Err-second_change_of-clause-keeps : goal.returns-in-Err-second_change_of-clause-keeps
returns-in-Err-second_change_of-clause-keeps g c =
    keeps_short c.args.store.now c.commit_change.new.store c.in-Ok-commit_change.ensures.keeps

pub returns-in-Err-commit_change-2-clause-keeps : goal.returns-in-Err-commit_change-2-clause-keeps
returns-in-Err-commit_change-2-clause-keeps g c =
    keeps_then c.args.store.now c.commit_change.new.store _ c.commit_change-2.new.store c.in-Ok-commit_change.ensures.keeps
    c.in-Err-commit_change-2.ensures.keeps

pub returns-clause-keeps : goal.returns-clause-keeps
returns-clause-keeps g c =
    keeps_then c.args.store.now c.commit_change.new.store _ c.commit_change-2.new.store c.in-Ok-commit_change.ensures.keeps
    c.in-Ok-commit_change-2.ensures.keeps
