use Rattle.std.proofs.Common.{◌+◌, ◌∙◌, ap, refl, subst, sym, Err, Ok, Some}
use Rattle.update_flow.specs.Handle.{view_of}
use Rattle.update_flow.specs.State.{Append, Holding, imported, changed}
use Rattle.update_flow.specs.Updater.{handle_of}
use Rattle.run_promise.specs.Ahead.{IsOwnFault}
use Rattle.run_promise.specs.Courses.{version_line}
use Rattle.run_promise.specs.declared.fault.Fault.{Fault}
use Rattle.updater.specs.Serving.{IsNext}
use Rattle.updater.proofs.AheadRuns.{own_refusal}
use Rattle.updater.proofs.LocalLaws.{reads_one}
use Rattle.updater.proofs.ServeRuns.{next_by}
use Rattle.updater.proofs.StoreRuns.{held_certain}
use Rattle.updater.proofs.StoreDeeds.{shows_here, refused_so}
use Rattle.updater.proofs.VersionRuns.{step_refused, these_refused, these_told, version_done, version_told}
use Rattle.updater.proofs.Keeping.{keeps_step, keeps_told, keeps_unstepped}
use Rattle.updater.proofs.versions.commit_change.Goals as goal

pub returns-in-Err-clause-leads : goal.returns-in-Err-clause-leads
returns-in-Err-clause-leads g c = rw c.in_flow.ensures.fault (λ file files read old start done held found head.
    step_refused start done (imported held) file old files read
    (handle_of c.args.store.now) (g.S.Sink.view c.args.out.now) head
    (λ entries. Append c.args.bounds.now entries) (version_line (held.changes + 1)) (λ entries. changed c.args.bounds.now entries held)
    (λ entries. refl) (λ entries. tt)
    c.args.change found (handle_of c.append_one.new.self) c.in-Err.fault c.in-Err.ensures.takes
    refl tt (refused_so c.in-Err.ensures.stays))

pub returns-in-Ok-tell_version-clause-leads : goal.returns-in-Ok-tell_version-clause-leads
returns-in-Ok-tell_version-clause-leads g c = λ file files read old start done held found head.
    let shown = shows_here done.store done.cut (imported held) (handle_of c.args.store.now) head.here in
    version_done start done (imported held) file old files read
    (handle_of c.args.store.now) (g.S.Sink.view c.args.out.now) head
    (λ entries. Append c.args.bounds.now entries) (version_line (held.changes + 1)) (λ entries. changed c.args.bounds.now entries held)
    (λ entries. refl) (λ entries. tt)
    c.args.change found (handle_of c.append_one.new.self) c.in-Ok.ensures.takes
    (λ shows. record {
      changes_are = c.in-Ok.ensures.changes ∙ ap (λ n. n + 1) shows.changes_are;
      imported_is =
          c.in-Ok.ensures.style.0;
      old_is = c.in-Ok.ensures.style.1;
      style_is =
          c.in-Ok.ensures.style.2 ∙ shows.style_is;
      follower_is = refl;
    })
    c.in-Ok.ensures.stays.whole c.append_one.ensures.stays.over.same_limits c.in-Ok.ensures.stays.cause
    (λ (next : Holding). IsNext held next c.in-Ok.delta)
    (version_line c.in-Ok.delta.version) (g.S.Sink.view c.tell_version.new.out)
    (ap version_line (c.in-Ok.ensures.version ∙ ap (λ n. n + 1) shown.changes_are))
    c.in-Ok-tell_version.ensures.ok c.in-Ok-tell_version.ensures.cause.later
    (λ certain. next_by held c.args.bounds.now c.args.change c.in-Ok.delta
    (c.in-Ok.ensures.delta held (held_certain done held (handle_of c.args.store.now) head.here certain)))

pub returns-in-Err-tell_version-clause-leads : goal.returns-in-Err-tell_version-clause-leads
returns-in-Err-tell_version-clause-leads g c = λ file files read old start done held found head.
    let shown = shows_here done.store done.cut (imported held) (handle_of c.args.store.now) head.here in
    version_told start done (imported held) file old files read
    (handle_of c.args.store.now) (g.S.Sink.view c.args.out.now) head
    (λ entries. Append c.args.bounds.now entries) (version_line (held.changes + 1)) (λ entries. changed c.args.bounds.now entries held)
    (λ entries. refl) (λ entries. tt)
    c.args.change found (handle_of c.append_one.new.self) c.in-Ok.ensures.takes
    (λ shows. record {
      changes_are = c.in-Ok.ensures.changes ∙ ap (λ n. n + 1) shows.changes_are;
      imported_is =
          c.in-Ok.ensures.style.0;
      old_is = c.in-Ok.ensures.style.1;
      style_is =
          c.in-Ok.ensures.style.2 ∙ shows.style_is;
      follower_is = refl;
    })
    c.in-Ok.ensures.stays.whole c.append_one.ensures.stays.over.same_limits c.in-Ok.ensures.stays.cause
    (version_line c.in-Ok.delta.version) (g.S.Sink.view c.tell_version.new.out) (Err c.in-Err-tell_version.fault)
    (ap version_line (c.in-Ok.ensures.version ∙ ap (λ n. n + 1) shown.changes_are))
    tt c.in-Err-tell_version.ensures.err c.in-Err-tell_version.ensures.alone c.in-Err-tell_version.ensures.cause

pub returns-in-Ok-tell_version-clause-local : goal.returns-in-Ok-tell_version-clause-local
returns-in-Ok-tell_version-clause-local g c = λ file files read held pages found is rests. record {
  change = c.args.change;
  accepted = found.accepted;
  others = found.alone.others;
  opened = (c.in-Ok.ensures.takes (imported held) is).done refl;
  needed = λ next last. ((c.in-Ok.ensures.takes (imported held) is).grown tt refl pages next rests last).0;
  reads = reads_one held c.args.change pages (view_of (handle_of c.args.store.now)) (view_of (handle_of c.append_one.new.self))
      (c.in-Ok.ensures.reads held is) rests;
}

pub returns-in-Err-clause-takes : goal.returns-in-Err-clause-takes
returns-in-Err-clause-takes g c = rw c.in_flow.ensures.fault (λ takes.
    own_refusal c.args.bounds.now c.args.change c.in-Err.fault (handle_of c.args.store.now) (handle_of c.append_one.new.self)
    (refused_so c.in-Err.ensures.stays) takes)

pub returns-in-Ok-tell_version-clause-takes : goal.returns-in-Ok-tell_version-clause-takes
returns-in-Ok-tell_version-clause-takes g c = λ takes. record { begun = c.in-Ok.ensures.style.0; current = c.in-Ok.ensures.style.1 }

pub returns-in-Err-tell_version-clause-takes : goal.returns-in-Err-tell_version-clause-takes
returns-in-Err-tell_version-clause-takes g c = λ takes.
    subst (λ (fault : Fault). IsOwnFault (Some fault)) (sym c.in-Err-tell_version.ensures.alone) tt

pub returns-in-Err-clause-grows : goal.returns-in-Err-clause-grows
returns-in-Err-clause-grows g c = rw c.in_flow.ensures.fault (λ next files old start done held head.
    these_refused start done (imported held) next old files (handle_of c.args.store.now) (g.S.Sink.view c.args.out.now) head
    (Append c.args.bounds.now c.args.change) (version_line (held.changes + 1)) (changed c.args.bounds.now c.args.change held) refl tt
    (handle_of c.append_one.new.self) c.in-Err.fault c.in-Err.ensures.takes refl tt (refused_so c.in-Err.ensures.stays))

pub returns-in-Ok-tell_version-clause-grows : goal.returns-in-Ok-tell_version-clause-grows
returns-in-Ok-tell_version-clause-grows g c = λ next files old start done held head.
    let shown = shows_here done.store done.cut (imported held) (handle_of c.args.store.now) head.here in
    these_told start done (imported held) next old files (handle_of c.args.store.now) (g.S.Sink.view c.args.out.now) head
    (Append c.args.bounds.now c.args.change) (version_line (held.changes + 1)) (changed c.args.bounds.now c.args.change held) refl tt
    (handle_of c.append_one.new.self) c.in-Ok.ensures.takes
    (λ shows. record {
      changes_are = c.in-Ok.ensures.changes ∙ ap (λ n. n + 1) shows.changes_are;
      imported_is =
          c.in-Ok.ensures.style.0;
      old_is = c.in-Ok.ensures.style.1;
      style_is =
          c.in-Ok.ensures.style.2 ∙ shows.style_is;
      follower_is = refl;
    })
    c.in-Ok.ensures.stays.whole c.append_one.ensures.stays.over.same_limits c.in-Ok.ensures.stays.cause
    (version_line c.in-Ok.delta.version) (g.S.Sink.view c.tell_version.new.out) (Ok tt)
    (ap version_line (c.in-Ok.ensures.version ∙ ap (λ n. n + 1) shown.changes_are))
    c.in-Ok-tell_version.ensures.ok tt tt c.in-Ok-tell_version.ensures.cause

pub returns-in-Err-tell_version-clause-grows : goal.returns-in-Err-tell_version-clause-grows
returns-in-Err-tell_version-clause-grows g c = λ next files old start done held head.
    let shown = shows_here done.store done.cut (imported held) (handle_of c.args.store.now) head.here in
    these_told start done (imported held) next old files (handle_of c.args.store.now) (g.S.Sink.view c.args.out.now) head
    (Append c.args.bounds.now c.args.change) (version_line (held.changes + 1)) (changed c.args.bounds.now c.args.change held) refl tt
    (handle_of c.append_one.new.self) c.in-Ok.ensures.takes
    (λ shows. record {
      changes_are = c.in-Ok.ensures.changes ∙ ap (λ n. n + 1) shows.changes_are;
      imported_is =
          c.in-Ok.ensures.style.0;
      old_is = c.in-Ok.ensures.style.1;
      style_is =
          c.in-Ok.ensures.style.2 ∙ shows.style_is;
      follower_is = refl;
    })
    c.in-Ok.ensures.stays.whole c.append_one.ensures.stays.over.same_limits c.in-Ok.ensures.stays.cause
    (version_line c.in-Ok.delta.version) (g.S.Sink.view c.tell_version.new.out) (Err c.in-Err-tell_version.fault)
    (ap version_line (c.in-Ok.ensures.version ∙ ap (λ n. n + 1) shown.changes_are))
    tt c.in-Err-tell_version.ensures.err c.in-Err-tell_version.ensures.alone c.in-Err-tell_version.ensures.cause

pub returns-in-Err-clause-keeps : goal.returns-in-Err-clause-keeps
returns-in-Err-clause-keeps g c = rw c.in_flow.ensures.fault
    (keeps_unstepped c.args.store.now c.append_one.new.self c.in-Err.fault _ c.append_one.ensures.stays.over
    c.in-Err.ensures.stays.alone c.in-Err.ensures.sound)

pub returns-in-Ok-tell_version-clause-keeps : goal.returns-in-Ok-tell_version-clause-keeps
returns-in-Ok-tell_version-clause-keeps g c =
    keeps_step c.args.store.now c.append_one.new.self _ c.append_one.ensures.stays.over c.in-Ok.ensures.sound

pub returns-in-Err-tell_version-clause-keeps : goal.returns-in-Err-tell_version-clause-keeps
returns-in-Err-tell_version-clause-keeps g c =
    keeps_told c.args.store.now c.append_one.new.self
    (keeps_step c.args.store.now c.append_one.new.self _ c.append_one.ensures.stays.over c.in-Ok.ensures.sound)
    (Err c.in-Err-tell_version.fault) c.in-Err-tell_version.ensures.alone
