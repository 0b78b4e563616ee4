use Rattle.std.proofs.Common.{List, ℕ, None, Some, refl, subst}
use Rattle.update_flow.specs.State.{Import, State, formatted, fresh}
use Rattle.update_flow.specs.Handle.{IsOpen, Takes}
use Rattle.update_flow.specs.Updater.{handle_of}
use Rattle.run_promise.specs.Courses.{version_line}
use Rattle.updater.proofs.VersionRuns.{these_refused, these_told}
use Rattle.updater.proofs.StoreDeeds.{IsRefusedSo, refused_so}
use Rattle.updater.proofs.Keeping.{keeps_step, keeps_told, keeps_unstepped}
use Rattle.updater.proofs.versions.import_change.Goals as goal

pub returns-in-Err-clause-leads : goal.returns-in-Err-clause-leads
returns-in-Err-clause-leads g c = rw c.in_flow.ensures.fault (λ next files old start done head.
    these_refused start done formatted next old files (handle_of c.args.store.now) (g.S.Sink.view c.args.out.now) head
    (Import c.args.style.style c.args.style.bytes c.args.buckets c.args.change) (version_line 0)
    (fresh c.args.style.style c.args.style.bytes c.args.buckets c.args.change) refl tt
    (handle_of c.import.new.self) c.in-Err.fault
    (subst (λ (bytes : List ℕ). (own : State) → IsOpen own (handle_of c.args.store.now)
    → Takes own (Import c.args.style.style bytes c.args.buckets c.args.change) (Some c.in-Err.fault)
    (handle_of c.args.store.now) (handle_of c.import.new.self)) c.as_slice.ensures.items c.in-Err.ensures.takes)
    refl tt
    (subst (λ (bytes : List ℕ). IsRefusedSo (Some (Import c.args.style.style bytes c.args.buckets c.args.change)) c.in-Err.fault
    (handle_of c.args.store.now) (handle_of c.import.new.self)) c.as_slice.ensures.items (refused_so c.in-Err.ensures.stays)))

pub returns-clause-leads : goal.returns-clause-leads
returns-clause-leads g c = λ next files old start done head.
    these_told start done formatted next old files (handle_of c.args.store.now) (g.S.Sink.view c.args.out.now) head
    (Import c.args.style.style c.args.style.bytes c.args.buckets c.args.change) (version_line 0)
    (fresh c.args.style.style c.args.style.bytes c.args.buckets c.args.change) refl tt
    (handle_of c.import.new.self)
    (subst (λ (bytes : List ℕ). (own : State) → IsOpen own (handle_of c.args.store.now)
    → Takes own (Import c.args.style.style bytes c.args.buckets c.args.change) None (handle_of c.args.store.now)
    (handle_of c.import.new.self)) c.as_slice.ensures.items c.in_default.ensures.takes)
    (λ shows. record {
      changes_are = c.in_default.ensures.imported.2;
      imported_is = c.in_default.ensures.imported.0;
      old_is =
          c.in_default.ensures.imported.1;
      style_is = c.in_default.ensures.imported.3;
      follower_is = refl;
    })
    c.in_default.ensures.stays.whole c.import.ensures.stays.over.same_limits c.in_default.ensures.stays.cause
    (version_line 0) (g.S.Sink.view c.tell_version.new.out) c.tell_version.result refl c.tell_version.ensures.ok c.tell_version.ensures.err
    c.tell_version.ensures.alone c.tell_version.ensures.cause

pub returns-in-Err-clause-keeps : goal.returns-in-Err-clause-keeps
returns-in-Err-clause-keeps g c = rw c.in_flow.ensures.fault
    (keeps_unstepped c.args.store.now c.import.new.self c.in-Err.fault _ c.import.ensures.stays.over c.in-Err.ensures.stays.alone
    c.in-Err.ensures.sound)

pub returns-clause-keeps : goal.returns-clause-keeps
returns-clause-keeps g c =
    keeps_told c.args.store.now c.import.new.self
    (keeps_step c.args.store.now c.import.new.self _ c.import.ensures.stays.over c.in_default.ensures.sound)
    c.tell_version.result c.tell_version.ensures.alone
