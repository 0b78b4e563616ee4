use Rattle.std.proofs.Common.{◌∙◌, Err, ap, sym, refl}
use Rattle.update_flow.specs.Updater.{handle_of}
use Rattle.updater.proofs.MigrateRuns.{has_format, migrate_done, migrate_refused, none_there}
use Rattle.updater.proofs.StoreDeeds.{refused_so}
use Rattle.updater.proofs.SoundRuns.{never_old}
use Rattle.updater.proofs.Keeping.{keeps_none, keeps_told}
use Rattle.updater.proofs.InitRuns.{never_untold}
use Rattle.updater.proofs.NoStoreFaults.{call_never}
use Rattle.updater.proofs.commands.migrate.migrate_store.Goals as goal

pub returns-then-not-imported-clause-goes_on : goal.returns-then-not-imported-clause-goes_on
returns-then-not-imported-clause-goes_on g c = λ old start done state head.
    none_there start done 0 old (g.I.Inputs.view c.args.inputs.now) (handle_of c.args.store.now) (g.S.Sink.view c.args.out.now) state head
    (sym c.imported.ensures.is ∙ c.if-not-imported.true)

pub returns-then-not-old-clause-goes_on : goal.returns-then-not-old-clause-goes_on
returns-then-not-old-clause-goes_on g c = λ old start done state head.
    has_format start done 0 old (g.I.Inputs.view c.args.inputs.now) (handle_of c.args.store.now) (g.S.Sink.view c.args.out.now) state head
    (sym c.imported.ensures.is ∙ c.if-not-imported.false) (sym c.old.ensures.is ∙ c.if-not-old.true) refl
    c.as_bytes.result.now (g.S.Sink.view c.tell.new.out) c.tell.result c.as_bytes.ensures.value c.tell.ensures.ok c.tell.ensures.err
    c.tell.ensures.alone c.tell.ensures.cause

pub returns-in-Ok-clause-goes_on : goal.returns-in-Ok-clause-goes_on
returns-in-Ok-clause-goes_on g c = λ old start done state head.
    migrate_done start done 0 old (g.I.Inputs.view c.args.inputs.now) (handle_of c.args.store.now) (g.S.Sink.view c.args.out.now) state head
    (sym c.old.ensures.is ∙ c.if-not-old.false) (handle_of c.migrate.new.self) c.in-Ok.ensures.takes
    (λ held shows. record {
      changes_are = c.in-Ok.ensures.migrated.2 ∙ shows.changes_are;
      imported_is = c.in-Ok.ensures.migrated.0;
      old_is = c.in-Ok.ensures.migrated.1;
      style_is = c.in-Ok.ensures.migrated.3 ∙ shows.style_is;
      follower_is = refl;
    })
    c.in-Ok.ensures.stays.whole c.migrate.ensures.stays.over.same_limits c.in-Ok.ensures.stays.cause
    c.as_bytes-in-Ok.result.now (g.S.Sink.view c.tell-in-Ok.new.out) c.tell-in-Ok.result c.as_bytes-in-Ok.ensures.value
    c.tell-in-Ok.ensures.ok c.tell-in-Ok.ensures.err c.tell-in-Ok.ensures.alone c.tell-in-Ok.ensures.cause

pub returns-in-Err-clause-goes_on : goal.returns-in-Err-clause-goes_on
returns-in-Err-clause-goes_on g c = rw c.in_flow.ensures.fault (λ old start done state head.
    migrate_refused start done 0 old (g.I.Inputs.view c.args.inputs.now) (handle_of c.args.store.now)
    (g.S.Sink.view c.args.out.now) state head
    (sym c.old.ensures.is ∙ c.if-not-old.false)
    (handle_of c.migrate.new.self) c.in-Err.fault c.in-Err.ensures.takes (refused_so c.in-Err.ensures.stays)
    (λ is. c.in-Err.ensures.never (ap Err is)))

pub returns-then-not-old-clause-keeps : goal.returns-then-not-old-clause-keeps
returns-then-not-old-clause-keeps g c =
    keeps_told c.args.store.now c.args.store.now (keeps_none c.args.store.now) c.tell.result c.tell.ensures.alone

pub returns-in-Ok-clause-keeps : goal.returns-in-Ok-clause-keeps
returns-in-Ok-clause-keeps g c = record {
  stays = c.migrate.ensures.stays.over;
  formatted = λ is. never_untold c.tell-in-Ok.result _ c.tell-in-Ok.ensures.alone is;
  sound = λ opened. absurd (never_old (handle_of c.args.store.now) opened (sym c.old.ensures.is ∙ c.if-not-old.false));
}

pub returns-in-Err-clause-keeps : goal.returns-in-Err-clause-keeps
returns-in-Err-clause-keeps g c = rw c.in_flow.ensures.fault (record {
  stays = c.migrate.ensures.stays.over;
  formatted = call_never c.in-Err.fault c.in-Err.ensures.stays.alone;
  sound = λ opened. absurd (never_old (handle_of c.args.store.now) opened (sym c.old.ensures.is ∙ c.if-not-old.false));
})
