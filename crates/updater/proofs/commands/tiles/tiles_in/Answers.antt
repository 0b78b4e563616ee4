use Rattle.std.proofs.Common.{true, false, None, ◌∙◌, sym, Err, refl}
use Rattle.update_flow.specs.Handle.{view_of}
use Rattle.update_flow.specs.Updater.{handle_of}
use Rattle.run_promise.specs.Courses.{IsTileText, clears}
use Rattle.run_promise.specs.Course.{writes}
use Rattle.run_promise.specs.Progress.{plus}
use Rattle.run_promise.specs.World.{world}
use Rattle.updater.proofs.HeadLaws.{ends_here}
use Rattle.updater.proofs.StoreRuns.{clear_done, clear_refused, held_certain, if_there, look_done, look_refused, look_short, look_told}
use Rattle.updater.proofs.StoreRuns.{look_untold, not_yet, outdated_there}
use Rattle.updater.proofs.StoreDeeds.{refused_so}
use Rattle.update_flow.specs.State.{Clear}
use Rattle.updater.proofs.Keeping.{keeps_look, keeps_short, keeps_step, keeps_then, keeps_told, keeps_unlooked, keeps_unstepped}
use Rattle.updater.proofs.commands.tiles.tiles_in.Goals as goal

pub returns-then-old-clause-goes_on : goal.returns-then-old-clause-goes_on
returns-then-old-clause-goes_on g c = λ old start done state head.
    outdated_there start done 0 old (g.I.Inputs.view c.args.inputs.now) (handle_of c.args.store.now)
    (g.S.Sink.view c.args.out.now) _ state head (sym c.old.ensures.is ∙ c.if-old.true)

pub returns-then-not-imported-clause-goes_on : goal.returns-then-not-imported-clause-goes_on
returns-then-not-imported-clause-goes_on g c = λ old start done state head.
    not_yet start done 0 old (g.I.Inputs.view c.args.inputs.now) (handle_of c.args.store.now) (g.S.Sink.view c.args.out.now) _ state head
    (sym c.old.ensures.is ∙ c.if-old.false) (sym c.imported.ensures.is ∙ c.if-not-imported.true)

pub returns-in-Err-clause-goes_on : goal.returns-in-Err-clause-goes_on
returns-in-Err-clause-goes_on g c = rw c.in_flow.ensures.fault (λ old start done state head.
    let files = g.I.Inputs.view c.args.inputs.now in
    let output = g.S.Sink.view c.args.out.now in
    if_there start done 0 old files (handle_of c.args.store.now) output _ _ _ state head (sym c.old.ensures.is ∙ c.if-old.false) refl
    (sym c.imported.ensures.is ∙ c.if-not-imported.false)
    (λ held head. look_refused start done held 0 old files (handle_of c.args.store.now)
    (handle_of c.due.new.self) output head c.in-Err.fault c.in-Err.ensures.looks (refused_so c.in-Err.ensures.stays)
    (writes (IsTileText held.due c.args.least) (clears c.args.clear))))

pub returns-in-Err-of-clause-goes_on : goal.returns-in-Err-of-clause-goes_on
returns-in-Err-of-clause-goes_on g c = λ old start done state head.
    let files = g.I.Inputs.view c.args.inputs.now in
    let output = g.S.Sink.view c.args.out.now in
    if_there start done 0 old files (handle_of c.args.store.now) output _ _ _ state head (sym c.old.ensures.is ∙ c.if-old.false) refl
    (sym c.imported.ensures.is ∙ c.if-not-imported.false)
    (λ held head.
    let sure = look_done start done held 0 old files (handle_of c.args.store.now)
    (handle_of c.due.new.self) output head c.in-Ok.ensures.looks
    (c.in-Ok.ensures.stays.still tt) c.in-Ok.ensures.stays.whole c.due.ensures.stays.over.same_limits c.in-Ok.ensures.stays.cause in
    look_short start done held 0 old files (handle_of c.args.store.now) (handle_of c.due.new.self) output head
    (IsTileText held.due c.args.least) (clears c.args.clear) sure)

pub returns-in-Err-tell_tiles-clause-goes_on : goal.returns-in-Err-tell_tiles-clause-goes_on
returns-in-Err-tell_tiles-clause-goes_on g c = λ old start done state head.
    let files = g.I.Inputs.view c.args.inputs.now in
    let output = g.S.Sink.view c.args.out.now in
    if_there start done 0 old files (handle_of c.args.store.now) output _ _ _ state head (sym c.old.ensures.is ∙ c.if-old.false) refl
    (sym c.imported.ensures.is ∙ c.if-not-imported.false)
    (λ held head.
    let sure = look_done start done held 0 old files (handle_of c.args.store.now)
    (handle_of c.due.new.self) output head c.in-Ok.ensures.looks
    (c.in-Ok.ensures.stays.still tt) c.in-Ok.ensures.stays.whole c.due.ensures.stays.over.same_limits c.in-Ok.ensures.stays.cause in
    look_untold start done held 0 old files (handle_of c.args.store.now) (handle_of c.due.new.self) output head
    (IsTileText held.due c.args.least) (clears c.args.clear) sure
    c.in-Ok-of.tiles (g.S.Sink.view c.tell_tiles.new.out) c.in-Err-tell_tiles.fault
    (λ read certain. (
      c.in-Ok.due,
      c.in-Ok.ensures.due held (held_certain done held (handle_of c.args.store.now) head.here certain),
      c.in-Ok-of.ensures.text,
    ))
    c.in-Err-tell_tiles.ensures.err c.in-Err-tell_tiles.ensures.alone
    (record { later = c.in-Err-tell_tiles.ensures.cause.later; failed = c.in-Err-tell_tiles.ensures.cause.failed }))

pub returns-then-not-clear-clause-goes_on : goal.returns-then-not-clear-clause-goes_on
returns-then-not-clear-clause-goes_on g c = rw c.if-not-clear.true (λ old start done state head.
    let files = g.I.Inputs.view c.args.inputs.now in
    let output = g.S.Sink.view c.args.out.now in
    let text = c.in-Ok-of.tiles in
    let new = g.S.Sink.view c.tell_tiles.new.out in
    if_there start done 0 old files (handle_of c.args.store.now) output _ None
    (world files (view_of (handle_of c.due.new.self)) new) state head (sym c.old.ensures.is ∙ c.if-old.false) refl
    (sym c.imported.ensures.is ∙ c.if-not-imported.false)
    (λ held head.
    let sure = look_done start done held 0 old files (handle_of c.args.store.now)
    (handle_of c.due.new.self) output head c.in-Ok.ensures.looks
    (c.in-Ok.ensures.stays.still tt) c.in-Ok.ensures.stays.whole c.due.ensures.stays.over.same_limits c.in-Ok.ensures.stays.cause in
    look_told start done held 0 old files (handle_of c.args.store.now) (handle_of c.due.new.self) output head
    (IsTileText held.due c.args.least) (clears false) sure text new
    (λ read certain. (
      c.in-Ok.due,
      c.in-Ok.ensures.due held (held_certain done held (handle_of c.args.store.now) head.here certain),
      c.in-Ok-of.ensures.text,
    ))
    c.in_default.ensures.ok c.tell_tiles.ensures.cause.later None (world files (view_of (handle_of c.due.new.self)) new)
    (λ head. ends_here start (plus text done) _ 0 old files (handle_of c.due.new.self) new head)))

pub returns-in-Ok-clear_due-clause-goes_on : goal.returns-in-Ok-clear_due-clause-goes_on
returns-in-Ok-clear_due-clause-goes_on g c = rw c.if-not-clear.false (λ old start done state head.
    let files = g.I.Inputs.view c.args.inputs.now in
    let output = g.S.Sink.view c.args.out.now in
    let text = c.in-Ok-of.tiles in
    let new = g.S.Sink.view c.tell_tiles.new.out in
    if_there start done 0 old files (handle_of c.args.store.now) output _ None
    (world files (view_of (handle_of c.clear_due.new.self)) new) state head (sym c.old.ensures.is ∙ c.if-old.false) refl
    (sym c.imported.ensures.is ∙ c.if-not-imported.false)
    (λ held head.
    let sure = look_done start done held 0 old files (handle_of c.args.store.now)
    (handle_of c.due.new.self) output head c.in-Ok.ensures.looks
    (c.in-Ok.ensures.stays.still tt) c.in-Ok.ensures.stays.whole c.due.ensures.stays.over.same_limits c.in-Ok.ensures.stays.cause in
    look_told start done held 0 old files (handle_of c.args.store.now) (handle_of c.due.new.self) output head
    (IsTileText held.due c.args.least) (clears true) sure text new
    (λ read certain. (
      c.in-Ok.due,
      c.in-Ok.ensures.due held (held_certain done held (handle_of c.args.store.now) head.here certain),
      c.in-Ok-of.ensures.text,
    ))
    c.in_default.ensures.ok c.tell_tiles.ensures.cause.later None (world files (view_of (handle_of c.clear_due.new.self)) new)
    (λ head. clear_done start (plus text done) held 0 old files (handle_of c.due.new.self) (handle_of c.clear_due.new.self) new head
    c.in-Ok-clear_due.ensures.takes (c.in-Ok-clear_due.ensures.stays.still tt) c.in-Ok-clear_due.ensures.stays.whole
    c.clear_due.ensures.stays.over.same_limits c.in-Ok-clear_due.ensures.stays.cause)))

pub returns-clause-goes_on : goal.returns-clause-goes_on
returns-clause-goes_on g c = rw c.in_flow-in-Err-clear_due.ensures.fault (rw c.if-not-clear.false (λ old start done state head.
    let files = g.I.Inputs.view c.args.inputs.now in
    let output = g.S.Sink.view c.args.out.now in
    let text = c.in-Ok-of.tiles in
    let new = g.S.Sink.view c.tell_tiles.new.out in
    if_there start done 0 old files (handle_of c.args.store.now) output _ _
    (world files (view_of (handle_of c.clear_due.new.self)) new) state head (sym c.old.ensures.is ∙ c.if-old.false) refl
    (sym c.imported.ensures.is ∙ c.if-not-imported.false)
    (λ held head.
    let sure = look_done start done held 0 old files (handle_of c.args.store.now)
    (handle_of c.due.new.self) output head c.in-Ok.ensures.looks
    (c.in-Ok.ensures.stays.still tt) c.in-Ok.ensures.stays.whole c.due.ensures.stays.over.same_limits c.in-Ok.ensures.stays.cause in
    look_told start done held 0 old files (handle_of c.args.store.now) (handle_of c.due.new.self) output head
    (IsTileText held.due c.args.least) (clears true) sure text new
    (λ read certain. (
      c.in-Ok.due,
      c.in-Ok.ensures.due held (held_certain done held (handle_of c.args.store.now) head.here certain),
      c.in-Ok-of.ensures.text,
    ))
    c.in_default.ensures.ok c.tell_tiles.ensures.cause.later _ (world files (view_of (handle_of c.clear_due.new.self)) new)
    (λ head. clear_refused start (plus text done) held 0 old files (handle_of c.due.new.self) (handle_of c.clear_due.new.self) new head
    c.in-Err-clear_due.fault c.in-Err-clear_due.ensures.takes (refused_so c.in-Err-clear_due.ensures.stays)))))

pub returns-in-Err-clause-keeps : goal.returns-in-Err-clause-keeps
returns-in-Err-clause-keeps g c = rw c.in_flow.ensures.fault
    (keeps_unlooked c.args.store.now c.due.new.self c.in-Err.fault c.due.ensures.stays.over c.in-Err.ensures.stays.alone
    c.in-Err.ensures.sound)

pub returns-in-Err-of-clause-keeps : goal.returns-in-Err-of-clause-keeps
returns-in-Err-of-clause-keeps g c =
    keeps_short c.args.store.now c.due.new.self (keeps_look c.args.store.now c.due.new.self c.due.ensures.stays.over c.in-Ok.ensures.sound)

pub returns-in-Err-tell_tiles-clause-keeps : goal.returns-in-Err-tell_tiles-clause-keeps
returns-in-Err-tell_tiles-clause-keeps g c =
    keeps_told c.args.store.now c.due.new.self
    (keeps_look c.args.store.now c.due.new.self c.due.ensures.stays.over c.in-Ok.ensures.sound)
    (Err c.in-Err-tell_tiles.fault) c.in-Err-tell_tiles.ensures.alone

pub returns-then-not-clear-clause-keeps : goal.returns-then-not-clear-clause-keeps
returns-then-not-clear-clause-keeps g c = keeps_look c.args.store.now c.due.new.self c.due.ensures.stays.over c.in-Ok.ensures.sound

pub returns-in-Ok-clear_due-clause-keeps : goal.returns-in-Ok-clear_due-clause-keeps
returns-in-Ok-clear_due-clause-keeps g c =
    keeps_then c.args.store.now c.due.new.self _ c.clear_due.new.self
    (keeps_look c.args.store.now c.due.new.self c.due.ensures.stays.over c.in-Ok.ensures.sound)
    (keeps_step c.due.new.self c.clear_due.new.self Clear c.clear_due.ensures.stays.over c.in-Ok-clear_due.ensures.sound)

pub returns-clause-keeps : goal.returns-clause-keeps
returns-clause-keeps g c = rw c.in_flow-in-Err-clear_due.ensures.fault
    (keeps_then c.args.store.now c.due.new.self _ c.clear_due.new.self
    (keeps_look c.args.store.now c.due.new.self c.due.ensures.stays.over c.in-Ok.ensures.sound)
    (keeps_unstepped c.due.new.self c.clear_due.new.self c.in-Err-clear_due.fault Clear c.clear_due.ensures.stays.over
    c.in-Err-clear_due.ensures.stays.alone c.in-Err-clear_due.ensures.sound))
