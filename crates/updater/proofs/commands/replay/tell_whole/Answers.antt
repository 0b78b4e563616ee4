use Rattle.std.proofs.Common.{◌++◌, ◌∙◌, ap, refl}
use Rattle.std.specs.Prelude.{codes}
use Rattle.due_tiles.specs.TileText.{tile_text}
use Rattle.osm_base.specs.map.Spots.{TableMap}
use Rattle.style_read.specs.Style.{StyleOf}
use Rattle.update_flow.specs.Updater.{handle_of}
use Rattle.run_promise.specs.Course.{ends, writes}
use Rattle.run_promise.specs.Courses.{IsWholeText, tables_text}
use Rattle.updater.proofs.FillRuns.{has_style}
use Rattle.updater.proofs.StoreRuns.{held_certain, look_done, look_ends, look_refused, look_short, same_style}
use Rattle.updater.proofs.StoreDeeds.{refused_so}
use Rattle.updater.proofs.Keeping.{keeps_look, keeps_short, keeps_then, keeps_told, keeps_unimported, keeps_unlooked}
use Rattle.updater.proofs.commands.replay.tell_whole.Goals as goal

pub returns-in-Err-clause-goes_on : goal.returns-in-Err-clause-goes_on
returns-in-Err-clause-goes_on g c = rw c.in_flow.ensures.fault (λ old files start done held next head.
    look_refused start done held next old files (handle_of c.args.store.now) (handle_of c.load_tables.new.self)
    (g.S.Sink.view c.args.out.now) head c.in-Err.fault
    c.in-Err.ensures.looks (refused_so c.in-Err.ensures.stays) (writes (IsWholeText c.args.least held) ends))

pub returns-in-Err-due-clause-goes_on : goal.returns-in-Err-due-clause-goes_on
returns-in-Err-due-clause-goes_on g c = rw c.in_flow-in-Err-due.ensures.fault (λ old files start done held next head.
    let output = g.S.Sink.view c.args.out.now in
    let sure = look_done start done held next old files (handle_of c.args.store.now)
    (handle_of c.load_tables.new.self) output head c.in-Ok.ensures.looks
    (c.in-Ok.ensures.stays.still tt) c.in-Ok.ensures.stays.whole c.load_tables.ensures.stays.over.same_limits
    c.in-Ok.ensures.stays.cause in
    look_refused start done held next old files (handle_of c.load_tables.new.self) (handle_of c.due.new.self) output sure c.in-Err-due.fault
    c.in-Err-due.ensures.looks (refused_so c.in-Err-due.ensures.stays)
    (writes (IsWholeText c.args.least held) ends))

pub returns-in-Err-due-clause-keeps : goal.returns-in-Err-due-clause-keeps
returns-in-Err-due-clause-keeps g c = rw c.in_flow-in-Err-due.ensures.fault
    (keeps_then c.args.store.now c.load_tables.new.self _ c.due.new.self
    (keeps_look c.args.store.now c.load_tables.new.self c.load_tables.ensures.stays.over c.in-Ok.ensures.sound)
    (keeps_unlooked c.load_tables.new.self c.due.new.self c.in-Err-due.fault c.due.ensures.stays.over c.in-Err-due.ensures.stays.alone
    c.in-Err-due.ensures.sound))

pub returns-in-None-clause-goes_on : goal.returns-in-None-clause-goes_on
returns-in-None-clause-goes_on g c = λ old files start done held next head.
    let output = g.S.Sink.view c.args.out.now in
    let first = look_done start done held next old files (handle_of c.args.store.now)
    (handle_of c.load_tables.new.self) output head c.in-Ok.ensures.looks
    (c.in-Ok.ensures.stays.still tt) c.in-Ok.ensures.stays.whole c.load_tables.ensures.stays.over.same_limits
    c.in-Ok.ensures.stays.cause in
    let sure = look_done start done held next old files (handle_of c.load_tables.new.self)
    (handle_of c.due.new.self) output first c.in-Ok-due.ensures.looks
    (c.in-Ok-due.ensures.stays.still tt) c.in-Ok-due.ensures.stays.whole c.due.ensures.stays.over.same_limits
    c.in-Ok-due.ensures.stays.cause in
    has_style start done held next old files (handle_of c.due.new.self) output _ sure c.in-None.ensures.style

pub returns-in-Ok-text-clause-goes_on : goal.returns-in-Ok-text-clause-goes_on
returns-in-Ok-text-clause-goes_on g c = λ old files start done held next head.
    let output = g.S.Sink.view c.args.out.now in
    let text = c.deref.result.now in
    let new = g.S.Sink.view c.tell.new.out in
    let first = look_done start done held next old files (handle_of c.args.store.now)
    (handle_of c.load_tables.new.self) output head c.in-Ok.ensures.looks
    (c.in-Ok.ensures.stays.still tt) c.in-Ok.ensures.stays.whole c.load_tables.ensures.stays.over.same_limits
    c.in-Ok.ensures.stays.cause in
    let sure = look_done start done held next old files (handle_of c.load_tables.new.self)
    (handle_of c.due.new.self) output first c.in-Ok-due.ensures.looks
    (c.in-Ok-due.ensures.stays.still tt) c.in-Ok-due.ensures.stays.whole c.due.ensures.stays.over.same_limits
    c.in-Ok-due.ensures.stays.cause in
    look_ends start done held next old files (handle_of c.load_tables.new.self) (handle_of c.due.new.self) output first
    (IsWholeText c.args.least held) sure text new c.tell.result
    (λ read certain. (
      tile_text c.in-Ok-due.due c.args.least,
      (c.in-Ok-due.due, c.in-Ok-due.ensures.due held (held_certain done held (handle_of c.load_tables.new.self) first.here certain), refl),
      c.deref.ensures.value ∙ c.in-Ok-text.ensures.text
          ∙ ap (λ (style : StyleOf). tables_text style c.in-Ok.tables ++ codes "tiles\n" ++ tile_text c.in-Ok-due.due c.args.least)
          (same_style start done held next old files (handle_of c.due.new.self) output sure c.in-Some.style.now c.in-Some.ensures.style)
          ∙ ap (λ (found : TableMap). tables_text held.style found ++ codes "tiles\n" ++ tile_text c.in-Ok-due.due c.args.least)
          (c.in-Ok.ensures.tables held (held_certain done held (handle_of c.args.store.now) head.here certain)),
    ))
    c.tell.ensures.ok c.tell.ensures.err c.tell.ensures.alone c.tell.ensures.cause

pub returns-in-Ok-text-clause-keeps : goal.returns-in-Ok-text-clause-keeps
returns-in-Ok-text-clause-keeps g c =
    keeps_told c.args.store.now c.due.new.self
    (keeps_then c.args.store.now c.load_tables.new.self _ c.due.new.self
    (keeps_look c.args.store.now c.load_tables.new.self c.load_tables.ensures.stays.over c.in-Ok.ensures.sound)
    (keeps_look c.load_tables.new.self c.due.new.self c.due.ensures.stays.over c.in-Ok-due.ensures.sound))
    c.tell.result c.tell.ensures.alone

pub returns-clause-goes_on : goal.returns-clause-goes_on
returns-clause-goes_on g c = λ old files start done held next head.
    let output = g.S.Sink.view c.args.out.now in
    let first = look_done start done held next old files (handle_of c.args.store.now)
    (handle_of c.load_tables.new.self) output head c.in-Ok.ensures.looks
    (c.in-Ok.ensures.stays.still tt) c.in-Ok.ensures.stays.whole c.load_tables.ensures.stays.over.same_limits
    c.in-Ok.ensures.stays.cause in
    let sure = look_done start done held next old files (handle_of c.load_tables.new.self)
    (handle_of c.due.new.self) output first c.in-Ok-due.ensures.looks
    (c.in-Ok-due.ensures.stays.still tt) c.in-Ok-due.ensures.stays.whole c.due.ensures.stays.over.same_limits
    c.in-Ok-due.ensures.stays.cause in
    look_short start done held next old files (handle_of c.load_tables.new.self) (handle_of c.due.new.self) output first
    (IsWholeText c.args.least held) ends sure

pub returns-in-Err-clause-keeps : goal.returns-in-Err-clause-keeps
returns-in-Err-clause-keeps g c = rw c.in_flow.ensures.fault
    (keeps_unlooked c.args.store.now c.load_tables.new.self c.in-Err.fault c.load_tables.ensures.stays.over
    c.in-Err.ensures.stays.alone c.in-Err.ensures.sound)

pub returns-in-None-clause-keeps : goal.returns-in-None-clause-keeps
returns-in-None-clause-keeps g c =
    keeps_unimported c.args.store.now c.due.new.self
    (keeps_then c.args.store.now c.load_tables.new.self _ c.due.new.self
    (keeps_look c.args.store.now c.load_tables.new.self c.load_tables.ensures.stays.over c.in-Ok.ensures.sound)
    (keeps_look c.load_tables.new.self c.due.new.self c.due.ensures.stays.over c.in-Ok-due.ensures.sound))

pub returns-clause-keeps : goal.returns-clause-keeps
returns-clause-keeps g c =
    keeps_short c.args.store.now c.due.new.self
    (keeps_then c.args.store.now c.load_tables.new.self _ c.due.new.self
    (keeps_look c.args.store.now c.load_tables.new.self c.load_tables.ensures.stays.over c.in-Ok.ensures.sound)
    (keeps_look c.load_tables.new.self c.due.new.self c.due.ensures.stays.over c.in-Ok-due.ensures.sound))
