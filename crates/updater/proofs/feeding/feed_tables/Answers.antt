use Rattle.std.proofs.Common.{◌∙◌}
use Rattle.update_flow.specs.Updater.{handle_of}
use Rattle.delta_feed.specs.Text.{full_text}
use Rattle.run_promise.proofs.FeedTexts.{full_is_block}
use Rattle.updater.proofs.FeedRuns.{full_same, full_told, full_unlooked, full_untold}
use Rattle.updater.proofs.StoreDeeds.{refused_so}
use Rattle.updater.proofs.StoreRuns.{look_done}
use Rattle.updater.proofs.Keeping.{keeps_look, keeps_then, keeps_unlooked, keeps_untold}
use Rattle.updater.proofs.feeding.feed_tables.Goals as goal

pub returns-in-Err-clause-feeds : goal.returns-in-Err-clause-feeds
returns-in-Err-clause-feeds g c = rw c.in_flow.ensures.fault (λ next files old start done held head.
    full_unlooked start done held next old files (g.S.Sink.view c.args.out.now) (handle_of c.args.store.now)
    (handle_of c.style_bytes.new.self) head c.in-Err.fault c.in-Err.ensures.looks (refused_so c.in-Err.ensures.stays))

pub returns-in-Err-load_sorted-clause-feeds : goal.returns-in-Err-load_sorted-clause-feeds
returns-in-Err-load_sorted-clause-feeds g c = rw c.in_flow-in-Err-load_sorted.ensures.fault (λ next files old start done held head.
    let output = g.S.Sink.view c.args.out.now in
    let read = handle_of c.style_bytes.new.self in
    let sure = look_done start done held next old files (handle_of c.args.store.now) read output head c.in-Ok.ensures.looks
    (c.in-Ok.ensures.stays.still tt) c.in-Ok.ensures.stays.whole c.style_bytes.ensures.stays.over.same_limits c.in-Ok.ensures.stays.cause in
    full_unlooked start done held next old files output read (handle_of c.load_sorted.new.self) sure c.in-Err-load_sorted.fault
    c.in-Err-load_sorted.ensures.looks (refused_so c.in-Err-load_sorted.ensures.stays))

pub returns-in-Ok-write_full_by-clause-feeds : goal.returns-in-Ok-write_full_by-clause-feeds
returns-in-Ok-write_full_by-clause-feeds g c = λ next files old start done held head.
    let output = g.S.Sink.view c.args.out.now in
    let read = handle_of c.style_bytes.new.self in
    let loaded = handle_of c.load_sorted.new.self in
    let first = look_done start done held next old files (handle_of c.args.store.now) read output head c.in-Ok.ensures.looks
    (c.in-Ok.ensures.stays.still tt) c.in-Ok.ensures.stays.whole c.style_bytes.ensures.stays.over.same_limits c.in-Ok.ensures.stays.cause in
    let second = look_done start done held next old files read loaded output first c.in-Ok-load_sorted.ensures.looks
    (c.in-Ok-load_sorted.ensures.stays.still tt) c.in-Ok-load_sorted.ensures.stays.whole c.load_sorted.ensures.stays.over.same_limits
    c.in-Ok-load_sorted.ensures.stays.cause in
    full_told start done held next old files output loaded second
    (full_text c.changes.result c.as_slice.result.now c.in-Ok-load_sorted.tables)
    (full_is_block c.changes.result c.as_slice.result.now c.in-Ok-load_sorted.tables)
    (full_same start done held next old files output (handle_of c.args.store.now) read loaded head first second
    c.changes.result c.as_slice.result.now c.in-Ok-load_sorted.tables c.changes.ensures.number
    (λ opened. c.as_slice.ensures.items ∙ c.in-Ok.ensures.bytes held opened)
    (c.in-Ok-load_sorted.ensures.tables held))
    (g.S.Sink.view c.write_full_by.new.out) c.write_full_by.ensures.later c.in-Ok-write_full_by.ensures.ok

pub returns-clause-feeds : goal.returns-clause-feeds
returns-clause-feeds g c = rw c.in_feed.ensures.fault (λ next files old start done held head.
    let output = g.S.Sink.view c.args.out.now in
    let read = handle_of c.style_bytes.new.self in
    let loaded = handle_of c.load_sorted.new.self in
    let first = look_done start done held next old files (handle_of c.args.store.now) read output head c.in-Ok.ensures.looks
    (c.in-Ok.ensures.stays.still tt) c.in-Ok.ensures.stays.whole c.style_bytes.ensures.stays.over.same_limits c.in-Ok.ensures.stays.cause in
    let second = look_done start done held next old files read loaded output first c.in-Ok-load_sorted.ensures.looks
    (c.in-Ok-load_sorted.ensures.stays.still tt) c.in-Ok-load_sorted.ensures.stays.whole c.load_sorted.ensures.stays.over.same_limits
    c.in-Ok-load_sorted.ensures.stays.cause in
    full_untold start done held next old files output loaded second
    (full_text c.changes.result c.as_slice.result.now c.in-Ok-load_sorted.tables)
    (full_is_block c.changes.result c.as_slice.result.now c.in-Ok-load_sorted.tables)
    (full_same start done held next old files output (handle_of c.args.store.now) read loaded head first second
    c.changes.result c.as_slice.result.now c.in-Ok-load_sorted.tables c.changes.ensures.number
    (λ opened. c.as_slice.ensures.items ∙ c.in-Ok.ensures.bytes held opened)
    (c.in-Ok-load_sorted.ensures.tables held))
    (g.S.Sink.view c.write_full_by.new.out) c.write_full_by.ensures.later c.in-Err-write_full_by.fault c.in-Err-write_full_by.ensures.err)

pub returns-in-Err-clause-keeps : goal.returns-in-Err-clause-keeps
returns-in-Err-clause-keeps g c = rw c.in_flow.ensures.fault
    (keeps_unlooked c.args.store.now c.style_bytes.new.self c.in-Err.fault c.style_bytes.ensures.stays.over c.in-Err.ensures.stays.alone
    c.in-Err.ensures.sound)

pub returns-in-Err-load_sorted-clause-keeps : goal.returns-in-Err-load_sorted-clause-keeps
returns-in-Err-load_sorted-clause-keeps g c = rw c.in_flow-in-Err-load_sorted.ensures.fault
    (keeps_then c.args.store.now c.style_bytes.new.self _ c.load_sorted.new.self
    (keeps_look c.args.store.now c.style_bytes.new.self c.style_bytes.ensures.stays.over c.in-Ok.ensures.sound)
    (keeps_unlooked c.style_bytes.new.self c.load_sorted.new.self c.in-Err-load_sorted.fault c.load_sorted.ensures.stays.over
    c.in-Err-load_sorted.ensures.stays.alone c.in-Err-load_sorted.ensures.sound))

pub returns-in-Ok-write_full_by-clause-keeps : goal.returns-in-Ok-write_full_by-clause-keeps
returns-in-Ok-write_full_by-clause-keeps g c =
    keeps_then c.args.store.now c.style_bytes.new.self _ c.load_sorted.new.self
    (keeps_look c.args.store.now c.style_bytes.new.self c.style_bytes.ensures.stays.over c.in-Ok.ensures.sound)
    (keeps_look c.style_bytes.new.self c.load_sorted.new.self c.load_sorted.ensures.stays.over c.in-Ok-load_sorted.ensures.sound)

pub returns-clause-keeps : goal.returns-clause-keeps
returns-clause-keeps g c = rw c.in_feed.ensures.fault
    (keeps_untold c.args.store.now c.load_sorted.new.self
    (keeps_then c.args.store.now c.style_bytes.new.self _ c.load_sorted.new.self
    (keeps_look c.args.store.now c.style_bytes.new.self c.style_bytes.ensures.stays.over c.in-Ok.ensures.sound)
    (keeps_look c.style_bytes.new.self c.load_sorted.new.self c.load_sorted.ensures.stays.over c.in-Ok-load_sorted.ensures.sound))
    c.in-Err-write_full_by.fault)
