use Rattle.std.proofs.Common.{List, ℕ, Err, Some, None, ◌≡◌, ◌∙◌, ap, sym}
use Rattle.std.specs.Prelude.{encode_utf8_all}
use Rattle.std.specs.Result.{result_err}
use Rattle.std.proofs.lemmas.Str.{encodes-chars}
use Rattle.osm_base.specs.map.Spots.{TableMap}
use Rattle.row_text.specs.Table.{table_text}
use Rattle.style_read.specs.Style.{StyleOf}
use Rattle.update_flow.specs.Follower.{handle_of}
use Rattle.update_flow.specs.Handle.{view_of}
use Rattle.update_flow.specs.State.{following}
use Rattle.run_promise.specs.Course.{ends, writes_text}
use Rattle.run_promise.specs.World.{world}
use Rattle.run_promise.specs.declared.fault.Fault.TheVariants as faults
use Rattle.updater.proofs.ExportRuns.{always_styled, exports_seen, look_refused_so, see_done, see_refused, seen_style, seen_table, unseen_table}
use Rattle.updater.proofs.StoreRuns.{behind_look, open_certain, short_text, text_ends}
use Rattle.updater.proofs.TableLaws.{only_text}
use Rattle.updater.proofs.FollowKeeps.{keeps_ends, keeps_look, keeps_told, keeps_unlooked}
use Rattle.updater.proofs.commands.export.export_followed.Goals as goal

pub returns-in-None-clause-goes_on : goal.returns-in-None-clause-goes_on
returns-in-None-clause-goes_on g c = λ old start done held head.
    always_styled start done held 0 old (g.I.Inputs.view c.args.inputs.now) (handle_of c.args.store.now)
    (g.S.Sink.view c.args.out.now) head _ c.in-None.ensures.style

pub returns-in_default-clause-goes_on : goal.returns-in_default-clause-goes_on
returns-in_default-clause-goes_on g c = λ old start done held head.
    let files = g.I.Inputs.view c.args.inputs.now in
    let output = g.S.Sink.view c.args.out.now in
    unseen_table start done held 0 old files (handle_of c.args.store.now) output head c.args.table.now
    (seen_table start done held 0 old files (handle_of c.args.store.now) output head c.in-Some.style.now c.args.table.now None
    c.in-Some.ensures.style c.in_default.ensures.table)

pub returns-in-Err-clause-goes_on : goal.returns-in-Err-clause-goes_on
returns-in-Err-clause-goes_on g c = rw c.in_flow.ensures.fault (λ old start done held head.
    let files = g.I.Inputs.view c.args.inputs.now in
    let output = g.S.Sink.view c.args.out.now in
    let number = c.in-Some-number.number in
    exports_seen start done held 0 old files (handle_of c.args.store.now) output head c.args.table.now (Some number)
    (seen_table start done held 0 old files (handle_of c.args.store.now) output head c.in-Some.style.now c.args.table.now
    (Some number) c.in-Some.ensures.style c.in-Some-number.ensures.table) _ _
    (see_refused start done held 0 old files (handle_of c.args.store.now) (handle_of c.load_table.new.self) output head c.in-Err.fault
    c.in-Err.ensures.looks (look_refused_so c.in-Err.ensures.stays (λ is. c.in-Err.ensures.unbegun.0 (ap Err is)))
    (writes_text (table_text held.style held.tables number) ends)))

pub returns-in-Ok-text-clause-goes_on : goal.returns-in-Ok-text-clause-goes_on
returns-in-Ok-text-clause-goes_on g c = λ old start done held head.
    let files = g.I.Inputs.view c.args.inputs.now in
    let output = g.S.Sink.view c.args.out.now in
    let number = c.in-Some-number.number in
    let text = c.as_bytes.result.now in
    let new = g.S.Sink.view c.tell.new.out in
    let all = world files (view_of (handle_of c.load_table.new.self)) new in
    let bytes : text ≡ table_text c.in-Some-style.style.now c.in-Ok.tables number =
    c.as_bytes.ensures.value ∙ sym (encodes-chars c.as_str.result.now c.as_str.utf8) ∙ ap encode_utf8_all c.as_str.ensures.characters
    ∙ c.in-Ok-text.ensures.text in
    let sure = see_done start done held 0 old files (handle_of c.args.store.now) (handle_of c.load_table.new.self) output head
    c.in-Ok.ensures.looks (c.in-Ok.ensures.stays.still tt) c.in-Ok.ensures.stays.whole c.load_table.ensures.stays.over.same_limits
    c.in-Ok.ensures.stays.cause in
    exports_seen start done held 0 old files (handle_of c.args.store.now) output head c.args.table.now (Some number)
    (seen_table start done held 0 old files (handle_of c.args.store.now) output head c.in-Some.style.now c.args.table.now
    (Some number) c.in-Some.ensures.style c.in-Some-number.ensures.table) (result_err c.tell.result) all
    (behind_look (writes_text (table_text held.style held.tables number) ends) start done (result_err c.tell.result) old all
    (text_ends start done 0 old files (handle_of c.load_table.new.self) output (following held) sure
    (λ (own : List ℕ). own ≡ table_text held.style held.tables number) text new c.tell.result
    (λ read certain. bytes ∙ ap (λ (style : StyleOf). table_text style c.in-Ok.tables number)
    (seen_style start done held 0 old files (handle_of c.load_table.new.self) output sure c.in-Some-style.style.now
    c.in-Some-style.ensures.style)
    ∙ ap (λ (found : TableMap). table_text held.style found number)
    (c.in-Ok.ensures.table held (open_certain done (following held) (handle_of c.args.store.now) head.here certain))
    ∙ only_text held.style held.tables number)
    c.tell.ensures.ok c.tell.ensures.err c.tell.ensures.alone c.tell.ensures.cause))

pub returns-clause-goes_on : goal.returns-clause-goes_on
returns-clause-goes_on g c = λ old start done held head.
    let files = g.I.Inputs.view c.args.inputs.now in
    let output = g.S.Sink.view c.args.out.now in
    let number = c.in-Some-number.number in
    let all = world files (view_of (handle_of c.load_table.new.self)) output in
    let sure = see_done start done held 0 old files (handle_of c.args.store.now) (handle_of c.load_table.new.self) output head
    c.in-Ok.ensures.looks (c.in-Ok.ensures.stays.still tt) c.in-Ok.ensures.stays.whole c.load_table.ensures.stays.over.same_limits
    c.in-Ok.ensures.stays.cause in
    exports_seen start done held 0 old files (handle_of c.args.store.now) output head c.args.table.now (Some number)
    (seen_table start done held 0 old files (handle_of c.args.store.now) output head c.in-Some.style.now c.args.table.now
    (Some number) c.in-Some.ensures.style c.in-Some-number.ensures.table) (Some faults.OutOfMemory) all
    (behind_look (writes_text (table_text held.style held.tables number) ends) start done (Some faults.OutOfMemory) old all
    (short_text start done 0 old files (handle_of c.load_table.new.self) output (following held) sure
    (λ (own : List ℕ). own ≡ table_text held.style held.tables number) ends))

pub returns-in-Err-clause-keeps : goal.returns-in-Err-clause-keeps
returns-in-Err-clause-keeps g c = rw c.in_flow.ensures.fault
    (keeps_unlooked c.args.store.now c.load_table.new.self c.in-Err.fault c.load_table.ensures.stays.over c.in-Err.ensures.stays.alone
    c.in-Err.ensures.looks)

pub returns-in-Ok-text-clause-keeps : goal.returns-in-Ok-text-clause-keeps
returns-in-Ok-text-clause-keeps g c =
    keeps_told c.args.store.now c.load_table.new.self
    (keeps_look c.args.store.now c.load_table.new.self c.load_table.ensures.stays.over c.in-Ok.ensures.looks)
    c.tell.result c.tell.ensures.alone

pub returns-clause-keeps : goal.returns-clause-keeps
returns-clause-keeps g c =
    keeps_ends c.args.store.now c.load_table.new.self
    (keeps_look c.args.store.now c.load_table.new.self c.load_table.ensures.stays.over c.in-Ok.ensures.looks)
    faults.OutOfMemory (λ is. absurd (cc (is))) (λ page is. absurd (cc (is)))
