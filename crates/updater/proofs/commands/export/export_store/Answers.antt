use Rattle.std.proofs.Common.{List, ℕ, Option, None, Some, ◌≡◌, ◌∙◌, ap, sym, refl}
use Rattle.std.specs.Prelude.{encode_utf8_all, is_some}
use Rattle.std.specs.Result.{result_err}
use Rattle.std.proofs.lemmas.Str.{encodes-chars}
use Rattle.osm_base.specs.map.Spots.{TableMap}
use Rattle.row_rules.specs.Row.{tables}
use Rattle.row_text.specs.Table.{table_text}
use Rattle.style_read.specs.Style.{StyleOf}
use Rattle.update_flow.specs.Handle.{view_of}
use Rattle.update_flow.specs.Updater.{handle_of}
use Rattle.run_promise.specs.Course.{ends, writes_text}
use Rattle.run_promise.specs.World.{world}
use Rattle.updater.proofs.StoreRuns.{exports_found, exports_own, found_table, held_certain, if_there, look_done, look_ends, look_refused, look_short}
use Rattle.updater.proofs.StoreRuns.{not_yet, outdated_there, same_style, unknown_table}
use Rattle.updater.proofs.TableLaws.{only_text}
use Rattle.updater.proofs.StoreDeeds.{refused_so}
use Rattle.updater.proofs.Keeping.{keeps_look, keeps_short, keeps_told, keeps_unlooked}
use Rattle.updater.proofs.commands.export.export_store.Goals as goal

pub returns-then-old-clause-goes_on : goal.returns-then-old-clause-goes_on
returns-then-old-clause-goes_on g c = λ old start done state head.
    let files = g.I.Inputs.view c.args.inputs.now in
    let output = g.S.Sink.view c.args.out.now in
    exports_own start done 0 old files (handle_of c.args.store.now) output c.args.table.now state head refl _ _
    (outdated_there start done 0 old files (handle_of c.args.store.now) output _ state head (sym c.old.ensures.is ∙ c.if-old.true))

pub returns-in-None-clause-goes_on : goal.returns-in-None-clause-goes_on
returns-in-None-clause-goes_on g c = λ old start done state head.
    let files = g.I.Inputs.view c.args.inputs.now in
    let output = g.S.Sink.view c.args.out.now in
    exports_own start done 0 old files (handle_of c.args.store.now) output c.args.table.now state head refl _ _
    (not_yet start done 0 old files (handle_of c.args.store.now) output _ state head (sym c.old.ensures.is ∙ c.if-old.false)
    (ap (λ (style : Option StyleOf). is_some style) (sym c.in-None.ensures.style)))

pub returns-in_default-clause-goes_on : goal.returns-in_default-clause-goes_on
returns-in_default-clause-goes_on g c = λ old start done state head.
    let files = g.I.Inputs.view c.args.inputs.now in
    let output = g.S.Sink.view c.args.out.now in
    exports_own start done 0 old files (handle_of c.args.store.now) output c.args.table.now state head refl _ _
    (if_there start done 0 old files (handle_of c.args.store.now) output _ _ _ state head (sym c.old.ensures.is ∙ c.if-old.false) refl
    (ap (λ (style : Option StyleOf). is_some style) (sym c.in-Some.ensures.style))
    (λ held head. unknown_table start done held 0 old files (handle_of c.args.store.now) output head c.args.table.now
    (found_table start done held 0 old files
    (handle_of c.args.store.now) output head c.in-Some.style.now c.args.table.now None c.in-Some.ensures.style
    c.in_default.ensures.table)))

pub returns-in-Err-clause-goes_on : goal.returns-in-Err-clause-goes_on
returns-in-Err-clause-goes_on g c = rw c.in_flow.ensures.fault (λ old start done state head.
    let files = g.I.Inputs.view c.args.inputs.now in
    let output = g.S.Sink.view c.args.out.now in
    let number = c.in-Some-number.number in
    exports_own start done 0 old files (handle_of c.args.store.now) output c.args.table.now state head refl _ _
    (if_there start done 0 old files (handle_of c.args.store.now) output _ _ _ state head (sym c.old.ensures.is ∙ c.if-old.false) refl
    (ap (λ (style : Option StyleOf). is_some style) (sym c.in-Some.ensures.style))
    (λ held head. exports_found start done held 0 old files (handle_of c.args.store.now) output head c.args.table.now (Some number)
    (found_table start done held 0 old files (handle_of c.args.store.now) output head c.in-Some.style.now c.args.table.now
    (Some number) c.in-Some.ensures.style c.in-Some-number.ensures.table) _ _
    (look_refused start done held 0 old files (handle_of c.args.store.now)
    (handle_of c.load_table.new.self) output head c.in-Err.fault c.in-Err.ensures.looks (refused_so c.in-Err.ensures.stays)
    (writes_text (table_text held.style (tables held.style held.objects) number) ends)))))

pub returns-in-Ok-text-clause-goes_on : goal.returns-in-Ok-text-clause-goes_on
returns-in-Ok-text-clause-goes_on g c = λ old start done state head.
    let files = g.I.Inputs.view c.args.inputs.now in
    let output = g.S.Sink.view c.args.out.now in
    let number = c.in-Some-number.number in
    let text = c.as_bytes.result.now in
    let new = g.S.Sink.view c.tell.new.out in
    let bytes : text ≡ table_text c.in-Some-style.style.now c.in-Ok.tables number =
    c.as_bytes.ensures.value ∙ sym (encodes-chars c.as_str.result.now c.as_str.utf8) ∙ ap encode_utf8_all c.as_str.ensures.characters
    ∙ c.in-Ok-text.ensures.text in
    exports_own start done 0 old files (handle_of c.args.store.now) output c.args.table.now state head refl _ _
    (if_there start done 0 old files (handle_of c.args.store.now) output _ (result_err c.tell.result)
    (world files (view_of (handle_of c.load_table.new.self)) new) state head (sym c.old.ensures.is ∙ c.if-old.false) refl
    (ap (λ (style : Option StyleOf). is_some style) (sym c.in-Some.ensures.style))
    (λ held head.
    let sure = look_done start done held 0 old files (handle_of c.args.store.now)
    (handle_of c.load_table.new.self) output head c.in-Ok.ensures.looks
    (c.in-Ok.ensures.stays.still tt) c.in-Ok.ensures.stays.whole c.load_table.ensures.stays.over.same_limits
    c.in-Ok.ensures.stays.cause in
    exports_found start done held 0 old files (handle_of c.args.store.now) output head c.args.table.now (Some number)
    (found_table start done held 0 old files (handle_of c.args.store.now) output head c.in-Some.style.now c.args.table.now
    (Some number) c.in-Some.ensures.style c.in-Some-number.ensures.table) _ _
    (look_ends start done held 0 old files (handle_of c.args.store.now) (handle_of c.load_table.new.self) output head
    (λ (own : List ℕ). own ≡ table_text held.style (tables held.style held.objects) number) sure text new c.tell.result
    (λ read certain. bytes ∙ ap (λ (style : StyleOf). table_text style c.in-Ok.tables number)
    (same_style start done held 0 old files (handle_of c.load_table.new.self) output sure c.in-Some-style.style.now
    c.in-Some-style.ensures.style)
    ∙ ap (λ (found : TableMap). table_text held.style found number)
    (c.in-Ok.ensures.table held (held_certain done held (handle_of c.args.store.now) head.here certain))
    ∙ only_text held.style (tables held.style held.objects) number)
    c.tell.ensures.ok c.tell.ensures.err c.tell.ensures.alone c.tell.ensures.cause)))

pub returns-clause-goes_on : goal.returns-clause-goes_on
returns-clause-goes_on g c = λ old start done state head.
    let files = g.I.Inputs.view c.args.inputs.now in
    let output = g.S.Sink.view c.args.out.now in
    let number = c.in-Some-number.number in
    exports_own start done 0 old files (handle_of c.args.store.now) output c.args.table.now state head refl _ _
    (if_there start done 0 old files (handle_of c.args.store.now) output _ _ _ state head (sym c.old.ensures.is ∙ c.if-old.false) refl
    (ap (λ (style : Option StyleOf). is_some style) (sym c.in-Some.ensures.style))
    (λ held head.
    let sure = look_done start done held 0 old files (handle_of c.args.store.now)
    (handle_of c.load_table.new.self) output head c.in-Ok.ensures.looks
    (c.in-Ok.ensures.stays.still tt) c.in-Ok.ensures.stays.whole c.load_table.ensures.stays.over.same_limits
    c.in-Ok.ensures.stays.cause in
    exports_found start done held 0 old files (handle_of c.args.store.now) output head c.args.table.now (Some number)
    (found_table start done held 0 old files (handle_of c.args.store.now) output head c.in-Some.style.now c.args.table.now
    (Some number) c.in-Some.ensures.style c.in-Some-number.ensures.table) _ _
    (look_short start done held 0 old files (handle_of c.args.store.now) (handle_of c.load_table.new.self) output head
    (λ (own : List ℕ). own ≡ table_text held.style (tables held.style held.objects) number) ends sure)))

pub returns-in-Err-clause-keeps : goal.returns-in-Err-clause-keeps
returns-in-Err-clause-keeps g c = rw c.in_flow.ensures.fault
    (keeps_unlooked c.args.store.now c.load_table.new.self c.in-Err.fault c.load_table.ensures.stays.over c.in-Err.ensures.stays.alone
    c.in-Err.ensures.sound)

pub returns-in-Ok-text-clause-keeps : goal.returns-in-Ok-text-clause-keeps
returns-in-Ok-text-clause-keeps g c =
    keeps_told c.args.store.now c.load_table.new.self
    (keeps_look c.args.store.now c.load_table.new.self c.load_table.ensures.stays.over c.in-Ok.ensures.sound)
    c.tell.result c.tell.ensures.alone

pub returns-clause-keeps : goal.returns-clause-keeps
returns-clause-keeps g c =
    keeps_short c.args.store.now c.load_table.new.self
    (keeps_look c.args.store.now c.load_table.new.self c.load_table.ensures.stays.over c.in-Ok.ensures.sound)
