use Rattle.std.proofs.Common.{List, ℕ, Option, ◌≡◌, ◌+◌, ◌∙◌, ap, arith, refl, subst, sym}
use Rattle.std.specs.Prelude.{is_some}
use Rattle.std.specs.Result.{result_err}
use Rattle.map_query.specs.declared.query.Query.{Query}
use Rattle.osm_base.specs.map.Spots.{TableMap}
use Rattle.row_rules.specs.Row.{tables}
use Rattle.style_read.specs.Style.{StyleOf}
use Rattle.update_flow.specs.Handle.{view_of}
use Rattle.update_flow.specs.State.{imported}
use Rattle.update_flow.specs.Updater.{handle_of}
use Rattle.run_promise.specs.Answers.{answers_text}
use Rattle.run_promise.specs.Course.{ends, looks, writes_text}
use Rattle.updater.specs.FileReads.{IsRead, IsUnread, Among}
use Rattle.run_promise.specs.Files.{IsQueries}
use Rattle.run_promise.specs.Progress.{past}
use Rattle.run_promise.specs.World.{world}
use Rattle.updater.proofs.Asked.{asked_more, asked_none}
use Rattle.updater.proofs.StoreRuns.{first_read, first_unread, held_certain, if_there, look_done, look_ends, look_refused, look_short}
use Rattle.updater.proofs.StoreRuns.{not_yet, outdated_there, same_style}
use Rattle.updater.proofs.StoreDeeds.{shows_here, refused_so}
use Rattle.updater.proofs.Keeping.{keeps_look, keeps_short, keeps_told, keeps_unimported, keeps_unlooked, keeps_unread}
use Rattle.updater.proofs.commands.query.query_store.Goals as goal

pub returns-then-old-clause-goes_on : goal.returns-then-old-clause-goes_on
returns-then-old-clause-goes_on g c = λ old start done state head.
    outdated_there start done c.args.files.first old (g.I.Inputs.view c.args.inputs.now) (handle_of c.args.store.now)
    (g.S.Sink.view c.args.out.now) _ state head (sym c.old.ensures.is ∙ c.if-old.true)

pub returns-in-None-clause-goes_on : goal.returns-in-None-clause-goes_on
returns-in-None-clause-goes_on g c = λ old start done state head.
    not_yet start done c.args.files.first old (g.I.Inputs.view c.args.inputs.now) (handle_of c.args.store.now)
    (g.S.Sink.view c.args.out.now) _ state head (sym c.old.ensures.is ∙ c.if-old.false)
    (ap (λ (style : Option StyleOf). is_some style) (sym c.in-None.ensures.style))

pub returns-in-Err-clause-goes_on : goal.returns-in-Err-clause-goes_on
returns-in-Err-clause-goes_on g c = λ old start done state head.
    let first = c.args.files.first in
    let files = g.I.Inputs.view c.args.inputs.now in
    let output = g.S.Sink.view c.args.out.now in
    let read = g.I.Inputs.view c.read_queries_file-read.new.inputs in
    if_there start done first old files (handle_of c.args.store.now) output _ _ _ state head (sym c.old.ensures.is ∙ c.if-old.false) refl
    (ap (λ (style : Option StyleOf). is_some style) (sym c.in-Some.ensures.style))
    (λ held head. first_unread start done first old files (handle_of c.args.store.now) output (IsQueries held.style first)
    (λ queries. looks (writes_text (answers_text held.style (tables held.style held.objects) held.changes queries) ends))
    (imported held) head read c.in-Err.fault
    (subst (λ (style : StyleOf). IsUnread (IsQueries style first) first c.in-Err.fault files read)
    (same_style start done held first old files (handle_of c.args.store.now) output head c.in-Some.style.now c.in-Some.ensures.style)
    c.in-Err.ensures.reads.err))

pub returns-in-Err-load_tables-clause-goes_on : goal.returns-in-Err-load_tables-clause-goes_on
returns-in-Err-load_tables-clause-goes_on g c = rw c.in_flow.ensures.fault (λ old start done state head.
    let first = c.args.files.first in
    let files = g.I.Inputs.view c.args.inputs.now in
    let output = g.S.Sink.view c.args.out.now in
    let read = g.I.Inputs.view c.read_queries_file-read.new.inputs in
    if_there start done first old files (handle_of c.args.store.now) output _ _ _ state head (sym c.old.ensures.is ∙ c.if-old.false) refl
    (ap (λ (style : Option StyleOf). is_some style) (sym c.in-Some.ensures.style))
    (λ held head. first_read start done first old files (handle_of c.args.store.now) output (IsQueries held.style first)
    (λ queries. looks (writes_text (answers_text held.style (tables held.style held.objects) held.changes queries) ends))
    (imported held) head read c.in-Ok.queries
    (subst (λ (style : StyleOf). IsRead (IsQueries style first) first c.in-Ok.queries files read)
    (same_style start done held first old files (handle_of c.args.store.now) output head c.in-Some.style.now c.in-Some.ensures.style)
    c.in-Ok.ensures.reads.ok)
    _ _ (λ head. look_refused start (past first done) held (first + 1) old read (handle_of c.args.store.now)
    (handle_of c.load_tables.new.self) output head c.in-Err-load_tables.fault
    c.in-Err-load_tables.ensures.looks (refused_so c.in-Err-load_tables.ensures.stays)
    (writes_text (answers_text held.style (tables held.style held.objects) held.changes c.in-Ok.queries) ends))))

pub returns-in-Ok-text-clause-goes_on : goal.returns-in-Ok-text-clause-goes_on
returns-in-Ok-text-clause-goes_on g c = λ old start done state head.
    let first = c.args.files.first in
    let files = g.I.Inputs.view c.args.inputs.now in
    let output = g.S.Sink.view c.args.out.now in
    let read = g.I.Inputs.view c.read_queries_file-read.new.inputs in
    let text = c.as_bytes.result.now in
    let new = g.S.Sink.view c.tell.new.out in
    if_there start done first old files (handle_of c.args.store.now) output _ (result_err c.tell.result)
    (world read (view_of (handle_of c.load_tables.new.self)) new) state head (sym c.old.ensures.is ∙ c.if-old.false) refl
    (ap (λ (style : Option StyleOf). is_some style) (sym c.in-Some.ensures.style))
    (λ held head. first_read start done first old files (handle_of c.args.store.now) output (IsQueries held.style first)
    (λ queries. looks (writes_text (answers_text held.style (tables held.style held.objects) held.changes queries) ends))
    (imported held) head read c.in-Ok.queries
    (subst (λ (style : StyleOf). IsRead (IsQueries style first) first c.in-Ok.queries files read)
    (same_style start done held first old files (handle_of c.args.store.now) output head c.in-Some.style.now c.in-Some.ensures.style)
    c.in-Ok.ensures.reads.ok)
    (result_err c.tell.result) (world read (view_of (handle_of c.load_tables.new.self)) new) (λ head.
    let sure = look_done start (past first done) held (first + 1) old read (handle_of c.args.store.now)
    (handle_of c.load_tables.new.self) output head c.in-Ok-load_tables.ensures.looks
    (c.in-Ok-load_tables.ensures.stays.still tt) c.in-Ok-load_tables.ensures.stays.whole
    c.load_tables.ensures.stays.over.same_limits c.in-Ok-load_tables.ensures.stays.cause in
    let shown = shows_here done.store done.cut (imported held) (handle_of c.load_tables.new.self) sure.here in
    look_ends start (past first done) held (first + 1) old read (handle_of c.args.store.now) (handle_of c.load_tables.new.self) output head
    (λ (own : List ℕ). own ≡ answers_text held.style (tables held.style held.objects) held.changes c.in-Ok.queries) sure text new
    c.tell.result
    (λ all certain. c.as_bytes.ensures.value ∙ c.in-Ok-text.ensures.text
    ∙ ap (λ (queries : List Query). answers_text c.in-Some-style.style.now c.in-Ok-load_tables.tables c.changes-version.result queries)
    c.as_slice.ensures.items
    ∙ ap (λ (style : StyleOf). answers_text style c.in-Ok-load_tables.tables c.changes-version.result c.in-Ok.queries)
    (same_style start (past first done) held (first + 1) old read
    (handle_of c.load_tables.new.self) output sure c.in-Some-style.style.now c.in-Some-style.ensures.style)
    ∙ ap (λ (found : TableMap). answers_text held.style found c.changes-version.result c.in-Ok.queries)
    (c.in-Ok-load_tables.ensures.tables held (held_certain (past first done) held (handle_of c.args.store.now) head.here certain))
    ∙ ap (λ (version : ℕ). answers_text held.style (tables held.style held.objects) version c.in-Ok.queries)
    (c.changes-version.ensures.number ∙ shown.changes_are))
    c.tell.ensures.ok c.tell.ensures.err c.tell.ensures.alone c.tell.ensures.cause))

pub returns-clause-goes_on : goal.returns-clause-goes_on
returns-clause-goes_on g c = λ old start done state head.
    let first = c.args.files.first in
    let files = g.I.Inputs.view c.args.inputs.now in
    let output = g.S.Sink.view c.args.out.now in
    let read = g.I.Inputs.view c.read_queries_file-read.new.inputs in
    if_there start done first old files (handle_of c.args.store.now) output _ _ _ state head (sym c.old.ensures.is ∙ c.if-old.false) refl
    (ap (λ (style : Option StyleOf). is_some style) (sym c.in-Some.ensures.style))
    (λ held head. first_read start done first old files (handle_of c.args.store.now) output (IsQueries held.style first)
    (λ queries. looks (writes_text (answers_text held.style (tables held.style held.objects) held.changes queries) ends))
    (imported held) head read c.in-Ok.queries
    (subst (λ (style : StyleOf). IsRead (IsQueries style first) first c.in-Ok.queries files read)
    (same_style start done held first old files (handle_of c.args.store.now) output head c.in-Some.style.now c.in-Some.ensures.style)
    c.in-Ok.ensures.reads.ok)
    _ _ (λ head.
    let sure = look_done start (past first done) held (first + 1) old read (handle_of c.args.store.now)
    (handle_of c.load_tables.new.self) output head c.in-Ok-load_tables.ensures.looks
    (c.in-Ok-load_tables.ensures.stays.still tt) c.in-Ok-load_tables.ensures.stays.whole
    c.load_tables.ensures.stays.over.same_limits c.in-Ok-load_tables.ensures.stays.cause in
    look_short start (past first done) held (first + 1) old read (handle_of c.args.store.now) (handle_of c.load_tables.new.self) output head
    (λ (own : List ℕ). own ≡ answers_text held.style (tables held.style held.objects) held.changes c.in-Ok.queries) ends sure))

pub returns-in-Err-clause-works : goal.returns-in-Err-clause-works
returns-in-Err-clause-works g c =
    let laws = g.met.I.Inputs g.world.𝓛 g.world.𝓜 g.world.𝓡 ((λ s x. x), (λ x. x), (λ x. x), λ x. x) in
    let files = c.args.files in
    let one = c.requires.fits.1 in
    record {
      keeps = keeps_unread _ _ c.in-Err.fault _ _ c.args.store.now c.in-Err.ensures.reads.err;
      asked =
          asked_more g.I.Inputs.reads laws.reads_then
          (Among files.first files.count) c.args.inputs.now c.args.inputs.now c.read_queries_file-read.new.inputs files.first
          (asked_none g.I.Inputs.reads (Among files.first files.count) c.args.inputs.now (laws.reads_none c.args.inputs.now))
          c.read_queries_file-read.ensures.reads.asked (omega arith, omega (arith, one));
    }

pub returns-in-Err-load_tables-clause-works : goal.returns-in-Err-load_tables-clause-works
returns-in-Err-load_tables-clause-works g c =
    let laws = g.met.I.Inputs g.world.𝓛 g.world.𝓜 g.world.𝓡 ((λ s x. x), (λ x. x), (λ x. x), λ x. x) in
    let files = c.args.files in
    let one = c.requires.fits.1 in
    rw c.in_flow.ensures.fault (record {
      keeps = keeps_unlooked c.args.store.now c.load_tables.new.self c.in-Err-load_tables.fault c.load_tables.ensures.stays.over
          c.in-Err-load_tables.ensures.stays.alone c.in-Err-load_tables.ensures.sound;
      asked =
          asked_more g.I.Inputs.reads laws.reads_then
          (Among files.first files.count) c.args.inputs.now c.args.inputs.now c.read_queries_file-read.new.inputs files.first
          (asked_none g.I.Inputs.reads (Among files.first files.count) c.args.inputs.now (laws.reads_none c.args.inputs.now))
          c.read_queries_file-read.ensures.reads.asked (omega arith, omega (arith, one));
    })

pub returns-in-None-style-clause-works : goal.returns-in-None-style-clause-works
returns-in-None-style-clause-works g c =
    let laws = g.met.I.Inputs g.world.𝓛 g.world.𝓜 g.world.𝓡 ((λ s x. x), (λ x. x), (λ x. x), λ x. x) in
    let files = c.args.files in
    let one = c.requires.fits.1 in
    record {
      keeps = keeps_unimported c.args.store.now c.load_tables.new.self
          (keeps_look c.args.store.now c.load_tables.new.self c.load_tables.ensures.stays.over c.in-Ok-load_tables.ensures.sound);
      asked =
          asked_more g.I.Inputs.reads laws.reads_then
          (Among files.first files.count) c.args.inputs.now c.args.inputs.now c.read_queries_file-read.new.inputs files.first
          (asked_none g.I.Inputs.reads (Among files.first files.count) c.args.inputs.now (laws.reads_none c.args.inputs.now))
          c.read_queries_file-read.ensures.reads.asked (omega arith, omega (arith, one));
    }

pub returns-in-Ok-text-clause-works : goal.returns-in-Ok-text-clause-works
returns-in-Ok-text-clause-works g c =
    let laws = g.met.I.Inputs g.world.𝓛 g.world.𝓜 g.world.𝓡 ((λ s x. x), (λ x. x), (λ x. x), λ x. x) in
    let files = c.args.files in
    let one = c.requires.fits.1 in
    record {
      keeps = keeps_told c.args.store.now c.load_tables.new.self
          (keeps_look c.args.store.now c.load_tables.new.self c.load_tables.ensures.stays.over c.in-Ok-load_tables.ensures.sound)
          c.tell.result c.tell.ensures.alone;
      asked =
          asked_more g.I.Inputs.reads laws.reads_then
          (Among files.first files.count) c.args.inputs.now c.args.inputs.now c.read_queries_file-read.new.inputs files.first
          (asked_none g.I.Inputs.reads (Among files.first files.count) c.args.inputs.now (laws.reads_none c.args.inputs.now))
          c.read_queries_file-read.ensures.reads.asked (omega arith, omega (arith, one));
    }

pub returns-clause-works : goal.returns-clause-works
returns-clause-works g c =
    let laws = g.met.I.Inputs g.world.𝓛 g.world.𝓜 g.world.𝓡 ((λ s x. x), (λ x. x), (λ x. x), λ x. x) in
    let files = c.args.files in
    let one = c.requires.fits.1 in
    record {
      keeps = keeps_short c.args.store.now c.load_tables.new.self
          (keeps_look c.args.store.now c.load_tables.new.self c.load_tables.ensures.stays.over c.in-Ok-load_tables.ensures.sound);
      asked =
          asked_more g.I.Inputs.reads laws.reads_then
          (Among files.first files.count) c.args.inputs.now c.args.inputs.now c.read_queries_file-read.new.inputs files.first
          (asked_none g.I.Inputs.reads (Among files.first files.count) c.args.inputs.now (laws.reads_none c.args.inputs.now))
          c.read_queries_file-read.ensures.reads.asked (omega arith, omega (arith, one));
    }
