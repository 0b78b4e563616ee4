use Rattle.std.proofs.Common.{[], ℕ, Option, refl, true, false, ◌≡◌, ◌+◌, ◌-◌, ◌∙◌, ap, arith, inr, subst, sym}
use Rattle.std.specs.Prelude.{is_some}
use Rattle.std.specs.Result.{result_err}
use Rattle.style_read.specs.Style.{StyleOf}
use Rattle.update_flow.specs.Handle.{view_of}
use Rattle.update_flow.specs.State.{imported}
use Rattle.update_flow.specs.Updater.{handle_of}
use Rattle.run_promise.specs.Course.{looks, reads}
use Rattle.run_promise.specs.Courses.{serves}
use Rattle.updater.specs.FileReads.{IsRead, IsUnread, Among}
use Rattle.run_promise.specs.Files.{IsBounds, IsQueries}
use Rattle.updater.specs.Heads.{IsHead}
use Rattle.run_promise.specs.Progress.{past}
use Rattle.run_promise.specs.World.{world}
use Rattle.updater.proofs.Asked.{asked_among, asked_more, asked_none, asked_then}
use Rattle.updater.proofs.StoreRuns.{first_read, first_unread, held_certain, if_there, look_done, look_refused, not_yet, outdated_there}
use Rattle.updater.proofs.StoreRuns.{same_style}
use Rattle.updater.proofs.VersionRuns.{goes_back}
use Rattle.updater.proofs.StoreDeeds.{refused_so}
use Rattle.updater.proofs.Keeping.{keeps_look, keeps_then, keeps_unlooked, keeps_unread}
use Rattle.updater.proofs.commands.serve.serve_store.Goals as goal

pub returns-then-old-clause-goes_on : goal.returns-then-old-clause-goes_on
returns-then-old-clause-goes_on g c = λ old start done state head.
    outdated_there start done c.args.files.first old (g.I.Inputs.view c.args.inputs.now) (handle_of c.args.store.now)
    (g.S.Sink.view c.args.out.now) _ state head (sym c.old.ensures.is ∙ c.if-old.true)

pub returns-then-not-imported-clause-goes_on : goal.returns-then-not-imported-clause-goes_on
returns-then-not-imported-clause-goes_on g c = λ old start done state head.
    not_yet start done c.args.files.first old (g.I.Inputs.view c.args.inputs.now) (handle_of c.args.store.now)
    (g.S.Sink.view c.args.out.now) _ state head (sym c.old.ensures.is ∙ c.if-old.false)
    (sym c.imported.ensures.is ∙ c.if-not-imported.true)

pub returns-in-Err-clause-goes_on : goal.returns-in-Err-clause-goes_on
returns-in-Err-clause-goes_on g c = λ old start done state head.
    let first = c.args.files.first in
    let count = c.args.files.count - 2 in
    if_there start done first old (g.I.Inputs.view c.args.inputs.now) (handle_of c.args.store.now)
    (g.S.Sink.view c.args.out.now) _ _ _ state head (sym c.old.ensures.is ∙ c.if-old.false) refl
    (sym c.imported.ensures.is ∙ c.if-not-imported.false)
    (λ held head. first_unread start done first old (g.I.Inputs.view c.args.inputs.now) (handle_of c.args.store.now)
    (g.S.Sink.view c.args.out.now) (IsBounds first)
    (λ bounds. reads (first + 1) (IsQueries held.style (first + 1))
    (λ queries. looks (serves bounds queries c.args.readers [] held (first + 2) count))) (imported held) head
    (g.I.Inputs.view c.read_bounds_file.new.inputs) c.in-Err.fault c.in-Err.ensures.reads.err)

pub returns-in-Err-clause-works : goal.returns-in-Err-clause-works
returns-in-Err-clause-works g c =
    let laws = g.met.I.Inputs g.world.𝓛 g.world.𝓜 g.world.𝓡 ((λ s x. x), (λ x. x), (λ x. x), λ x. x) in
    let files = c.args.files in
    let some = c.requires.fits.0.fit.some in
    record {
      keeps = keeps_unread _ _ c.in-Err.fault _ _ c.args.store.now c.in-Err.ensures.reads.err;
      asked =
          asked_more g.I.Inputs.reads laws.reads_then
          (Among files.first files.count) c.args.inputs.now c.args.inputs.now c.read_bounds_file.new.inputs files.first
          (asked_none g.I.Inputs.reads (Among files.first files.count) c.args.inputs.now (laws.reads_none c.args.inputs.now))
          c.read_bounds_file.ensures.reads.asked (omega arith, omega (arith, some));
    }

pub overflow_add-files : goal.overflow_add-files
overflow_add-files g c =
    let some = c.requires.fits.0.fit.some in
    let few = c.requires.fits.0.fit.few in
    omega (arith, some, few)

pub returns-in-None-clause-goes_on : goal.returns-in-None-clause-goes_on
returns-in-None-clause-goes_on g c = λ old start done state head.
    absurd (let two : true ≡ false = sym c.if-not-imported.false ∙ c.imported.ensures.is
    ∙ ap (λ (style : Option StyleOf). is_some style) (sym c.in-None.ensures.style) in cc)

pub returns-in-None-clause-works : goal.returns-in-None-clause-works
returns-in-None-clause-works g c =
    absurd (let two : true ≡ false = sym c.if-not-imported.false ∙ c.imported.ensures.is
    ∙ ap (λ (style : Option StyleOf). is_some style) (sym c.in-None.ensures.style) in cc)

pub returns-in-Err-read-clause-goes_on : goal.returns-in-Err-read-clause-goes_on
returns-in-Err-read-clause-goes_on g c = λ old start done state head.
    let first = c.args.files.first in
    let count = c.args.files.count - 2 in
    let files = g.I.Inputs.view c.args.inputs.now in
    let output = g.S.Sink.view c.args.out.now in
    let store = handle_of c.args.store.now in
    let bounds_read = g.I.Inputs.view c.read_bounds_file.new.inputs in
    let read = g.I.Inputs.view c.read_queries_file-read.new.inputs in
    if_there start done first old files store output _ _ _ state head (sym c.old.ensures.is ∙ c.if-old.false) refl
    (sym c.imported.ensures.is ∙ c.if-not-imported.false)
    (λ held head. first_read start done first old files store output (IsBounds first)
    (λ bounds. reads (first + 1) (IsQueries held.style (first + 1))
    (λ queries. looks (serves bounds queries c.args.readers [] held (first + 2) count)))
    (imported held) head bounds_read c.in-Ok.bounds c.in-Ok.ensures.reads.ok _ _
    (λ head. first_unread start (past first done) (first + 1) old bounds_read store output (IsQueries held.style (first + 1))
    (λ queries. looks (serves c.in-Ok.bounds queries c.args.readers [] held (first + 2) count))
    (imported held) head read c.in-Err-read.fault
    (subst (λ (style : StyleOf). IsUnread (IsQueries style (first + 1)) (first + 1) c.in-Err-read.fault bounds_read read)
    (same_style start (past first done) held (first + 1) old bounds_read store output head c.in-Some.style.now c.in-Some.ensures.style)
    c.in-Err-read.ensures.reads.err)))

pub returns-in-Err-load_tables-clause-goes_on : goal.returns-in-Err-load_tables-clause-goes_on
returns-in-Err-load_tables-clause-goes_on g c = rw c.in_flow.ensures.fault (λ old start done state head.
    let first = c.args.files.first in
    let count = c.args.files.count - 2 in
    let files = g.I.Inputs.view c.args.inputs.now in
    let output = g.S.Sink.view c.args.out.now in
    let store = handle_of c.args.store.now in
    let bounds_read = g.I.Inputs.view c.read_bounds_file.new.inputs in
    let read = g.I.Inputs.view c.read_queries_file-read.new.inputs in
    if_there start done first old files store output _ _ _ state head (sym c.old.ensures.is ∙ c.if-old.false) refl
    (sym c.imported.ensures.is ∙ c.if-not-imported.false)
    (λ held head. first_read start done first old files store output (IsBounds first)
    (λ bounds. reads (first + 1) (IsQueries held.style (first + 1))
    (λ queries. looks (serves bounds queries c.args.readers [] held (first + 2) count)))
    (imported held) head bounds_read c.in-Ok.bounds c.in-Ok.ensures.reads.ok _ _
    (λ head. first_read start (past first done) (first + 1) old bounds_read store output (IsQueries held.style (first + 1))
    (λ queries. looks (serves c.in-Ok.bounds queries c.args.readers [] held (first + 2) count))
    (imported held) head read c.in-Ok-read.queries
    (subst (λ (style : StyleOf). IsRead (IsQueries style (first + 1)) (first + 1) c.in-Ok-read.queries bounds_read read)
    (same_style start (past first done) held (first + 1) old bounds_read store output head c.in-Some.style.now c.in-Some.ensures.style)
    c.in-Ok-read.ensures.reads.ok) _ _
    (λ head. look_refused start (past (first + 1) (past first done)) held (first + 1 + 1) old read store
    (handle_of c.load_tables.new.self) output head c.in-Err-load_tables.fault
    c.in-Err-load_tables.ensures.looks (refused_so c.in-Err-load_tables.ensures.stays)
    (serves c.in-Ok.bounds c.in-Ok-read.queries c.args.readers [] held (first + 2) count)))))

pub returns-clause-goes_on : goal.returns-clause-goes_on
returns-clause-goes_on g c = λ old start done state head.
    let first = c.args.files.first in
    let count = c.args.files.count - 2 in
    let files = g.I.Inputs.view c.args.inputs.now in
    let output = g.S.Sink.view c.args.out.now in
    let store = handle_of c.args.store.now in
    let loaded = handle_of c.load_tables.new.self in
    let bounds_read = g.I.Inputs.view c.read_bounds_file.new.inputs in
    let read = g.I.Inputs.view c.read_queries_file-read.new.inputs in
    let fault = result_err c.serve_loaded.result in
    let new = world (g.I.Inputs.view c.serve_loaded.new.inputs) (view_of (handle_of c.serve_loaded.new.store))
    (g.S.Sink.view c.serve_loaded.new.out) in
    if_there start done first old files store output _ fault new state head (sym c.old.ensures.is ∙ c.if-old.false) refl
    (sym c.imported.ensures.is ∙ c.if-not-imported.false)
    (λ held head. first_read start done first old files store output (IsBounds first)
    (λ bounds. reads (first + 1) (IsQueries held.style (first + 1))
    (λ queries. looks (serves bounds queries c.args.readers [] held (first + 2) count)))
    (imported held) head bounds_read c.in-Ok.bounds c.in-Ok.ensures.reads.ok fault new
    (λ head. first_read start (past first done) (first + 1) old bounds_read store output (IsQueries held.style (first + 1))
    (λ queries. looks (serves c.in-Ok.bounds queries c.args.readers [] held (first + 2) count))
    (imported held) head read c.in-Ok-read.queries
    (subst (λ (style : StyleOf). IsRead (IsQueries style (first + 1)) (first + 1) c.in-Ok-read.queries bounds_read read)
    (same_style start (past first done) held (first + 1) old bounds_read store output head c.in-Some.style.now c.in-Some.ensures.style)
    c.in-Ok-read.ensures.reads.ok) fault new
    (λ head.
    let both = past (first + 1) (past first done) in
    let sure = look_done start both held (first + 1 + 1) old read store loaded output head c.in-Ok-load_tables.ensures.looks
    (c.in-Ok-load_tables.ensures.stays.still tt) c.in-Ok-load_tables.ensures.stays.whole c.load_tables.ensures.stays.over.same_limits
    c.in-Ok-load_tables.ensures.stays.cause in
    let here : first + 1 + 1 ≡ first + 2 = omega arith in
    let further = subst (λ (next : ℕ). IsHead start both (imported held) next old read loaded output) here sure in
    let whole = serves c.in-Ok.bounds c.in-Ok-read.queries c.args.readers [] held (first + 2) count in
    goes_back (looks whole) whole start both both fault old new
    (c.serve_loaded.ensures.goes_on old start both held further
    (λ certain. c.in-Ok-load_tables.ensures.tables held (held_certain both held store head.here certain)))
    (λ ending comes. inr (inr comes)))))

pub returns-in-Err-read-clause-works : goal.returns-in-Err-read-clause-works
returns-in-Err-read-clause-works g c =
    let laws = g.met.I.Inputs g.world.𝓛 g.world.𝓜 g.world.𝓡 ((λ s x. x), (λ x. x), (λ x. x), λ x. x) in
    let files = c.args.files in
    let two = c.requires.fits.0.least in
    let among = Among files.first files.count in
    record {
      keeps = keeps_unread _ _ c.in-Err-read.fault _ _ c.args.store.now c.in-Err-read.ensures.reads.err;
      asked =
          asked_more g.I.Inputs.reads laws.reads_then among c.args.inputs.now c.read_bounds_file.new.inputs
          c.read_queries_file-read.new.inputs
          (files.first + 1)
          (asked_more g.I.Inputs.reads laws.reads_then among c.args.inputs.now c.args.inputs.now c.read_bounds_file.new.inputs files.first
          (asked_none g.I.Inputs.reads among c.args.inputs.now (laws.reads_none c.args.inputs.now)) c.read_bounds_file.ensures.reads.asked
          (omega arith, omega (arith, two)))
          c.read_queries_file-read.ensures.reads.asked (omega arith, omega (arith, two));
    }

pub returns-in-Err-load_tables-clause-works : goal.returns-in-Err-load_tables-clause-works
returns-in-Err-load_tables-clause-works g c =
    let laws = g.met.I.Inputs g.world.𝓛 g.world.𝓜 g.world.𝓡 ((λ s x. x), (λ x. x), (λ x. x), λ x. x) in
    let files = c.args.files in
    let two = c.requires.fits.0.least in
    let among = Among files.first files.count in
    rw c.in_flow.ensures.fault (record {
      keeps = keeps_unlooked c.args.store.now c.load_tables.new.self c.in-Err-load_tables.fault c.load_tables.ensures.stays.over
          c.in-Err-load_tables.ensures.stays.alone c.in-Err-load_tables.ensures.sound;
      asked =
          asked_more g.I.Inputs.reads laws.reads_then among c.args.inputs.now c.read_bounds_file.new.inputs
          c.read_queries_file-read.new.inputs
          (files.first + 1)
          (asked_more g.I.Inputs.reads laws.reads_then among c.args.inputs.now c.args.inputs.now c.read_bounds_file.new.inputs files.first
          (asked_none g.I.Inputs.reads among c.args.inputs.now (laws.reads_none c.args.inputs.now)) c.read_bounds_file.ensures.reads.asked
          (omega arith, omega (arith, two)))
          c.read_queries_file-read.ensures.reads.asked (omega arith, omega (arith, two));
    })

pub returns-clause-works : goal.returns-clause-works
returns-clause-works g c =
    let laws = g.met.I.Inputs g.world.𝓛 g.world.𝓜 g.world.𝓡 ((λ s x. x), (λ x. x), (λ x. x), λ x. x) in
    let files = c.args.files in
    let two = c.requires.fits.0.least in
    let among = Among files.first files.count in
    record {
      keeps = keeps_then c.args.store.now c.load_tables.new.self _ c.serve_loaded.new.store
          (keeps_look c.args.store.now c.load_tables.new.self c.load_tables.ensures.stays.over c.in-Ok-load_tables.ensures.sound)
          c.serve_loaded.ensures.works.keeps;
      asked =
          asked_then g.I.Inputs.reads laws.reads_then among c.args.inputs.now c.read_queries_file-read.new.inputs c.serve_loaded.new.inputs
          (asked_more g.I.Inputs.reads laws.reads_then among c.args.inputs.now c.read_bounds_file.new.inputs
          c.read_queries_file-read.new.inputs
          (files.first + 1)
          (asked_more g.I.Inputs.reads laws.reads_then among c.args.inputs.now c.args.inputs.now c.read_bounds_file.new.inputs files.first
          (asked_none g.I.Inputs.reads among c.args.inputs.now (laws.reads_none c.args.inputs.now)) c.read_bounds_file.ensures.reads.asked
          (omega arith, omega (arith, two)))
          c.read_queries_file-read.ensures.reads.asked (omega arith, omega (arith, two)))
          (asked_among (λ asked. g.I.Inputs.reads c.read_queries_file-read.new.inputs asked c.serve_loaded.new.inputs)
          (Among (files.first + 2) (files.count - 2)) among
          (λ file own. let low = own.0 in let high = own.1 in
          (omega (arith, low), omega (arith, high, two))) c.serve_loaded.ensures.works.asked);
    }

pub overflow_add-changes : goal.overflow_add-changes
overflow_add-changes g c =
    let few = c.requires.fits.0.fit.few in
    let two = c.requires.fits.0.least in
    omega (arith, few, two)

pub overflow_sub-changes : goal.overflow_sub-changes
overflow_sub-changes g c = let two = c.requires.fits.0.least in omega (arith, two)
