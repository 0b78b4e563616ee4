use Rattle.std.proofs.Common.{◌+◌, ◌-◌, ◌∙◌, arith, refl, sym}
use Rattle.std.specs.Result.{result_err}
use Rattle.update_flow.specs.State.{imported}
use Rattle.update_flow.specs.Handle.{view_of}
use Rattle.update_flow.specs.Updater.{handle_of}
use Rattle.run_promise.specs.Courses.{feeds_changes, feeds_full}
use Rattle.run_promise.specs.Files.{IsBounds}
use Rattle.run_promise.specs.Progress.{past}
use Rattle.run_promise.specs.World.{world}
use Rattle.updater.specs.FileReads.{Among}
use Rattle.updater.proofs.Asked.{asked_among, asked_more, asked_none, asked_then}
use Rattle.updater.proofs.FeedRuns.{behind_full}
use Rattle.updater.proofs.StoreRuns.{first_read, first_unread, if_there, not_yet, outdated_there}
use Rattle.updater.proofs.Keeping.{keeps_then, keeps_unread}
use Rattle.updater.proofs.commands.feed.feed_store.Goals as goal

pub returns-then-old-clause-goes_on : goal.returns-then-old-clause-goes_on
returns-then-old-clause-goes_on g c = λ old start done state head.
    outdated_there start done c.args.files.first old (g.I.Inputs.view c.args.inputs.now) (handle_of c.args.store.now)
    (g.S.Sink.view c.args.out.now) _ state head (sym c.old.ensures.is ∙ c.if-old.true)

pub returns-then-not-imported-clause-goes_on : goal.returns-then-not-imported-clause-goes_on
returns-then-not-imported-clause-goes_on g c = λ old start done state head.
    not_yet start done c.args.files.first old (g.I.Inputs.view c.args.inputs.now) (handle_of c.args.store.now)
    (g.S.Sink.view c.args.out.now) _ state head (sym c.old.ensures.is ∙ c.if-old.false)
    (sym c.imported.ensures.is ∙ c.if-not-imported.true)

pub returns-in-Err-clause-goes_on : goal.returns-in-Err-clause-goes_on
returns-in-Err-clause-goes_on g c = λ old start done state head.
    let first = c.args.files.first in
    let files = g.I.Inputs.view c.args.inputs.now in
    let output = g.S.Sink.view c.args.out.now in
    if_there start done first old files (handle_of c.args.store.now) output _ _ _ state head (sym c.old.ensures.is ∙ c.if-old.false) refl
    (sym c.imported.ensures.is ∙ c.if-not-imported.false)
    (λ held head. first_unread start done first old files (handle_of c.args.store.now) output (IsBounds first)
    (λ bounds. feeds_full c.args.full held (feeds_changes bounds held (first + 1) (c.args.files.count - 1))) (imported held) head
    (g.I.Inputs.view c.read_bounds_file.new.inputs) c.in-Err.fault c.in-Err.ensures.reads.err)

pub returns-in-Err-clause-works : goal.returns-in-Err-clause-works
returns-in-Err-clause-works g c =
    let laws = g.met.I.Inputs g.world.𝓛 g.world.𝓜 g.world.𝓡 ((λ s x. x), (λ x. x), (λ x. x), λ x. x) in
    let files = c.args.files in
    let some = c.requires.fits.fit.some in
    record {
      keeps = keeps_unread _ _ c.in-Err.fault _ _ c.args.store.now c.in-Err.ensures.reads.err;
      asked =
          asked_more g.I.Inputs.reads laws.reads_then
          (Among files.first files.count) c.args.inputs.now c.args.inputs.now c.read_bounds_file.new.inputs files.first
          (asked_none g.I.Inputs.reads (Among files.first files.count) c.args.inputs.now (laws.reads_none c.args.inputs.now))
          c.read_bounds_file.ensures.reads.asked (omega arith, omega (arith, some));
    }

pub returns-in-Err-feed_full-clause-goes_on : goal.returns-in-Err-feed_full-clause-goes_on
returns-in-Err-feed_full-clause-goes_on g c = λ old start done state head.
    let first = c.args.files.first in
    let count = c.args.files.count - 1 in
    let files = g.I.Inputs.view c.args.inputs.now in
    let read = g.I.Inputs.view c.read_bounds_file.new.inputs in
    let output = g.S.Sink.view c.args.out.now in
    if_there start done first old files (handle_of c.args.store.now) output _ _ _ state head (sym c.old.ensures.is ∙ c.if-old.false) refl
    (sym c.imported.ensures.is ∙ c.if-not-imported.false)
    (λ held head. first_read start done first old files (handle_of c.args.store.now) output (IsBounds first)
    (λ bounds. feeds_full c.args.full held (feeds_changes bounds held (first + 1) count)) (imported held) head
    read c.in-Ok.bounds c.in-Ok.ensures.reads.ok _ _
    (λ head. c.in-Err-feed_full.ensures.feeds (first + 1) read old start (past first done) held head c.in-Ok.bounds (first + 1) count))

pub returns-in-Err-feed_full-clause-works : goal.returns-in-Err-feed_full-clause-works
returns-in-Err-feed_full-clause-works g c =
    let laws = g.met.I.Inputs g.world.𝓛 g.world.𝓜 g.world.𝓡 ((λ s x. x), (λ x. x), (λ x. x), λ x. x) in
    let files = c.args.files in
    let some = c.requires.fits.fit.some in
    record {
      keeps = c.in-Err-feed_full.ensures.keeps;
      asked =
          asked_more g.I.Inputs.reads laws.reads_then
          (Among files.first files.count) c.args.inputs.now c.args.inputs.now c.read_bounds_file.new.inputs files.first
          (asked_none g.I.Inputs.reads (Among files.first files.count) c.args.inputs.now (laws.reads_none c.args.inputs.now))
          c.read_bounds_file.ensures.reads.asked (omega arith, omega (arith, some));
    }

pub overflow_add-changes : goal.overflow_add-changes
overflow_add-changes g c =
    let some = c.requires.fits.fit.some in
    let few = c.requires.fits.fit.few in
    omega (arith, some, few)

pub overflow_sub-changes : goal.overflow_sub-changes
overflow_sub-changes g c = let some = c.requires.fits.fit.some in omega (arith, some)

pub returns-clause-goes_on : goal.returns-clause-goes_on
returns-clause-goes_on g c = λ old start done state head.
    let first = c.args.files.first in
    let count = c.args.files.count - 1 in
    let files = g.I.Inputs.view c.args.inputs.now in
    let read = g.I.Inputs.view c.read_bounds_file.new.inputs in
    let output = g.S.Sink.view c.args.out.now in
    let fault = result_err c.feed_files.result in
    let new = world (g.I.Inputs.view c.feed_files.new.inputs) (view_of (handle_of c.feed_files.new.store))
    (g.S.Sink.view c.feed_files.new.out) in
    if_there start done first old files (handle_of c.args.store.now) output _ fault new state head (sym c.old.ensures.is ∙ c.if-old.false)
    refl (sym c.imported.ensures.is ∙ c.if-not-imported.false)
    (λ held head. first_read start done first old files (handle_of c.args.store.now) output (IsBounds first)
    (λ bounds. feeds_full c.args.full held (feeds_changes bounds held (first + 1) count)) (imported held) head
    read c.in-Ok.bounds c.in-Ok.ensures.reads.ok fault new
    (λ head. behind_full c.args.full start (past first done) held (first + 1) old read (handle_of c.feed_full.new.store)
    (g.S.Sink.view c.feed_full.new.out) c.in-Ok.bounds (first + 1) count
    (c.in-Ok-feed_full.ensures.feeds (first + 1) read old start (past first done) held head) fault new
    (λ further head. c.feed_files.ensures.feeds old start further held head)))

pub returns-clause-works : goal.returns-clause-works
returns-clause-works g c =
    let laws = g.met.I.Inputs g.world.𝓛 g.world.𝓜 g.world.𝓡 ((λ s x. x), (λ x. x), (λ x. x), λ x. x) in
    let files = c.args.files in
    let some = c.requires.fits.fit.some in
    record {
      keeps = keeps_then c.args.store.now c.feed_full.new.store _ c.feed_files.new.store c.in-Ok-feed_full.ensures.keeps
          c.feed_files.ensures.works.keeps;
      asked =
          asked_then g.I.Inputs.reads laws.reads_then
          (Among files.first files.count) c.args.inputs.now c.read_bounds_file.new.inputs c.feed_files.new.inputs
          (asked_more g.I.Inputs.reads laws.reads_then
          (Among files.first files.count) c.args.inputs.now c.args.inputs.now c.read_bounds_file.new.inputs files.first
          (asked_none g.I.Inputs.reads (Among files.first files.count) c.args.inputs.now (laws.reads_none c.args.inputs.now))
          c.read_bounds_file.ensures.reads.asked (omega arith, omega (arith, some)))
          (asked_among (λ asked. g.I.Inputs.reads c.read_bounds_file.new.inputs asked c.feed_files.new.inputs)
          (Among (files.first + 1) (files.count - 1)) (Among files.first files.count)
          (λ file among. (omega (arith, among.0), omega (arith, among.1, some))) c.feed_files.ensures.works.asked);
    }
