use Rattle.std.proofs.Common.{◌+◌, ◌-◌, ◌∙◌, arith, refl, sym}
use Rattle.std.specs.Result.{result_err}
use Rattle.update_flow.specs.State.{imported}
use Rattle.update_flow.specs.Handle.{view_of}
use Rattle.update_flow.specs.Updater.{handle_of}
use Rattle.run_promise.proofs.AheadLaws.{ahead_among, none_ahead}
use Rattle.run_promise.specs.Courses.{appends, finished, onward}
use Rattle.run_promise.specs.Files.{IsBounds}
use Rattle.run_promise.specs.Progress.{past}
use Rattle.updater.specs.FileReads.{Among}
use Rattle.run_promise.specs.World.{world}
use Rattle.updater.proofs.Asked.{asked_among, asked_more, asked_none, asked_then}
use Rattle.updater.proofs.LocalLaws.{appends_all, on_ok_so}
use Rattle.updater.proofs.AheadRuns.{takes_changes}
use Rattle.updater.proofs.StoreRuns.{first_read, first_unread, if_there, leads_ends, not_yet, outdated_there}
use Rattle.updater.proofs.Keeping.{keeps_unread}
use Rattle.updater.proofs.commands.append.append_store.Goals as goal

pub returns-then-old-clause-goes_on : goal.returns-then-old-clause-goes_on
returns-then-old-clause-goes_on g c = (
  g.I.Inputs.view c.args.inputs.now,
  none_ahead _ (g.I.Inputs.view c.args.inputs.now),
  λ old start done state head.
      outdated_there start done c.args.files.first old (g.I.Inputs.view c.args.inputs.now) (handle_of c.args.store.now)
      (g.S.Sink.view c.args.out.now) _ state head (sym c.old.ensures.is ∙ c.if-old.true),
)

pub returns-then-not-imported-clause-goes_on : goal.returns-then-not-imported-clause-goes_on
returns-then-not-imported-clause-goes_on g c = (
  g.I.Inputs.view c.args.inputs.now,
  none_ahead _ (g.I.Inputs.view c.args.inputs.now),
  λ old start done state head.
      not_yet start done c.args.files.first old (g.I.Inputs.view c.args.inputs.now) (handle_of c.args.store.now)
      (g.S.Sink.view c.args.out.now) _ state head (sym c.old.ensures.is ∙ c.if-old.false)
      (sym c.imported.ensures.is ∙ c.if-not-imported.true),
)

pub returns-in-Err-clause-goes_on : goal.returns-in-Err-clause-goes_on
returns-in-Err-clause-goes_on g c = (
  g.I.Inputs.view c.read_bounds_file.new.inputs,
  none_ahead _ (g.I.Inputs.view c.read_bounds_file.new.inputs),
  λ old start done state head.
      let first = c.args.files.first in
      let files = g.I.Inputs.view c.args.inputs.now in
      let output = g.S.Sink.view c.args.out.now in
      if_there start done first old files (handle_of c.args.store.now) output _ _ _ state head (sym c.old.ensures.is ∙ c.if-old.false) refl
      (sym c.imported.ensures.is ∙ c.if-not-imported.false)
      (λ held head. first_unread start done first old files (handle_of c.args.store.now) output (IsBounds first)
      (λ bounds. appends bounds held (first + 1) (c.args.files.count - 1) (onward finished)) (imported held) head
      (g.I.Inputs.view c.read_bounds_file.new.inputs) c.in-Err.fault c.in-Err.ensures.reads.err),
)

pub returns-in-Err-clause-works : goal.returns-in-Err-clause-works
returns-in-Err-clause-works g c =
    let laws = g.met.I.Inputs g.world.𝓛 g.world.𝓜 g.world.𝓡 ((λ s x. x), (λ x. x), (λ x. x), λ x. x) in
    let files = c.args.files in
    let some = c.requires.fits.0.fit.some in
    record {
      keeps = keeps_unread _ _ c.in-Err.fault _ _ c.args.store.now c.in-Err.ensures.reads.err;
      asked =
          asked_more g.I.Inputs.reads laws.reads_then
          (Among files.first files.count) c.args.inputs.now c.args.inputs.now c.read_bounds_file.new.inputs files.first
          (asked_none g.I.Inputs.reads (Among files.first files.count) c.args.inputs.now (laws.reads_none c.args.inputs.now))
          c.read_bounds_file.ensures.reads.asked (omega arith, omega (arith, some));
    }

pub overflow_add-changes : goal.overflow_add-changes
overflow_add-changes g c =
    let some = c.requires.fits.0.fit.some in
    let few = c.requires.fits.0.fit.few in
    omega (arith, some, few)

pub overflow_sub-changes : goal.overflow_sub-changes
overflow_sub-changes g c = let some = c.requires.fits.0.fit.some in omega (arith, some)

pub returns-clause-goes_on : goal.returns-clause-goes_on
returns-clause-goes_on g c =
    let own = c.append_ahead.ensures.ahead in
    let some = c.requires.fits.0.fit.some in (
      own.seen,
      ahead_among _ _ own.seen (g.I.Inputs.view c.append_ahead.new.inputs)
          (λ file may. record { some = may.0; own = may.1; from = may.2.0; to = omega (arith, may.2.1, some) }) own.read,
      λ old start done state head.
          let first = c.args.files.first in
          let files = g.I.Inputs.view c.args.inputs.now in
          let read = g.I.Inputs.view c.read_bounds_file.new.inputs in
          let output = g.S.Sink.view c.args.out.now in
          let last = own.seen in
          let told = g.S.Sink.view c.append_ahead.new.out in
          let count = c.args.files.count - 1 in
          if_there start done first old files (handle_of c.args.store.now) output _ (result_err c.append_ahead.result)
          (world last (view_of (handle_of c.append_ahead.new.store)) told) state head (sym c.old.ensures.is ∙ c.if-old.false) refl
          (sym c.imported.ensures.is ∙ c.if-not-imported.false)
          (λ held head. first_read start done first old files (handle_of c.args.store.now) output (IsBounds first)
          (λ bounds. appends bounds held (first + 1) count (onward finished)) (imported held) head
          read c.in-Ok.bounds c.in-Ok.ensures.reads.ok (result_err c.append_ahead.result)
          (world last (view_of (handle_of c.append_ahead.new.store)) told)
          (λ head. leads_ends (λ further. appends c.in-Ok.bounds held (first + 1) count (onward further))
          (result_err c.append_ahead.result) start
          (past first done) (first + 1 + count) old last (handle_of c.append_ahead.new.store) told
          (own.leads old start (past first done) held head))),
    )

pub returns-clause-works : goal.returns-clause-works
returns-clause-works g c =
    let laws = g.met.I.Inputs g.world.𝓛 g.world.𝓜 g.world.𝓡 ((λ s x. x), (λ x. x), (λ x. x), λ x. x) in
    let files = c.args.files in
    let some = c.requires.fits.0.fit.some in
    record {
      keeps = c.append_ahead.ensures.works.keeps;
      asked =
          asked_then g.I.Inputs.reads laws.reads_then
          (Among files.first files.count) c.args.inputs.now c.read_bounds_file.new.inputs c.append_ahead.new.inputs
          (asked_more g.I.Inputs.reads laws.reads_then
          (Among files.first files.count) c.args.inputs.now c.args.inputs.now c.read_bounds_file.new.inputs files.first
          (asked_none g.I.Inputs.reads (Among files.first files.count) c.args.inputs.now (laws.reads_none c.args.inputs.now))
          c.read_bounds_file.ensures.reads.asked (omega arith, omega (arith, some)))
          (asked_among (λ asked. g.I.Inputs.reads c.read_bounds_file.new.inputs asked c.append_ahead.new.inputs)
          (Among (files.first + 1) (files.count - 1)) (Among files.first files.count)
          (λ file among. (omega (arith, among.0), omega (arith, among.1, some))) c.append_ahead.ensures.works.asked);
    }

pub returns-clause-local : goal.returns-clause-local
returns-clause-local g c = on_ok_so c.append_ahead.result _ _ (λ there held pages is rests.
    appends_all c.args.files held pages c.in-Ok.bounds (g.I.Inputs.view c.args.inputs.now) (g.I.Inputs.view c.read_bounds_file.new.inputs)
    (view_of (handle_of c.args.store.now)).reads
    (view_of (handle_of c.append_ahead.new.store)).reads c.in-Ok.ensures.reads.ok (there held pages is rests)) c.append_ahead.ensures.local

pub append_ahead-requires-clause-takes : goal.append_ahead-requires-clause-takes
append_ahead-requires-clause-takes g c = λ lifetimes fit. takes_changes (handle_of c.args.store.now)
    (sym c.imported.ensures.is ∙ c.if-not-imported.false)
    (sym c.old.ensures.is ∙ c.if-old.false)
