use Rattle.std.proofs.Common.{List, ℕ, ◌+◌, ◌∙◌, arith, refl, sym}
use Rattle.std.specs.Result.{result_err}
use Rattle.style_read.specs.Style.{StyleOf}
use Rattle.update_flow.specs.State.{formatted}
use Rattle.update_flow.specs.Handle.{view_of}
use Rattle.update_flow.specs.Updater.{handle_of}
use Rattle.run_promise.specs.Courses.{finished, imports, onward}
use Rattle.run_promise.specs.Files.{IsStyle}
use Rattle.run_promise.specs.Progress.{past}
use Rattle.updater.specs.FileReads.{Among}
use Rattle.run_promise.specs.World.{world}
use Rattle.updater.proofs.Asked.{asked_more, asked_none}
use Rattle.updater.proofs.StoreRuns.{already, first_read, first_unread, if_new, leads_ends, outdated_new}
use Rattle.updater.proofs.Keeping.{keeps_unread}
use Rattle.updater.proofs.commands.import.import_store.Goals as goal

pub returns-then-old-clause-goes_on : goal.returns-then-old-clause-goes_on
returns-then-old-clause-goes_on g c = λ old start done state head.
    outdated_new start done c.args.files.first old (g.I.Inputs.view c.args.inputs.now) (handle_of c.args.store.now)
    (g.S.Sink.view c.args.out.now) _ state head (sym c.old.ensures.is ∙ c.if-old.true)

pub returns-then-imported-clause-goes_on : goal.returns-then-imported-clause-goes_on
returns-then-imported-clause-goes_on g c = λ old start done state head.
    already start done c.args.files.first old (g.I.Inputs.view c.args.inputs.now) (handle_of c.args.store.now)
    (g.S.Sink.view c.args.out.now) _ state head (sym c.old.ensures.is ∙ c.if-old.false) refl (sym c.imported.ensures.is ∙ c.if-imported.true)

pub returns-in-Err-clause-goes_on : goal.returns-in-Err-clause-goes_on
returns-in-Err-clause-goes_on g c = λ old start done state head.
    let first = c.args.files.first in
    let files = g.I.Inputs.view c.args.inputs.now in
    let output = g.S.Sink.view c.args.out.now in
    if_new start done first old files (handle_of c.args.store.now) output _ _ _ state head (sym c.old.ensures.is ∙ c.if-old.false)
    (sym c.imported.ensures.is ∙ c.if-imported.false)
    (λ head. first_unread start done first old files (handle_of c.args.store.now) output (IsStyle first)
    (λ style. imports style c.args.buckets (first + 1) (onward finished)) formatted head
    (g.I.Inputs.view c.read_style_file.new.inputs) c.in-Err.fault c.in-Err.ensures.reads.err)

pub returns-in-Err-clause-works : goal.returns-in-Err-clause-works
returns-in-Err-clause-works g c =
    let laws = g.met.I.Inputs g.world.𝓛 g.world.𝓜 g.world.𝓡 ((λ s x. x), (λ x. x), (λ x. x), λ x. x) in
    let files = c.args.files in
    let fits = c.requires.fits.0.fit.some in
    record {
      keeps = keeps_unread _ _ c.in-Err.fault _ _ c.args.store.now c.in-Err.ensures.reads.err;
      asked =
          asked_more g.I.Inputs.reads laws.reads_then
          (Among files.first files.count) c.args.inputs.now c.args.inputs.now c.read_style_file.new.inputs files.first
          (asked_none g.I.Inputs.reads (Among files.first files.count) c.args.inputs.now (laws.reads_none c.args.inputs.now))
          c.read_style_file.ensures.reads.asked (omega arith, omega (arith, fits));
    }

pub overflow_add-files : goal.overflow_add-files
overflow_add-files g c =
    let some = c.requires.fits.0.fit.some in
    let few = c.requires.fits.0.fit.few in
    omega (arith, some, few)

pub import_file-requires-clause-buckets : goal.import_file-requires-clause-buckets
import_file-requires-clause-buckets g c κs within = c.requires.fits.2

pub returns-clause-goes_on : goal.returns-clause-goes_on
returns-clause-goes_on g c = λ old start done state head.
    let first = c.args.files.first in
    let files = g.I.Inputs.view c.args.inputs.now in
    let read = g.I.Inputs.view c.read_style_file.new.inputs in
    let output = g.S.Sink.view c.args.out.now in
    let last = g.I.Inputs.view c.import_file.new.inputs in
    let told = g.S.Sink.view c.import_file.new.out in
    let style : StyleOf × List ℕ = (c.in-Ok.style.style, c.in-Ok.style.bytes) in
    if_new start done first old files (handle_of c.args.store.now) output _ (result_err c.import_file.result)
    (world last (view_of (handle_of c.import_file.new.store)) told) state head (sym c.old.ensures.is ∙ c.if-old.false)
    (sym c.imported.ensures.is ∙ c.if-imported.false)
    (λ head. first_read start done first old files (handle_of c.args.store.now) output (IsStyle first)
    (λ style. imports style c.args.buckets (first + 1) (onward finished)) formatted head
    read style c.in-Ok.ensures.reads.ok (result_err c.import_file.result) (world last (view_of (handle_of c.import_file.new.store)) told)
    (λ head. leads_ends (λ further. imports style c.args.buckets (first + 1) (onward further)) (result_err c.import_file.result) start
    (past first done) (first + 1 + 1) old last (handle_of c.import_file.new.store) told
    (c.import_file.ensures.leads old start (past first done) head)))

pub returns-clause-works : goal.returns-clause-works
returns-clause-works g c =
    let laws = g.met.I.Inputs g.world.𝓛 g.world.𝓜 g.world.𝓡 ((λ s x. x), (λ x. x), (λ x. x), λ x. x) in
    let files = c.args.files in
    let two = c.requires.fits.1 in
    record {
      keeps = c.import_file.ensures.works.keeps;
      asked =
          asked_more g.I.Inputs.reads laws.reads_then
          (Among files.first files.count) c.args.inputs.now c.read_style_file.new.inputs c.import_file.new.inputs (files.first + 1)
          (asked_more g.I.Inputs.reads laws.reads_then
          (Among files.first files.count) c.args.inputs.now c.args.inputs.now c.read_style_file.new.inputs files.first
          (asked_none g.I.Inputs.reads (Among files.first files.count) c.args.inputs.now (laws.reads_none c.args.inputs.now))
          c.read_style_file.ensures.reads.asked (omega arith, omega (arith, two)))
          c.import_file.ensures.works.asked (omega arith, omega (arith, two));
    }
