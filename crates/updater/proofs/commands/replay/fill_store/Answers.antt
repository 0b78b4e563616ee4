use Rattle.std.proofs.Common.{◌+◌, ◌∙◌, arith, sym}
use Rattle.std.specs.Result.{result_err}
use Rattle.update_flow.specs.Handle.{view_of}
use Rattle.update_flow.specs.Updater.{handle_of}
use Rattle.run_promise.specs.Courses.{appending, fills, telling}
use Rattle.updater.specs.FileReads.{Among}
use Rattle.run_promise.specs.World.{world}
use Rattle.updater.proofs.Asked.{asked_among, asked_more, asked_none, asked_then}
use Rattle.updater.proofs.FillRuns.{stops_appending, tells_whole}
use Rattle.updater.proofs.OptionLaws.{default_power}
use Rattle.updater.proofs.StoreRuns.{if_made, never_blank}
use Rattle.updater.proofs.Keeping.{keeps_then}
use Rattle.updater.proofs.commands.replay.fill_store.Goals as goal

pub returns-then-imported-clause-goes_on : goal.returns-then-imported-clause-goes_on
returns-then-imported-clause-goes_on g c = λ old start done state head.
    never_blank start done c.args.first old (g.I.Inputs.view c.args.inputs.now) (handle_of c.args.store.now) (g.S.Sink.view c.args.out.now)
    (fills (c.args.style.style, c.args.style.bytes) c.args.bounds.now c.args.first c.args.changes) state head
    (sym c.imported.ensures.is ∙ c.if-imported.true)

pub import_file-requires-clause-buckets : goal.import_file-requires-clause-buckets
import_file-requires-clause-buckets g c κs within = record { power = default_power; limit = omega arith }

pub returns-in-Err-clause-goes_on : goal.returns-in-Err-clause-goes_on
returns-in-Err-clause-goes_on g c = λ old start done state head.
    if_made start done c.args.first old (g.I.Inputs.view c.args.inputs.now) (handle_of c.args.store.now) (g.S.Sink.view c.args.out.now)
    (fills (c.args.style.style, c.args.style.bytes) c.args.bounds.now c.args.first c.args.changes) _ _ state head
    (sym c.imported.ensures.is ∙ c.if-imported.false)
    (λ head. c.in-Err.ensures.leads old start done head
    (appending c.args.bounds.now (c.args.first + 1) c.args.changes (telling c.args.bounds.now.zoom)))

pub returns-in-Err-clause-works : goal.returns-in-Err-clause-works
returns-in-Err-clause-works g c =
    let laws = g.met.I.Inputs g.world.𝓛 g.world.𝓜 g.world.𝓡 ((λ s x. x), (λ x. x), (λ x. x), λ x. x) in
    let among = Among c.args.first (c.args.changes + 1) in
    record {
      keeps = c.in-Err.ensures.works.keeps;
      asked =
          asked_more g.I.Inputs.reads laws.reads_then among c.args.inputs.now c.args.inputs.now c.import_file.new.inputs c.args.first
          (asked_none g.I.Inputs.reads among c.args.inputs.now (laws.reads_none c.args.inputs.now)) c.import_file.ensures.works.asked
          (omega arith, omega arith);
    }

pub returns-in-Err-append_files-clause-goes_on : goal.returns-in-Err-append_files-clause-goes_on
returns-in-Err-append_files-clause-goes_on g c = λ old start done state head.
    let files = g.I.Inputs.view c.import_file.new.inputs in
    let output = g.S.Sink.view c.import_file.new.out in
    if_made start done c.args.first old (g.I.Inputs.view c.args.inputs.now) (handle_of c.args.store.now) (g.S.Sink.view c.args.out.now)
    (fills (c.args.style.style, c.args.style.bytes) c.args.bounds.now c.args.first c.args.changes) _ _ state head
    (sym c.imported.ensures.is ∙ c.if-imported.false)
    (λ head. stops_appending (c.args.style.style, c.args.style.bytes) c.args.bounds.now c.args.first c.args.changes start done old files
    (handle_of c.import_file.new.store) output
    (c.in-Ok.ensures.leads old start done head) c.in-Err-append_files.fault (c.args.first + 1 + c.args.changes)
    (g.I.Inputs.view c.append_files.new.inputs) (handle_of c.append_files.new.store)
    (g.S.Sink.view c.append_files.new.out) c.in-Err-append_files.ensures.leads)

pub returns-in-Err-append_files-clause-works : goal.returns-in-Err-append_files-clause-works
returns-in-Err-append_files-clause-works g c =
    let laws = g.met.I.Inputs g.world.𝓛 g.world.𝓜 g.world.𝓡 ((λ s x. x), (λ x. x), (λ x. x), λ x. x) in
    let among = Among c.args.first (c.args.changes + 1) in
    record {
      keeps = keeps_then c.args.store.now c.import_file.new.store _ c.append_files.new.store c.in-Ok.ensures.works.keeps
          c.in-Err-append_files.ensures.works.keeps;
      asked =
          asked_then g.I.Inputs.reads laws.reads_then among c.args.inputs.now c.import_file.new.inputs c.append_files.new.inputs
          (asked_more g.I.Inputs.reads laws.reads_then among c.args.inputs.now c.args.inputs.now c.import_file.new.inputs c.args.first
          (asked_none g.I.Inputs.reads among c.args.inputs.now (laws.reads_none c.args.inputs.now)) c.import_file.ensures.works.asked
          (omega arith, omega arith))
          (asked_among (λ asked. g.I.Inputs.reads c.import_file.new.inputs asked c.append_files.new.inputs)
          (Among (c.args.first + 1) c.args.changes) among
          (λ file own. (omega (arith, own.0), omega (arith, own.1))) c.append_files.ensures.works.asked);
    }

pub returns-clause-goes_on : goal.returns-clause-goes_on
returns-clause-goes_on g c = λ old start done state head.
    let files = g.I.Inputs.view c.import_file.new.inputs in
    let output = g.S.Sink.view c.import_file.new.out in
    let read = g.I.Inputs.view c.append_files.new.inputs in
    if_made start done c.args.first old (g.I.Inputs.view c.args.inputs.now) (handle_of c.args.store.now) (g.S.Sink.view c.args.out.now)
    (fills (c.args.style.style, c.args.style.bytes) c.args.bounds.now c.args.first c.args.changes) (result_err c.tell_whole.result)
    (world read (view_of (handle_of c.tell_whole.new.store)) (g.S.Sink.view c.tell_whole.new.out)) state head
    (sym c.imported.ensures.is ∙ c.if-imported.false)
    (λ head. tells_whole (c.args.style.style, c.args.style.bytes) c.args.bounds.now c.args.first c.args.changes start done old files
    (handle_of c.import_file.new.store) output
    (c.in-Ok.ensures.leads old start done head) (c.args.first + 1 + c.args.changes) read (handle_of c.append_files.new.store)
    (g.S.Sink.view c.append_files.new.out) c.in-Ok-append_files.ensures.leads
    c.zoom.result c.zoom.ensures.zoom (result_err c.tell_whole.result)
    (world read (view_of (handle_of c.tell_whole.new.store)) (g.S.Sink.view c.tell_whole.new.out))
    (λ old start done held head. c.tell_whole.ensures.goes_on old read start done held (c.args.first + 1 + c.args.changes) head))

pub returns-clause-works : goal.returns-clause-works
returns-clause-works g c =
    let laws = g.met.I.Inputs g.world.𝓛 g.world.𝓜 g.world.𝓡 ((λ s x. x), (λ x. x), (λ x. x), λ x. x) in
    let among = Among c.args.first (c.args.changes + 1) in
    record {
      keeps = keeps_then c.args.store.now c.import_file.new.store _ c.tell_whole.new.store c.in-Ok.ensures.works.keeps
          (keeps_then c.import_file.new.store c.append_files.new.store _ c.tell_whole.new.store
          c.in-Ok-append_files.ensures.works.keeps c.tell_whole.ensures.keeps);
      asked =
          asked_then g.I.Inputs.reads laws.reads_then among c.args.inputs.now c.import_file.new.inputs c.append_files.new.inputs
          (asked_more g.I.Inputs.reads laws.reads_then among c.args.inputs.now c.args.inputs.now c.import_file.new.inputs c.args.first
          (asked_none g.I.Inputs.reads among c.args.inputs.now (laws.reads_none c.args.inputs.now)) c.import_file.ensures.works.asked
          (omega arith, omega arith))
          (asked_among (λ asked. g.I.Inputs.reads c.import_file.new.inputs asked c.append_files.new.inputs)
          (Among (c.args.first + 1) c.args.changes) among
          (λ file own. (omega (arith, own.0), omega (arith, own.1))) c.append_files.ensures.works.asked);
    }
