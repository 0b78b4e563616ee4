use Rattle.std.proofs.Common.{◌-◌, ◌+◌, arith, None, Some}
use Rattle.update_flow.specs.Updater.{handle_of}
use Rattle.updater.specs.FileReads.{Among}
use Rattle.updater.proofs.AppendRuns.{first_version, next_version, ends_in_version, last_version}
use Rattle.updater.proofs.LocalLaws.{appends_begin, appends_end, appends_next}
use Rattle.updater.proofs.Asked.{asked_more, asked_none}
use Rattle.updater.proofs.Keeping.{keeps_none, keeps_then}
use Rattle.updater.proofs.versions.append_files.Goals as goal

pub loop-file-init : goal.loop-file-init
loop-file-init g c =
    let laws = g.met.I.Inputs g.world.𝓛 g.world.𝓜 g.world.𝓡 ((λ s x. x), (λ x. x), (λ x. x), λ x. x) in
    record {
      least = omega arith;
      within = omega arith;
      asked = asked_none g.I.Inputs.reads (Among c.args.files.first c.args.files.count) c.args.inputs.now
          (laws.reads_none c.args.inputs.now);
      keeps = keeps_none c.args.store.now;
      turn = λ old start done held head. first_version c.args.bounds.now held c.args.files.first c.args.files.count start done old
          (c.args.files.first + c.args.files.count - c.args.files.first) (omega arith)
          (g.I.Inputs.view c.args.inputs.now) (handle_of c.args.store.now) (g.S.Sink.view c.args.out.now) head;
      local = λ held pages is rests. appends_begin c.args.bounds.now held pages c.args.files.first (g.I.Inputs.view c.args.inputs.now)
          (handle_of c.args.store.now) is rests;
    }

pub overflow_sub-file : goal.overflow_sub-file
overflow_sub-file g c = omega (arith, c.loop-file.invariant.least)

pub returns-in-Err-clause-leads : goal.returns-in-Err-clause-leads
returns-in-Err-clause-leads g c = λ old start done held head.
    ends_in_version c.args.bounds.now held c.args.files.first c.args.files.count start done old c.loop-file.file
    (c.args.files.first + c.args.files.count - c.loop-file.file) (c.args.files.first + c.args.files.count - (c.loop-file.file + 1))
    (omega (arith, c.loop-file-test.true)) (g.I.Inputs.view c.loop-file.inputs) (handle_of c.loop-file.store)
    (g.S.Sink.view c.loop-file.out) (c.loop-file.invariant.turn old start done held head)
    (g.I.Inputs.view c.append_file.new.inputs) (handle_of c.append_file.new.store) (g.S.Sink.view c.append_file.new.out) c.in-Err.fault
    (c.args.files.first + c.args.files.count) c.in-Err.ensures.leads

pub returns-in-Err-clause-works : goal.returns-in-Err-clause-works
returns-in-Err-clause-works g c =
    let laws = g.met.I.Inputs g.world.𝓛 g.world.𝓜 g.world.𝓡 ((λ s x. x), (λ x. x), (λ x. x), λ x. x) in
    record {
      keeps = keeps_then c.args.store.now c.loop-file.store (Some c.in-Err.fault) c.append_file.new.store c.loop-file.invariant.keeps
          c.in-Err.ensures.works.keeps;
      asked = asked_more g.I.Inputs.reads laws.reads_then
          (Among c.args.files.first c.args.files.count) c.args.inputs.now c.loop-file.inputs c.append_file.new.inputs c.loop-file.file
          c.loop-file.invariant.asked c.append_file.ensures.works.asked
          (c.loop-file.invariant.least, omega (arith, c.loop-file-test.true));
    }

pub loop-file-preserved : goal.loop-file-preserved
loop-file-preserved g c =
    let laws = g.met.I.Inputs g.world.𝓛 g.world.𝓜 g.world.𝓡 ((λ s x. x), (λ x. x), (λ x. x), λ x. x) in
    record {
      least = omega (arith, c.loop-file.invariant.least);
      within = omega (arith, c.loop-file-test.true);
      asked = asked_more g.I.Inputs.reads laws.reads_then
          (Among c.args.files.first c.args.files.count) c.args.inputs.now c.loop-file.inputs c.append_file.new.inputs c.loop-file.file
          c.loop-file.invariant.asked c.append_file.ensures.works.asked
          (c.loop-file.invariant.least, omega (arith, c.loop-file-test.true));
      keeps = keeps_then c.args.store.now c.loop-file.store None c.append_file.new.store c.loop-file.invariant.keeps
          c.in-Ok.ensures.works.keeps;
      turn = λ old start done held head.
          next_version c.args.bounds.now held c.args.files.first c.args.files.count start done old c.loop-file.file
          (c.args.files.first + c.args.files.count - c.loop-file.file) (c.args.files.first + c.args.files.count - (c.loop-file.file + 1))
          (omega (arith, c.loop-file-test.true)) (g.I.Inputs.view c.loop-file.inputs) (handle_of c.loop-file.store)
          (g.S.Sink.view c.loop-file.out) (c.loop-file.invariant.turn old start done held head)
          (g.I.Inputs.view c.append_file.new.inputs) (handle_of c.append_file.new.store)
          (g.S.Sink.view c.append_file.new.out) c.in-Ok.ensures.leads;
      local = λ held pages is rests.
          appends_next c.args.bounds.now held pages c.args.files.first c.loop-file.file (g.I.Inputs.view c.args.inputs.now)
          (g.I.Inputs.view c.loop-file.inputs) (g.I.Inputs.view c.append_file.new.inputs)
          (handle_of c.args.store.now) (handle_of c.loop-file.store) (handle_of c.append_file.new.store)
          (c.loop-file.invariant.local held pages is rests) c.in-Ok.ensures.local;
    }

pub returns-clause-leads : goal.returns-clause-leads
returns-clause-leads g c = λ old start done held head.
    last_version c.args.bounds.now held c.args.files.first c.args.files.count start done old c.loop-file.file
    (c.args.files.first + c.args.files.count - c.loop-file.file) (c.args.files.first + c.args.files.count)
    (omega (arith, c.loop-file-test.false)) (omega (arith, c.loop-file-test.false, c.loop-file.invariant.within))
    (g.I.Inputs.view c.loop-file.inputs) (handle_of c.loop-file.store) (g.S.Sink.view c.loop-file.out)
    (c.loop-file.invariant.turn old start done held head)

pub returns-clause-works : goal.returns-clause-works
returns-clause-works g c =
    record { keeps = c.loop-file.invariant.keeps; asked = c.loop-file.invariant.asked }

pub returns-clause-local : goal.returns-clause-local
returns-clause-local g c = λ held pages is rests.
    appends_end c.args.bounds.now held pages c.args.files.first c.args.files.count c.loop-file.file (g.I.Inputs.view c.args.inputs.now)
    (g.I.Inputs.view c.loop-file.inputs) (handle_of c.args.store.now) (handle_of c.loop-file.store)
    (omega (arith, c.loop-file-test.false, c.loop-file.invariant.within)) (c.loop-file.invariant.local held pages is rests)
