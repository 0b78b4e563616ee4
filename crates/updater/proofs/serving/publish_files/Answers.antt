use Rattle.std.proofs.Common.{◌-◌, ◌+◌, ◌∙◌, arith, refl, None, Some}
use Rattle.update_flow.specs.Updater.{handle_of}
use Rattle.updater.specs.FileReads.{Among}
use Rattle.updater.proofs.Asked.{asked_more, asked_none}
use Rattle.updater.proofs.ServeRuns.{ends_in_serving, first_serving, last_serving, next_serving}
use Rattle.updater.proofs.Keeping.{keeps_none, keeps_then}
use Rattle.updater.proofs.serving.publish_files.Goals as goal

pub loop-file-init : goal.loop-file-init
loop-file-init g c =
    let laws = g.met.I.Inputs g.world.𝓛 g.world.𝓜 g.world.𝓡 ((λ s x. x), (λ x. x), (λ x. x), λ x. x) in
    record {
      least = omega arith;
      within = omega arith;
      asked = asked_none g.I.Inputs.reads (Among c.args.files.first c.args.files.count) c.args.inputs.now
          (laws.reads_none c.args.inputs.now);
      keeps = keeps_none c.args.store.now;
      begin = refl;
      shown = c.requires.shown;
      turn = λ old start done held asked readers head.
          first_serving c.args.bounds.now asked readers held c.args.files.first c.args.files.count start done old c.args.publisher.now.front
          (c.args.files.first + c.args.files.count - c.args.files.first) (omega arith)
          (g.I.Inputs.view c.args.inputs.now) (handle_of c.args.store.now) (g.S.Sink.view c.args.out.now) head;
    }

pub overflow_sub-file : goal.overflow_sub-file
overflow_sub-file g c = omega (arith, c.loop-file.invariant.least)

pub returns-in-Err-clause-serves : goal.returns-in-Err-clause-serves
returns-in-Err-clause-serves g c = record {
  each = λ old start done held asked readers head.
      ends_in_serving c.args.bounds.now asked readers held c.args.files.first c.args.files.count start done old c.args.publisher.now.front
      c.loop-file.file (c.args.files.first + c.args.files.count - c.loop-file.file)
      (c.args.files.first + c.args.files.count - (c.loop-file.file + 1))
      (omega (arith, c.loop-file-test.true)) (g.I.Inputs.view c.loop-file.inputs) (handle_of c.loop-file.store)
      (g.S.Sink.view c.loop-file.out) c.loop-file.publisher.front c.publish_file.new.publisher.front
      (c.loop-file.invariant.turn old start done held asked readers head)
      (g.I.Inputs.view c.publish_file.new.inputs) (handle_of c.publish_file.new.store)
      (g.S.Sink.view c.publish_file.new.out) c.in-Err.fault c.in-Err.ensures.publishes;
}

pub returns-in-Err-clause-works : goal.returns-in-Err-clause-works
returns-in-Err-clause-works g c =
    let laws = g.met.I.Inputs g.world.𝓛 g.world.𝓜 g.world.𝓡 ((λ s x. x), (λ x. x), (λ x. x), λ x. x) in
    record {
      keeps = keeps_then c.args.store.now c.loop-file.store (Some c.in-Err.fault) c.publish_file.new.store c.loop-file.invariant.keeps
          c.in-Err.ensures.works.keeps;
      asked = asked_more g.I.Inputs.reads laws.reads_then
          (Among c.args.files.first c.args.files.count) c.args.inputs.now c.loop-file.inputs c.publish_file.new.inputs c.loop-file.file
          c.loop-file.invariant.asked c.publish_file.ensures.works.asked
          (c.loop-file.invariant.least, omega (arith, c.loop-file-test.true));
    }

pub loop-file-preserved : goal.loop-file-preserved
loop-file-preserved g c =
    let laws = g.met.I.Inputs g.world.𝓛 g.world.𝓜 g.world.𝓡 ((λ s x. x), (λ x. x), (λ x. x), λ x. x) in
    record {
      least = omega (arith, c.loop-file.invariant.least);
      within = omega (arith, c.loop-file-test.true);
      asked = asked_more g.I.Inputs.reads laws.reads_then
          (Among c.args.files.first c.args.files.count) c.args.inputs.now c.loop-file.inputs c.publish_file.new.inputs c.loop-file.file
          c.loop-file.invariant.asked c.publish_file.ensures.works.asked
          (c.loop-file.invariant.least, omega (arith, c.loop-file-test.true));
      keeps = keeps_then c.args.store.now c.loop-file.store None c.publish_file.new.store c.loop-file.invariant.keeps
          c.in-Ok.ensures.works.keeps;
      begin = c.publish_file.ensures.front.begin ∙ c.loop-file.invariant.begin;
      shown = c.in-Ok.ensures.front.shown;
      turn = λ old start done held asked readers head.
          next_serving c.args.bounds.now asked readers held c.args.files.first c.args.files.count start done old c.args.publisher.now.front
          c.loop-file.file (c.args.files.first + c.args.files.count - c.loop-file.file)
          (c.args.files.first + c.args.files.count - (c.loop-file.file + 1))
          (omega (arith, c.loop-file-test.true)) (g.I.Inputs.view c.loop-file.inputs) (handle_of c.loop-file.store)
          (g.S.Sink.view c.loop-file.out) c.loop-file.publisher.front c.publish_file.new.publisher.front
          (c.loop-file.invariant.turn old start done held asked readers head)
          (g.I.Inputs.view c.publish_file.new.inputs) (handle_of c.publish_file.new.store)
          (g.S.Sink.view c.publish_file.new.out) c.in-Ok.ensures.publishes;
    }

pub returns-clause-serves : goal.returns-clause-serves
returns-clause-serves g c = record {
  each = λ old start done held asked readers head.
      last_serving c.args.bounds.now asked readers held c.args.files.first c.args.files.count start done old c.args.publisher.now.front
      c.loop-file.file
      (c.args.files.first + c.args.files.count - c.loop-file.file) (c.args.files.first + c.args.files.count)
      (omega (arith, c.loop-file-test.false)) (omega (arith, c.loop-file-test.false, c.loop-file.invariant.within))
      (g.I.Inputs.view c.loop-file.inputs) (handle_of c.loop-file.store) (g.S.Sink.view c.loop-file.out) c.loop-file.publisher.front
      (c.loop-file.invariant.turn old start done held asked readers head);
}

pub returns-clause-works : goal.returns-clause-works
returns-clause-works g c =
    record { keeps = c.loop-file.invariant.keeps; asked = c.loop-file.invariant.asked }

pub returns-in-Err-clause-front : goal.returns-in-Err-clause-front
returns-in-Err-clause-front g c =
    record { begin = c.publish_file.ensures.front.begin ∙ c.loop-file.invariant.begin; shown = tt }

pub returns-clause-front : goal.returns-clause-front
returns-clause-front g c = record { begin = c.loop-file.invariant.begin; shown = c.loop-file.invariant.shown }
