use Rattle.std.proofs.Common.{◌-◌, ◌+◌, None, Some, arith}
use Rattle.update_flow.specs.Follower.{handle_of}
use Rattle.updater.specs.FileReads.{Among}
use Rattle.updater.proofs.Asked.{asked_more, asked_none}
use Rattle.updater.proofs.FollowFiles.{ends_in_following, first_following, last_following, next_following}
use Rattle.updater.proofs.FollowKeeps.{keeps_none, keeps_then}
use Rattle.updater.proofs.following.follow_files.Goals as goal

pub loop-file-init : goal.loop-file-init
loop-file-init g c =
    let laws = g.met.I.Inputs g.world.𝓛 g.world.𝓜 g.world.𝓡 ((λ s x. x), (λ x. x), (λ x. x), λ x. x) in
    record {
      least = omega arith;
      within = omega arith;
      asked = asked_none g.I.Inputs.reads (Among c.args.files.first c.args.files.count) c.args.inputs.now
          (laws.reads_none c.args.inputs.now);
      keeps = keeps_none c.args.store.now;
      turn = λ old start done state may head. first_following c.args.files.first c.args.files.count start done state old may
          (c.args.files.first + c.args.files.count - c.args.files.first) (omega arith)
          (g.I.Inputs.view c.args.inputs.now) (handle_of c.args.store.now) (g.S.Sink.view c.args.out.now) head;
    }

pub loop-file-preserved : goal.loop-file-preserved
loop-file-preserved g c =
    let laws = g.met.I.Inputs g.world.𝓛 g.world.𝓜 g.world.𝓡 ((λ s x. x), (λ x. x), (λ x. x), λ x. x) in
    record {
      least = omega (arith, c.loop-file.invariant.least);
      within = omega (arith, c.loop-file-test.true);
      asked = asked_more g.I.Inputs.reads laws.reads_then
          (Among c.args.files.first c.args.files.count) c.args.inputs.now c.loop-file.inputs c.follow_file.new.inputs c.loop-file.file
          c.loop-file.invariant.asked c.follow_file.ensures.asked
          (c.loop-file.invariant.least, omega (arith, c.loop-file-test.true));
      keeps = keeps_then c.args.store.now c.loop-file.store None c.follow_file.new.store c.loop-file.invariant.keeps
          c.in-Ok.ensures.keeps;
      turn = λ old start done state may head.
          next_following c.args.files.first c.args.files.count start done state old c.loop-file.file
          (c.args.files.first + c.args.files.count - c.loop-file.file) (c.args.files.first + c.args.files.count - (c.loop-file.file + 1))
          (omega (arith, c.loop-file-test.true)) (g.I.Inputs.view c.loop-file.inputs) (handle_of c.loop-file.store)
          (g.S.Sink.view c.loop-file.out) (c.loop-file.invariant.turn old start done state may head)
          (g.I.Inputs.view c.follow_file.new.inputs) (handle_of c.follow_file.new.store)
          (g.S.Sink.view c.follow_file.new.out) c.in-Ok.ensures.follows;
    }

pub returns-in-Err-clause-follows : goal.returns-in-Err-clause-follows
returns-in-Err-clause-follows g c = λ old start done state may head.
    ends_in_following c.args.files.first c.args.files.count start done state old c.loop-file.file
    (c.args.files.first + c.args.files.count - c.loop-file.file) (c.args.files.first + c.args.files.count - (c.loop-file.file + 1))
    (omega (arith, c.loop-file-test.true)) (g.I.Inputs.view c.loop-file.inputs) (handle_of c.loop-file.store)
    (g.S.Sink.view c.loop-file.out) (c.loop-file.invariant.turn old start done state may head)
    (g.I.Inputs.view c.follow_file.new.inputs) (handle_of c.follow_file.new.store) (g.S.Sink.view c.follow_file.new.out) c.in-Err.fault
    c.in-Err.ensures.follows

pub returns-in-Err-clause-works : goal.returns-in-Err-clause-works
returns-in-Err-clause-works g c =
    let laws = g.met.I.Inputs g.world.𝓛 g.world.𝓜 g.world.𝓡 ((λ s x. x), (λ x. x), (λ x. x), λ x. x) in
    record {
      keeps = keeps_then c.args.store.now c.loop-file.store (Some c.in-Err.fault) c.follow_file.new.store c.loop-file.invariant.keeps
          c.in-Err.ensures.keeps;
      asked = asked_more g.I.Inputs.reads laws.reads_then
          (Among c.args.files.first c.args.files.count) c.args.inputs.now c.loop-file.inputs c.follow_file.new.inputs c.loop-file.file
          c.loop-file.invariant.asked c.follow_file.ensures.asked
          (c.loop-file.invariant.least, omega (arith, c.loop-file-test.true));
    }

pub returns-clause-follows : goal.returns-clause-follows
returns-clause-follows g c = λ old start done state may head.
    last_following c.args.files.first c.args.files.count start done state old c.loop-file.file
    (c.args.files.first + c.args.files.count - c.loop-file.file) (omega (arith, c.loop-file-test.false))
    (g.I.Inputs.view c.loop-file.inputs) (handle_of c.loop-file.store) (g.S.Sink.view c.loop-file.out)
    (c.loop-file.invariant.turn old start done state may head)

pub returns-clause-works : goal.returns-clause-works
returns-clause-works g c = record { keeps = c.loop-file.invariant.keeps; asked = c.loop-file.invariant.asked }
