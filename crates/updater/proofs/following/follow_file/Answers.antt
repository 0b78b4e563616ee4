use Rattle.std.proofs.Common.{Ok, None, Some, ap, ◌∙◌, arith}
use Rattle.update_flow.specs.Follower.{handle_of}
use Rattle.updater.proofs.FollowFiles.{first_within, last_within, lines_within, next_within, read_more, read_none, stops_within}
use Rattle.updater.proofs.FollowKeeps.{keeps_none, keeps_then}
use Rattle.updater.proofs.following.follow_file.Goals as goal

pub loop-reader-init : goal.loop-reader-init
loop-reader-init g c =
    let laws = g.met.I.Inputs g.world.𝓛 g.world.𝓜 g.world.𝓡 ((λ s x. x), (λ x. x), (λ x. x), λ x. x) in
    record {
      reading = record {
        going = c.new-reader.ensures.going;
        own = c.new-reader.ensures.file;
        limits = c.new-reader.ensures.limits ∙ c.standard-limits.ensures.numbers;
      };
      read = read_none g.I.Inputs.reads g.I.Inputs.view c.args.file c.args.inputs.now (laws.reads_none c.args.inputs.now);
      keeps = keeps_none c.args.store.now;
      turn = λ old start done state may head.
          first_within c.args.file start done state old (g.I.Inputs.view c.args.inputs.now) may c.new-reader.result
          c.new-reader.ensures.start
          c.new-reader.ensures.left (handle_of c.args.store.now) (g.S.Sink.view c.args.out.now) head;
    }

pub loop-reader-preserved : goal.loop-reader-preserved
loop-reader-preserved g c =
    let laws = g.met.I.Inputs g.world.𝓛 g.world.𝓜 g.world.𝓡 ((λ s x. x), (λ x. x), (λ x. x), λ x. x) in
    let own = c.loop-reader.invariant in
    record {
      reading = c.in-Ok-true.ensures.reading;
      read = read_more g.I.Inputs.reads g.I.Inputs.view c.args.file laws.reads_then c.args.inputs.now c.loop-reader.inputs
          c.follow_next.new.inputs own.read c.follow_next.ensures.works.read;
      keeps = keeps_then c.args.store.now c.loop-reader.store None c.follow_next.new.store own.keeps c.in-Ok-true.ensures.works.keeps;
      turn = λ old start done state may head.
          let turn = own.turn old start done state may head in
          next_within c.args.file start done state old (g.I.Inputs.view c.args.inputs.now) c.loop-reader.reader
          (g.I.Inputs.view c.loop-reader.inputs) (handle_of c.loop-reader.store) (g.S.Sink.view c.loop-reader.out) turn
          c.follow_next.new.reader (g.I.Inputs.view c.follow_next.new.inputs) (handle_of c.follow_next.new.store)
          (g.S.Sink.view c.follow_next.new.out) c.in-Ok-true.field-0 c.in-Ok-true.field-0-test
          (c.in-Ok-true.ensures.next (g.I.Inputs.view c.args.inputs.now) old start turn.further turn.state turn.may own.read.alone turn.head);
    }

pub loop-reader-smaller : goal.loop-reader-smaller
loop-reader-smaller g c =
    let reading = c.in-Ok-true.ensures.reading in
    let within = lines_within c.follow_next.new.reader reading.going reading.limits in
    let rise = c.in-Ok-true.ensures.lines (ap Ok c.in-Ok-true.field-0-test) in
    omega (arith, within, rise)

pub returns-in-Ok-false-clause-follows : goal.returns-in-Ok-false-clause-follows
returns-in-Ok-false-clause-follows g c = λ old start done state may head.
    let laws = g.met.I.Inputs g.world.𝓛 g.world.𝓜 g.world.𝓡 ((λ s x. x), (λ x. x), (λ x. x), λ x. x) in
    let own = c.loop-reader.invariant in
    let turn = own.turn old start done state may head in
    let read = read_more g.I.Inputs.reads g.I.Inputs.view c.args.file laws.reads_then c.args.inputs.now c.loop-reader.inputs
    c.follow_next.new.inputs own.read c.follow_next.ensures.works.read in
    last_within c.args.file start done state old (g.I.Inputs.view c.args.inputs.now) c.loop-reader.reader
    (g.I.Inputs.view c.loop-reader.inputs) (handle_of c.loop-reader.store) (g.S.Sink.view c.loop-reader.out) turn
    c.follow_next.new.reader (g.I.Inputs.view c.follow_next.new.inputs) (handle_of c.follow_next.new.store)
    (g.S.Sink.view c.follow_next.new.out) read.alone c.in-Ok-false.field-0 c.in-Ok-false.field-0-test
    (c.in-Ok-false.ensures.next (g.I.Inputs.view c.args.inputs.now) old start turn.further turn.state turn.may own.read.alone turn.head)

pub returns-in-Ok-false-clause-asked : goal.returns-in-Ok-false-clause-asked
returns-in-Ok-false-clause-asked g c =
    let laws = g.met.I.Inputs g.world.𝓛 g.world.𝓜 g.world.𝓡 ((λ s x. x), (λ x. x), (λ x. x), λ x. x) in
    (read_more g.I.Inputs.reads g.I.Inputs.view c.args.file laws.reads_then c.args.inputs.now c.loop-reader.inputs
    c.follow_next.new.inputs c.loop-reader.invariant.read c.follow_next.ensures.works.read).asked

pub returns-in-Ok-false-clause-keeps : goal.returns-in-Ok-false-clause-keeps
returns-in-Ok-false-clause-keeps g c =
    keeps_then c.args.store.now c.loop-reader.store None c.follow_next.new.store c.loop-reader.invariant.keeps
    c.in-Ok-false.ensures.works.keeps

pub returns-in-Err-clause-follows : goal.returns-in-Err-clause-follows
returns-in-Err-clause-follows g c = λ old start done state may head.
    let own = c.loop-reader.invariant in
    let turn = own.turn old start done state may head in
    stops_within c.args.file start done state old (g.I.Inputs.view c.args.inputs.now) c.loop-reader.reader
    (g.I.Inputs.view c.loop-reader.inputs) (handle_of c.loop-reader.store) (g.S.Sink.view c.loop-reader.out) turn
    c.follow_next.new.reader (g.I.Inputs.view c.follow_next.new.inputs) (handle_of c.follow_next.new.store)
    (g.S.Sink.view c.follow_next.new.out) c.in-Err.fault
    (c.in-Err.ensures.next (g.I.Inputs.view c.args.inputs.now) old start turn.further turn.state turn.may own.read.alone turn.head)

pub returns-in-Err-clause-asked : goal.returns-in-Err-clause-asked
returns-in-Err-clause-asked g c =
    let laws = g.met.I.Inputs g.world.𝓛 g.world.𝓜 g.world.𝓡 ((λ s x. x), (λ x. x), (λ x. x), λ x. x) in
    (read_more g.I.Inputs.reads g.I.Inputs.view c.args.file laws.reads_then c.args.inputs.now c.loop-reader.inputs
    c.follow_next.new.inputs c.loop-reader.invariant.read c.follow_next.ensures.works.read).asked

pub returns-in-Err-clause-keeps : goal.returns-in-Err-clause-keeps
returns-in-Err-clause-keeps g c =
    keeps_then c.args.store.now c.loop-reader.store (Some c.in-Err.fault) c.follow_next.new.store c.loop-reader.invariant.keeps
    c.in-Err.ensures.works.keeps
