use Rattle.std.proofs.Common.{◌+◌, ◌-◌, ◌∙◌, ap, arith, length, length-append, ◌∷◌, [], None, Some}
use Rattle.update_flow.specs.Updater.{handle_of}
use Rattle.change_pipe.specs.Ends.{EndView}
use Rattle.updater.proofs.AheadRuns.{so_far_none, taken_all, taken_ends, taken_more}
use Rattle.updater.proofs.Keeping.{keeps_none, keeps_then}
use Rattle.updater.proofs.ahead.append_taken.Goals as goal

pub loop-file-init : goal.loop-file-init
loop-file-init g c =
    let none = ap (λ (end : EndView). length end.list) c.requires.ours in
    record {
      least = omega arith;
      within = omega arith;
      ours = ap (λ (end : EndView). end.home) c.requires.ours;
      many = omega (arith, none);
      keeps = keeps_none c.args.store.now;
      takes = c.requires.takes;
      so_far = λ own now taken. so_far_none c.args.bounds.now c.args.files.first c.args.files.count
          (c.args.files.first + c.args.files.count - c.args.files.first) (omega arith) own now (handle_of c.args.store.now)
          (g.S.Sink.view c.args.out.now) taken.later;
    }

pub overflow_sub-file : goal.overflow_sub-file
overflow_sub-file g c = omega (arith, c.loop-file.invariant.least)

pub returns-in-Err-clause-taken : goal.returns-in-Err-clause-taken
returns-in-Err-clause-taken g c =
    taken_ends c.args.bounds.now c.args.files.first c.args.files.count c.loop-file.file
    (c.args.files.first + c.args.files.count - c.loop-file.file) (c.args.files.first + c.args.files.count - (c.loop-file.file + 1))
    (omega (arith, c.loop-file-test.true)) (handle_of c.args.store.now) (handle_of c.loop-file.store)
    (handle_of c.append_parcel.new.store) (g.S.Sink.view c.args.out.now) (g.S.Sink.view c.loop-file.out)
    (g.S.Sink.view c.append_parcel.new.out) c.loop-file.taker.list c.take_when_ready-parcel.result c.loop-file.invariant.many
    c.loop-file.invariant.so_far c.take_when_ready-parcel.new.taker.list
    (ap (λ (end : EndView). end.list) c.take_when_ready-parcel.ensures.taken) c.in-Err.fault
    (c.in-Err.ensures.takes c.loop-file.invariant.takes) c.in-Err.ensures.leads

pub loop-file-preserved : goal.loop-file-preserved
loop-file-preserved g c =
    let many = c.loop-file.invariant.many in
    let size = ap (λ (end : EndView). length end.list) c.take_when_ready-parcel.ensures.taken
    ∙ length-append c.loop-file.taker.list (c.take_when_ready-parcel.result ∷ []) in
    record {
      least = omega (arith, c.loop-file.invariant.least);
      within = omega (arith, c.loop-file-test.true);
      ours = ap (λ (end : EndView). end.home) c.take_when_ready-parcel.ensures.taken;
      many = omega (arith, many, size);
      keeps = keeps_then c.args.store.now c.loop-file.store None c.append_parcel.new.store c.loop-file.invariant.keeps
          c.in-Ok.ensures.keeps;
      takes = c.in-Ok.ensures.takes c.loop-file.invariant.takes c.in-Ok.ensures.whole;
      so_far = taken_more c.args.bounds.now c.args.files.first c.args.files.count c.loop-file.file
          (c.args.files.first + c.args.files.count - c.loop-file.file) (c.args.files.first + c.args.files.count - (c.loop-file.file + 1))
          (omega (arith, c.loop-file-test.true)) (handle_of c.args.store.now) (handle_of c.loop-file.store)
          (handle_of c.append_parcel.new.store) (g.S.Sink.view c.args.out.now) (g.S.Sink.view c.loop-file.out)
          (g.S.Sink.view c.append_parcel.new.out) c.loop-file.taker.list c.take_when_ready-parcel.result c.loop-file.invariant.many
          c.loop-file.invariant.so_far c.take_when_ready-parcel.new.taker.list
          (ap (λ (end : EndView). end.list) c.take_when_ready-parcel.ensures.taken) c.in-Ok.ensures.whole c.in-Ok.ensures.leads
          c.in-Ok.ensures.local;
    }

pub returns-clause-taken : goal.returns-clause-taken
returns-clause-taken g c =
    taken_all c.args.bounds.now c.args.files.first c.args.files.count c.loop-file.file
    (c.args.files.first + c.args.files.count - c.loop-file.file) (omega (arith, c.loop-file-test.false))
    (omega (arith, c.loop-file-test.false, c.loop-file.invariant.within)) (handle_of c.args.store.now) (handle_of c.loop-file.store)
    (g.S.Sink.view c.args.out.now) (g.S.Sink.view c.loop-file.out) c.loop-file.taker.list c.loop-file.invariant.many
    c.loop-file.invariant.so_far

pub returns-in-Err-clause-keeps : goal.returns-in-Err-clause-keeps
returns-in-Err-clause-keeps g c =
    keeps_then c.args.store.now c.loop-file.store (Some c.in-Err.fault) c.append_parcel.new.store c.loop-file.invariant.keeps
    c.in-Err.ensures.keeps

pub returns-clause-keeps : goal.returns-clause-keeps
returns-clause-keeps g c = c.loop-file.invariant.keeps
