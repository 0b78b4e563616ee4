use Rattle.std.proofs.Common.{length, sym, subst, ap, arith}
use Rattle.std.proofs.lemmas.Grind.{common_steps}
use Rattle.opl_files.specs.declared.scan.TheConstants.{PIECE}
use Rattle.object_fold.specs.Keeps.{TakesNext}
use Rattle.opl_files.proofs.Pieces.{on_err, reads_nothing, reads_within, read_nothing, read_more, read_comes_to, read_again, read_never}
use Rattle.opl_files.proofs.Pieces.{stops_at_start, stops_in_time}
use Rattle.opl_files.proofs.scan.scan_file.Goals as goal

-- before the first read

pub returns-in_err-buffer-clause-left : goal.returns-in_err-buffer-clause-left
returns-in_err-buffer-clause-left g c = on_err c.from_residual.result _
    (stops_at_start c.args.limits.now ((g.I.Inputs.view c.args.inputs.now).left c.args.file))

pub returns-in_err-buffer-clause-read : goal.returns-in_err-buffer-clause-read
returns-in_err-buffer-clause-read g c =
    let laws = g.met.I.Inputs g.world.𝓛 g.world.𝓜 g.world.𝓡 ((λ s x. x), (λ x. x), (λ x. x), λ x. x) in
    read_never g.I.Inputs.reads g.I.Inputs.view c.args.file laws.reads_none c.args.inputs.now

pub loop-progress-init : goal.loop-progress-init
loop-progress-init g c =
    let laws = g.met.I.Inputs g.world.𝓛 g.world.𝓜 g.world.𝓡 ((λ s x. x), (λ x. x), (λ x. x), λ x. x) in
    let start = (g.I.Inputs.view c.args.inputs.now).left c.args.file in
    let read = read_nothing g.K.Keeper.after c.args.limits.now c.args.keeper.now c.new-progress.result c.new-progress.ensures.start start in
    record {
      some = c.in_ok-buffer.ensures.some;
      room = c.in_ok-buffer.ensures.room;
      ready = record {
        ready = c.new-progress.ensures.ready;
        next = subst (λ last. TakesNext g.K.Keeper.takes last c.args.keeper.now) (sym c.new-progress.ensures.first) c.requires.takes;
      };
      entries = read_comes_to g.K.Keeper.after c.args.limits.now c.args.keeper.now c.new-progress.result c.args.keeper.now start start read;
      read = read;
      alone = read_never g.I.Inputs.reads g.I.Inputs.view c.args.file laws.reads_none c.args.inputs.now;
    }

-- one more

pub returns-in_err-read_on-clause-left : goal.returns-in_err-read_on-clause-left
returns-in_err-read_on-clause-left g c =
    let start = (g.I.Inputs.view c.args.inputs.now).left c.args.file in
    let left = (g.I.Inputs.view c.loop-progress.inputs).left c.args.file in
    let rest = (g.I.Inputs.view c.read_on.new.inputs).left c.args.file in
    on_err c.from_residual-in_err-read_on.result _
    (stops_in_time g.K.Keeper.after c.args.limits.now c.args.keeper.now c.loop-progress.progress c.loop-progress.keeper start left rest
    c.loop-progress.invariant.ready.ready c.loop-progress.invariant.read
    (reads_within (length c.deref_mut.result.now) PIECE left rest
    (omega (arith, ap length c.deref_mut.ensures.value, c.loop-progress.invariant.room)) c.in_err-read_on.ensures.left))

pub returns-in_err-read_on-clause-read : goal.returns-in_err-read_on-clause-read
returns-in_err-read_on-clause-read g c =
    let laws = g.met.I.Inputs g.world.𝓛 g.world.𝓜 g.world.𝓡 ((λ s x. x), (λ x. x), (λ x. x), λ x. x) in
    read_again g.I.Inputs.reads g.I.Inputs.view c.args.file laws.reads_then c.args.inputs.now c.loop-progress.inputs c.read_on.new.inputs
    c.loop-progress.invariant.alone c.read_on.ensures.read

pub loop-progress-preserved : goal.loop-progress-preserved
loop-progress-preserved g c =
    let laws = g.met.I.Inputs g.world.𝓛 g.world.𝓜 g.world.𝓡 ((λ s x. x), (λ x. x), (λ x. x), λ x. x) in
    let start = (g.I.Inputs.view c.args.inputs.now).left c.args.file in
    let left = (g.I.Inputs.view c.loop-progress.inputs).left c.args.file in
    let rest = (g.I.Inputs.view c.read_on.new.inputs).left c.args.file in
    let read = read_more g.K.Keeper.after c.args.limits.now c.args.keeper.now c.loop-progress.progress c.loop-progress.keeper
    c.read_on.new.progress c.read_on.new.keeper start left rest
    c.loop-progress.invariant.read c.in_ok-read_on.ensures.piece in
    record {
      ready = c.in_ok-read_on.ensures.ready;
      some = grind (arith, common_steps);
      room = grind (arith, common_steps);
      entries = read_comes_to g.K.Keeper.after c.args.limits.now c.args.keeper.now c.read_on.new.progress c.read_on.new.keeper start rest
          read;
      read = read;
      alone = read_again g.I.Inputs.reads g.I.Inputs.view c.args.file laws.reads_then c.args.inputs.now c.loop-progress.inputs
          c.read_on.new.inputs c.loop-progress.invariant.alone c.in_ok-read_on.ensures.read;
    }

-- at the end of the file

pub returns-clause-left : goal.returns-clause-left
returns-clause-left g c =
    let start = (g.I.Inputs.view c.args.inputs.now).left c.args.file in
    let left = (g.I.Inputs.view c.loop-progress.inputs).left c.args.file in
    let rest = (g.I.Inputs.view c.read_on.new.inputs).left c.args.file in
    on_err c.finish.result _
    (stops_in_time g.K.Keeper.after c.args.limits.now c.args.keeper.now c.read_on.new.progress c.read_on.new.keeper start rest rest
    c.in_ok-read_on.ensures.ready.ready
    (read_more g.K.Keeper.after c.args.limits.now c.args.keeper.now c.loop-progress.progress c.loop-progress.keeper c.read_on.new.progress
    c.read_on.new.keeper start left rest
    c.loop-progress.invariant.read c.in_ok-read_on.ensures.piece)
    (reads_nothing PIECE rest))

pub returns-clause-read : goal.returns-clause-read
returns-clause-read g c =
    let laws = g.met.I.Inputs g.world.𝓛 g.world.𝓜 g.world.𝓡 ((λ s x. x), (λ x. x), (λ x. x), λ x. x) in
    read_again g.I.Inputs.reads g.I.Inputs.view c.args.file laws.reads_then c.args.inputs.now c.loop-progress.inputs c.read_on.new.inputs
    c.loop-progress.invariant.alone c.in_ok-read_on.ensures.read
