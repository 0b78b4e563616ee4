use Rattle.due_tiles.specs.Levels.{level_text}
use Rattle.std.proofs.Common.{arith}
use Rattle.due_tiles.proofs.PieceLaws.{fails_at, on_err, puts_more}
use Rattle.due_tiles.proofs.levels.put_levels.Goals as goal

pub returns-in_err-put_level-clause-err : goal.returns-in_err-put_level-clause-err
returns-in_err-put_level-clause-err g c =
    let view = g.S.Sink.view in
    on_err _ c.from_residual.result (fails_at level_text c.args.levels.now c.loop-level.level-index _ c.level-item.result c.loop-level-test.true c.level-item.is
    (view c.args.out.now).taken (view c.loop-level.out).taken (view c.put_level.new.out).taken c.args.piece.now
    c.loop-level.piece c.loop-level.invariant.puts c.in_err-put_level.ensures.err)

pub loop-level-preserved : goal.loop-level-preserved
loop-level-preserved g c =
    let view = g.S.Sink.view in
    record {
      puts = puts_more level_text c.args.levels.now c.loop-level.level-index _ c.level-item.result c.loop-level-test.true c.level-item.is
          (view c.args.out.now).taken (view c.loop-level.out).taken (view c.put_level.new.out).taken c.args.piece.now
          c.loop-level.piece c.put_level.new.piece c.loop-level.invariant.puts c.in_ok-put_level.ensures.ok;
      later = omega (arith, c.loop-level.invariant.later, c.in_ok-put_level.ensures.cause.later);
    }
