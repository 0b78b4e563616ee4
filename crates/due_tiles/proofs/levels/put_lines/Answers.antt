use Rattle.due_tiles.specs.TileText.{line_of}
use Rattle.std.proofs.Common.{arith, refl}
use Rattle.due_tiles.proofs.PieceLaws.{fails_at, on_err, puts_more}
use Rattle.due_tiles.proofs.levels.put_lines.Goals as goal

pub returns-in_err-put_line-clause-err : goal.returns-in_err-put_line-clause-err
returns-in_err-put_line-clause-err g c =
    let view = g.S.Sink.view in
    on_err _ c.from_residual.result (fails_at (line_of c.args.zoom.level) c.args.numbers.now c.loop-number.number-index _ _ c.loop-number-test.true refl
    (view c.args.out.now).taken (view c.loop-number.out).taken (view c.put_line.new.out).taken c.args.piece.now
    c.loop-number.piece c.loop-number.invariant.puts c.in_err-put_line.ensures.err)

pub loop-number-preserved : goal.loop-number-preserved
loop-number-preserved g c =
    let view = g.S.Sink.view in
    record {
      puts = puts_more (line_of c.args.zoom.level) c.args.numbers.now c.loop-number.number-index _ _ c.loop-number-test.true refl
          (view c.args.out.now).taken (view c.loop-number.out).taken (view c.put_line.new.out).taken c.args.piece.now
          c.loop-number.piece c.put_line.new.piece c.loop-number.invariant.puts c.in_ok-put_line.ensures.ok;
      later = omega (arith, c.loop-number.invariant.later, c.in_ok-put_line.ensures.cause.later);
    }
