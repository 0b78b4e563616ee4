use Rattle.due_tiles.proofs.PieceLaws.{on_ok_so, puts_alone}
use Rattle.due_tiles.proofs.piece.Piece.put_alone.Goals as goal

pub returns-then-bytes-gt-PIECE-clause-ok : goal.returns-then-bytes-gt-PIECE-clause-ok
returns-then-bytes-gt-PIECE-clause-ok g c =
    let view = g.S.Sink.view in
    on_ok_so _ _ c.put_all.result (λ two. puts_alone (view c.args.out.now).taken (view c.flush.new.out).taken (view c.put_all.new.out).taken
    c.args.self.now c.flush.new.self c.args.bytes.now c.in_ok-flush.ensures.ok two c.in_ok-flush.ensures.none) c.put_all.ensures.ok
