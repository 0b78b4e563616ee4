use Rattle.std.proofs.Common.{ap}
use Rattle.change_pipe.proofs.Moves.{counts, sends}
use Rattle.change_pipe.proofs.pipe.Pipe.put.Goals as goal

pub push_as-requires-clause-rule : goal.push_as-requires-clause-rule
push_as-requires-clause-rule g c =
    let may = ap (λ view. view.puts) c.putter.invariant.1 in (sends _ _ _ _ c.self.invariant may, counts _ _ may)
