use Rattle.std.proofs.Common.{rules}
use Rattle.delta_feed.proofs.Cutting.{end_with}
use Rattle.delta_feed.proofs.line.behind.Goals as goal

pub returns-in-End : goal.returns-in-End
returns-in-End c = record { line = rw c.in-End.is (end_with c.args.words.now); says = search rules }
