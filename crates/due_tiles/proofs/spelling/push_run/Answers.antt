use Rattle.std.proofs.Common.{append_assoc, rules}
use Rattle.due_tiles.specs.Spelling.{run_bytes}
use Rattle.due_tiles.proofs.spelling.push_run.Goals as goal

pub returns : goal.returns
unfolding run_bytes
returns c = search (rules, append_assoc)
