use Rattle.std.proofs.Common.{ℕ, arith}
use Rattle.std.proofs.lemmas.List.{length-replicate}
use Rattle.page_journal.proofs.page_run.PageRun.new.Goals as goal

pub returns-clause-fits : goal.returns-clause-fits
returns-clause-fits c = record {
  size = length-replicate {A = ℕ} 65536 0;
  inside = omega arith;
  room = omega (arith, c.requires);
}
