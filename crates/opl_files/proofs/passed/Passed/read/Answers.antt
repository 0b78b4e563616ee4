use Rattle.opl_files.proofs.Proper.{reading-IsProper}
use Rattle.opl_files.proofs.passed.Passed.read.Goals as goal

pub returns-clause-proper : goal.returns-clause-proper
returns-clause-proper c = reading-IsProper c.args.line.now c.in-Ok-Some.entry (rw c.in-Ok-Some.field-0-is at c.in-Ok-Some.ensures.exact)
