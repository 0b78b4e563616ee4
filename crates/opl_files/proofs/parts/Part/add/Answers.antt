use Rattle.std.proofs.Common.{◌∙◌, arith}
use Rattle.opl_files.proofs.Lines.{line_fault-text}
use Rattle.opl_files.proofs.parts.Part.add.Goals as goal

pub returns-in-Ok-clause-fault : goal.returns-in-Ok-clause-fault
returns-in-Ok-clause-fault c =
    line_fault-text c.args.limits.now c.args.self.now.passed c.args.line.now (omega (arith, c.if-self-lines.false))
    (omega (arith, c.if-line-line_bytes.false)) ∙ c.in-Ok.ensures.ok
