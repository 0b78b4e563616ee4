use Rattle.std.proofs.Common.{arith}
use Rattle.opl_files.proofs.PartLaws.{step, front_within, ends}
use Rattle.opl_files.proofs.parts.read_share.Goals as goal

pub loop-line-preserved : goal.loop-line-preserved
loop-line-preserved c =
    step c.args.limits.now c.args.bytes.now c.loop-line.rest.now c.in-Some.behind.now c.in-Some.line.now c.loop-line.part c.add.new.self
    c.loop-line.invariant c.in-Some.ensures.line c.if-not-add.ensures.fault c.if-not-add.ensures.passed c.if-not-add.ensures.change

pub returns-clause-part : goal.returns-clause-part
returns-clause-part c =
    let within = front_within c.args.limits.now c.args.bytes.now c.loop-line.rest.now c.loop-line.part c.loop-line.invariant in
    ends c.args.limits.now c.args.bytes.now c.loop-line.rest.now c.loop-line.part _ c.loop-line.invariant (omega (arith, within))
