use Rattle.std.proofs.Common.{drop, arith, subst}
use Rattle.std.specs.Char.{is_ascii}
use Rattle.opl_object.specs.declared.lanes.TheConstants.{LANES}
use Rattle.opl_object.specs.Runs.{Passes}
use Rattle.opl_object.proofs.AsciiFronts.{longer, rest_all}
use Rattle.opl_object.proofs.line.ascii_len.Goals as goal

pub loop-len-preserved : goal.loop-len-preserved
loop-len-preserved c =
    let line = c.args.line.now in
    let len = c.loop-len.len in
    let more : Passes is_ascii (drop len line) LANES = subst (λ text. Passes is_ascii text LANES) (rest_all line len)
    (c.begins_ascii.ensures.ascii c.if-begins_ascii.true) in
    (omega arith, longer line len c.loop-len.invariant.1 more)
