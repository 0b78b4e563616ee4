use Rattle.std.proofs.Common.{sym, ◌∙◌, arith}
use Rattle.osm_base.proofs.Digits.{decimal-zero, trimmed-decimal}
use Rattle.osm_base.proofs.values.degrees.without_last_zeros.Goals as goal

pub loop-digits-preserved : goal.loop-digits-preserved
loop-digits-preserved c = (
  omega arith,
  omega arith,
  decimal-zero c.loop-digits.digits (omega arith) (omega arith) c.loop-digits-test.true ∙ c.loop-digits.invariant.2,
)

pub returns-clause-digits : goal.returns-clause-digits
returns-clause-digits c =
    sym (trimmed-decimal c.loop-digits.digits (omega arith) c.loop-digits-test.false) ∙ c.loop-digits.invariant.2
