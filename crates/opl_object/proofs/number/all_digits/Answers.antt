use Rattle.std.proofs.Common.{sym, arith, ◌∙◌}
use Rattle.std.specs.Char.{is_ascii_digit}
use Rattle.opl_object.proofs.Passes.{one_fails, one_passes, all_pass}
use Rattle.opl_object.proofs.number.all_digits.Goals as goal

pub returns-then-not-is_ascii_digit : goal.returns-then-not-is_ascii_digit
returns-then-not-is_ascii_digit c = record {
  value =
      one_fails is_ascii_digit c.args.text.now c.loop-byte.byte-index 0 c.loop-byte-test.true
      (sym c.is_ascii_digit.ensures.value ∙ c.if-not-is_ascii_digit.true);
}

pub loop-byte-preserved : goal.loop-byte-preserved
loop-byte-preserved c = one_passes is_ascii_digit c.args.text.now c.loop-byte.byte-index 0 c.loop-byte-test.true c.loop-byte.invariant
    (sym c.is_ascii_digit.ensures.value ∙ c.if-not-is_ascii_digit.false)

pub returns : goal.returns
returns c = record { value = all_pass is_ascii_digit c.args.text.now c.loop-byte.byte-index (omega arith) c.loop-byte.invariant }
