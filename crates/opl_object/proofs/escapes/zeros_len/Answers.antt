use Rattle.std.proofs.Common.{rules, arith, sym}
use Rattle.std.proofs.lemmas.List.Sums.{prefix_len_is}
use Rattle.opl_object.specs.Escapes.{is_zero}
use Rattle.opl_object.proofs.escapes.zeros_len.Goals as goal

pub returns-then-digit-ne48 : goal.returns-then-digit-ne48
returns-then-digit-ne48 c = record {
  len =
      sym (prefix_len_is is_zero c.args.digits.now c.loop-place.place 0 (omega arith) c.loop-place.invariant (λ _. search rules));
}

pub returns : goal.returns
returns c = record {
  len = sym (prefix_len_is is_zero c.args.digits.now _ 0 (omega arith) (λ k lt. c.loop-place.invariant k (omega arith))
      (λ lt. absurd (omega arith)));
}
