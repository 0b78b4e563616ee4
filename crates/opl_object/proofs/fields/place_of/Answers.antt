use Rattle.std.proofs.Common.{eq-eqb, arith, sym}
use Rattle.std.proofs.lemmas.List.Sums.{position_or_len_is}
use Rattle.opl_object.specs.Fields.{is}
use Rattle.opl_object.proofs.fields.place_of.Goals as goal

pub returns-then-byte-end : goal.returns-then-byte-end
returns-then-byte-end c = record {
  place =
      sym (position_or_len_is (is c.args.end) c.args.text.now c.loop-place.place 0 (omega arith) c.loop-place.invariant
      (λ _. eq-eqb _ _ c.if-byte-end.true));
  within = omega arith;
}

pub returns : goal.returns
returns c = record {
  place = sym (position_or_len_is (is c.args.end) c.args.text.now _ 0 (omega arith)
      (λ k lt. c.loop-place.invariant k (omega arith)) (λ lt. absurd (omega arith)));
  within = omega arith;
}
