use Rattle.std.proofs.Common.{ap, not, rules, arith, sym}
use Rattle.std.specs.Char.{is_ascii_digit}
use Rattle.std.proofs.lemmas.List.Sums.{position_or_len_is}
use Rattle.opl_object.proofs.fields.digits_len.Goals as goal

pub returns-then-run-lt-LANES : goal.returns-then-run-lt-LANES
returns-then-run-lt-LANES c = record {
  place =
      sym (position_or_len_is (λ byte. not (is_ascii_digit byte)) c.args.text.now c.digits_run-run.result 0 (omega arith)
      (λ k lt. ap not (c.digits_run-run.ensures.run.passes.all k lt))
      (λ _. ap not (c.digits_run-run.ensures.run.stops c.if-run-lt-LANES.true)));
}

pub returns-then-not-is_ascii_digit : goal.returns-then-not-is_ascii_digit
returns-then-not-is_ascii_digit c = record {
  place =
      sym (position_or_len_is ((λ byte. not (is_ascii_digit byte))) c.args.text.now c.loop-place.place 0 (omega arith)
      c.loop-place.invariant
      (λ _. search rules));
}

pub returns : goal.returns
returns c = record {
  place = sym (position_or_len_is ((λ byte. not (is_ascii_digit byte))) c.args.text.now _ 0 (omega arith)
      (λ k lt. c.loop-place.invariant k (omega arith)) (λ lt. absurd (omega arith)));
}
