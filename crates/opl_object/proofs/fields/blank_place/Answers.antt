use Rattle.std.proofs.Common.{length, sym, arith}
use Rattle.std.proofs.lemmas.Bool.{false_from_ne_true}
use Rattle.std.proofs.lemmas.List.Sums.{position_or_len_is}
use Rattle.opl_object.specs.Fields.{is_blank}
use Rattle.opl_object.proofs.fields.blank_place.Goals as goal

pub returns-then-ends_at : goal.returns-then-ends_at
returns-then-ends_at c = record {
  place =
      sym (position_or_len_is is_blank c.args.text.now 0 0 (omega arith) (λ k lt. absurd (omega (arith, lt)))
      (c.ends_at.ensures.blank c.if-ends_at.true));
}

pub returns-in-Some : goal.returns-in-Some
returns-in-Some c = record {
  place = sym
      (position_or_len_is is_blank c.args.text.now c.in-Some.place 0 (omega (arith, c.in-Some.ensures.0.high))
      (λ k lt. false_from_ne_true _ (λ blank. c.in-Some.ensures.0.before k (omega arith) lt blank)) (λ _. c.in-Some.ensures.1));
}

pub returns-in-None : goal.returns-in-None
returns-in-None c = record {
  place = sym
      (position_or_len_is is_blank c.args.text.now (length c.args.text.now) 0 (omega arith)
      (λ k lt. false_from_ne_true _ (λ blank. c.in-None.ensures k (omega arith) lt blank)) (λ lt. absurd (omega (arith, lt))));
}
