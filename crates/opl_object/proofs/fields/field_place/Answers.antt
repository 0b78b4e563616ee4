use Rattle.std.proofs.Common.{not, rules, arith, sym}
use Rattle.std.proofs.lemmas.List.Sums.{position_or_len_is}
use Rattle.opl_object.specs.Fields.{is_blank}
use Rattle.opl_object.proofs.fields.field_place.Goals as goal

pub returns-then-not-is_blank : goal.returns-then-not-is_blank
returns-then-not-is_blank c = record {
  place =
      sym (position_or_len_is ((λ byte. not (is_blank byte))) c.args.text.now c.loop-place.place 0 (omega arith) c.loop-place.invariant
      (λ _. search rules));
}

pub returns : goal.returns
returns c = record {
  place = sym (position_or_len_is ((λ byte. not (is_blank byte))) c.args.text.now _ 0 (omega arith)
      (λ k lt. c.loop-place.invariant k (omega arith)) (λ lt. absurd (omega arith)));
}
