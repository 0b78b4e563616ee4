use Rattle.std.proofs.Common.{sym, arith, ◌∙◌}
use Rattle.std.proofs.lemmas.List.Sums.{position_or_len_is}
use Rattle.opl_object.specs.Text.{is_reserved}
use Rattle.opl_object.proofs.usual.plain_len.Goals as goal

pub returns-then-is_reserved : goal.returns-then-is_reserved
returns-then-is_reserved c = record {
  len =
      sym (position_or_len_is is_reserved c.args.text.now c.loop-place.place 0 (omega arith) c.loop-place.invariant
      (λ _. sym c.is_reserved.ensures.value ∙ c.if-is_reserved.true));
}

pub returns : goal.returns
returns c = record {
  len = sym (position_or_len_is is_reserved c.args.text.now _ 0 (omega arith)
      (λ k lt. c.loop-place.invariant k (omega arith)) (λ lt. absurd (omega arith)));
}
