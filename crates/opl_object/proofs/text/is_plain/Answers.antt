use Rattle.std.proofs.Common.{ℕ, not, sym, arith, ap, ◌∙◌}
use Rattle.opl_object.specs.Text.{is_reserved}
use Rattle.opl_object.proofs.Passes.{one_fails, one_passes, all_pass}
use Rattle.opl_object.proofs.text.is_plain.Goals as goal

pub returns-then-is_reserved : goal.returns-then-is_reserved
returns-then-is_reserved c = record {
  value =
      one_fails {X = ℕ} (λ byte. not (is_reserved byte)) c.args.text.now c.loop-byte.byte-index 0 c.loop-byte-test.true
      (ap not (sym c.is_reserved.ensures.value ∙ c.if-is_reserved.true));
}

pub loop-byte-preserved : goal.loop-byte-preserved
loop-byte-preserved c = one_passes {X = ℕ}
    (λ byte. not (is_reserved byte)) c.args.text.now c.loop-byte.byte-index 0 c.loop-byte-test.true c.loop-byte.invariant
    (ap not (sym c.is_reserved.ensures.value ∙ c.if-is_reserved.false))

pub returns : goal.returns
returns c = record {
  value = all_pass {X = ℕ} (λ byte. not (is_reserved byte)) c.args.text.now c.loop-byte.byte-index
      (omega arith) c.loop-byte.invariant;
}
