use Rattle.std.proofs.Common.{◌++◌, ◌∙◌, ap, List, ℕ, length, append_assoc}
use Rattle.value_bytes.specs.Numbers.{number_bytes, counted_bytes}
use Rattle.value_bytes.proofs.counted.push_counted.Goals as goal

pub returns-clause-ok : goal.returns-clause-ok
unfolding counted_bytes
returns-clause-ok c =
    c.in_ok-extend_from_slice.ensures.items ∙ ap (λ (l : List ℕ). l ++ c.args.bytes.now) c.in_ok-push_number.ensures.ok
    ∙ append_assoc c.args.out.now.items (number_bytes (length c.args.bytes.now)) c.args.bytes.now
