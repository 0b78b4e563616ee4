use Rattle.std.proofs.Common.{ap, ◌∙◌, List, ℕ, ◌++◌}
use Rattle.std.proofs.lemmas.Int.{to_z-of_z}
use Rattle.std.specs.Int.{w64}
use Rattle.value_bytes.specs.Numbers.{number_bytes}
use Rattle.value_bytes.proofs.NumberLaws.{int_put}
use Rattle.value_bytes.proofs.numbers.push_int.Goals as goal

pub returns-clause-ok : goal.returns-clause-ok
returns-clause-ok c =
    c.in_ok-push_number.ensures.ok
    ∙ ap (λ (n : ℕ). c.args.out.now.items ++ number_bytes n) (rw (to_z-of_z w64 c.args.number c.ranges.number) at c.cast_unsigned.ensures)
    ∙ ap (λ (l : List ℕ). c.args.out.now.items ++ l) (int_put c.args.number)
