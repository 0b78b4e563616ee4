use Rattle.std.proofs.Common.{List, ℕ, ap, ◌∙◌}
use Rattle.std.specs.Int.{w32, from_le_bytes}
use Rattle.chain_store.proofs.NumberLaws.{half_part}
use Rattle.chain_store.proofs.numbers.half_at.Goals as goal

pub returns : goal.returns
returns c =
    c.from_le_bytes.ensures ∙ ap (λ (l : List ℕ). from_le_bytes w32 l) c.copy_from_slice.ensures.after
    ∙ half_part c.args.bytes.now c.args.at
