use Rattle.std.proofs.Common.{List, ℕ, ap, ◌∙◌}
use Rattle.std.specs.Int.{w64, from_le_bytes}
use Rattle.page_journal.proofs.Bytes.{number_part}
use Rattle.chain_store.proofs.numbers.number_at.Goals as goal

pub returns : goal.returns
returns c =
    c.from_le_bytes.ensures ∙ ap (λ (l : List ℕ). from_le_bytes w64 l) c.copy_from_slice.ensures.after
    ∙ number_part c.args.bytes.now c.args.at
