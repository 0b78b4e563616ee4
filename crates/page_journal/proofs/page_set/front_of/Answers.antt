use Rattle.std.proofs.Common.{ℕ, List, ap, ◌∙◌}
use Rattle.std.specs.Int.{w64, from_le_bytes}
use Rattle.page_journal.proofs.Members.{front_number}
use Rattle.page_journal.proofs.page_set.front_of.Goals as goal

pub returns : goal.returns
returns c = c.from_le_bytes.ensures ∙ ap (λ (l : List ℕ). from_le_bytes w64 l) c.copy_from_slice.ensures.after
    ∙ front_number c.args.page.now
