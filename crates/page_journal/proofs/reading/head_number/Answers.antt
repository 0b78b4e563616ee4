use Rattle.std.proofs.Common.{ℕ, List, ap, ◌∙◌}
use Rattle.std.specs.Int.{w64, from_le_bytes}
use Rattle.page_journal.specs.Pages.{number}
use Rattle.page_journal.proofs.Bytes.{number-head_of, number_part}
use Rattle.page_journal.proofs.reading.head_number.Goals as goal

pub returns : goal.returns
returns c = record {
  value = λ bytes fits is.
      c.from_le_bytes.ensures ∙ ap (λ (l : List ℕ). from_le_bytes w64 l) c.copy_from_slice.ensures.after
      ∙ number_part c.args.head.now c.args.at ∙ ap (λ (l : List ℕ). number l c.args.at) is
      ∙ number-head_of bytes c.args.at c.requires fits;
}
