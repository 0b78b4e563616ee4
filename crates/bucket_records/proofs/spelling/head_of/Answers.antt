-- Both halves are the bytes of their numbers.
use Rattle.std.proofs.Common.{◌≡◌, ◌++◌, List, ℕ, ap, ◌∙◌}
use Rattle.value_bytes.specs.Numbers.{number_bytes}
use Rattle.bucket_records.proofs.spelling.head_of.Goals as goal

pub returns : goal.returns
unfolding number_bytes
returns c =
    let front : c.copy_from_slice.new.self ≡ number_bytes c.args.key = c.copy_from_slice.ensures.after ∙ c.to_le_bytes.ensures in
    let back : c.copy_from_slice-2.new.self ≡ number_bytes c.args.count = c.copy_from_slice-2.ensures.after ∙ c.to_le_bytes-2.ensures in
    ap (λ (l : List ℕ). l ++ c.copy_from_slice-2.new.self) front ∙ ap (λ (l : List ℕ). number_bytes c.args.key ++ l) back
