-- The key, the length and the value are the record.
use Rattle.std.proofs.Common.{◌≡◌, ◌++◌, List, ℕ, length, ap, ◌∙◌, append_assoc}
use Rattle.value_bytes.specs.Numbers.{number_bytes, counted_bytes}
use Rattle.bucket_records.specs.Records.{record_bytes}
use Rattle.bucket_records.proofs.spelling.push_record.Goals as goal

pub returns-in-Ok-clause-ok : goal.returns-in-Ok-clause-ok
unfolding record_bytes counted_bytes
returns-in-Ok-clause-ok c =
    let old = c.args.out.now.items in
    let key = number_bytes c.args.key in
    let count = number_bytes (length c.args.value.now) in
    let first : c.extend_from_slice.new.self.items ≡ old ++ (key ++ count) =
    c.in_ok-extend_from_slice.ensures.items ∙ ap (λ (l : List ℕ). l ++ c.head_of-head.result) c.in_ok-reserve.ensures.items
    ∙ ap (λ (l : List ℕ). old ++ l) c.head_of-head.ensures in
    c.in-Ok.ensures.items ∙ ap (λ (l : List ℕ). l ++ c.args.value.now) first
    ∙ append_assoc old (key ++ count) c.args.value.now
    ∙ ap (λ (l : List ℕ). old ++ l) (append_assoc key count c.args.value.now)
