-- The records below the key are those up to its place.
use Rattle.std.proofs.Common.{◌≡◌, ℕ, List, ◌++◌, ◌-◌, take, drop, ap, sym, ◌∙◌, append_assoc}
use Rattle.bucket_records.specs.Records.{records_bytes}
use Rattle.bucket_records.specs.Changes.{below, behind, made}
use Rattle.bucket_records.proofs.Merges.{below_between, from_place}
use Rattle.bucket_records.proofs.merging.put_change.Goals as goal

pub returns-clause-bytes : goal.returns-clause-bytes
returns-clause-bytes c =
    let records = c.args.records.now in
    let part : records_bytes (take (c.max-place.result - c.args.at) (drop c.args.at records))
    ≡ records_bytes (below c.args.key (drop c.args.at records)) =
    ap records_bytes (sym (below_between records c.args.key c.place_of.result c.args.at c.max-place.result c.place_of.ensures c.requires
    c.max-place.ensures)) in
    c.in_ok-put_made.ensures.bytes
    ∙ ap (λ (l : List ℕ). l ++ records_bytes (made c.args.key c.args.change.now)) (c.in_ok-extend_from_slice.ensures.items
    ∙ ap (λ (l : List ℕ). c.args.out.now.items ++ l) (c.between.ensures.bytes ∙ part))
    ∙ append_assoc c.args.out.now.items (records_bytes (below c.args.key (drop c.args.at records)))
    (records_bytes (made c.args.key c.args.change.now))

pub returns-clause-next : goal.returns-clause-next
returns-clause-next c =
    c.number_behind.ensures.next
    ∙ ap (λ (l : List (ℕ × List ℕ)). behind c.args.key l)
    (sym (from_place c.args.records.now c.args.key c.place_of.result c.args.at c.max-place.result c.place_of.ensures c.requires
    c.max-place.ensures))
