-- What stands at the place of the key.
use Rattle.std.proofs.Common.{List, ℕ, Some, length, ap, sym, ◌∙◌, arith}
use Rattle.bucket_records.specs.Places.{IsPlaceOf}
use Rattle.bucket_records.proofs.MapLaws.{get-map_of, place_past, place_there, place_apart}
use Rattle.bucket_records.proofs.bucket.recorded.Goals as goal

pub returns-then-are_below : goal.returns-then-are_below
returns-then-are_below c =
    let records = c.args.records.now in
    let all : IsPlaceOf records c.args.key (length records) = record {
      within = omega arith;
      below = c.are_below.ensures c.if-are_below.true;
      from = λ k above inside. absurd (omega (arith, above, inside));
    } in
    get-map_of records c.args.key c.len-count.ensures.rise ∙ place_past records c.args.key (length records) all (omega arith)

pub returns-then-place-count : goal.returns-then-place-count
returns-then-place-count c =
    get-map_of c.args.records.now c.args.key c.len-count.ensures.rise
    ∙ place_past c.args.records.now c.args.key c.seek-place.result.0 c.seek-place.ensures.place
    (omega (arith, c.if-place-count.true, c.len-count.ensures.len))

pub returns-then-own-key : goal.returns-then-own-key
returns-then-own-key c =
    get-map_of c.args.records.now c.args.key c.len-count.ensures.rise
    ∙ place_there c.args.records.now c.args.key c.seek-place.result.0 c.seek-place.ensures.place
    (omega (arith, c.if-place-count.false, c.len-count.ensures.len)) (sym c.front-own.ensures.key ∙ c.if-own-key.true)
    ∙ ap (λ (l : List ℕ). Some l) (sym c.front-own.ensures.value)

pub returns-else-own-key : goal.returns-else-own-key
returns-else-own-key c =
    get-map_of c.args.records.now c.args.key c.len-count.ensures.rise
    ∙ place_apart c.args.records.now c.args.key c.seek-place.result.0 c.len-count.ensures.rise c.seek-place.ensures.place
    (omega (arith, c.if-place-count.false, c.len-count.ensures.len))
    (λ same. c.if-own-key.false (c.front-own.ensures.key ∙ same))
