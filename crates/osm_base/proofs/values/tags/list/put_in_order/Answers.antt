use Rattle.std.proofs.Common.{refl}
use Rattle.std.proofs.lemmas.List.Sorted.{IsPermutation-map, IsPermutation-sym}
use Rattle.std.specs.List.Sorted.{IsPermutation}
use Rattle.osm_base.specs.values.TagText.{pair_of}
use Rattle.osm_base.specs.values.TagOrder.{pairs_of}
use Rattle.osm_base.proofs.TagLists.{once-rising, rising-once, once-IsPermutation, from_entries-IsPermutation}
use Rattle.osm_base.proofs.values.tags.list.put_in_order.Goals as goal

pub returns-then-are_rising-clause-once : goal.returns-then-are_rising-clause-once
returns-then-are_rising-clause-once c =
    let once = once-rising (pairs_of c.args.text.now c.args.spans.now) (c.are_rising.ensures.rising.0 c.if-are_rising.true) in
    (λ _. once, λ _. refl)

pub returns-clause-once : goal.returns-clause-once
returns-clause-once c =
    let old = pairs_of c.args.text.now c.args.spans.now in
    let new = pairs_of c.args.text.now c.sort.new.spans in
    let moved : IsPermutation old new = IsPermutation-map
    (pair_of c.args.text.now) c.args.spans.now c.sort.new.spans c.sort.ensures.permutation in (
      λ yes. once-IsPermutation new old (IsPermutation-sym old new moved) (once-rising new (c.are_rising-2.ensures.rising.0 yes)),
      λ once. c.are_rising-2.ensures.rising.1
          (rising-once c.args.text.now c.sort.new.spans c.sort.ensures.cuts c.sort.ensures.sorted (once-IsPermutation old new moved once)),
    )

pub returns-clause-map : goal.returns-clause-map
returns-clause-map c =
    let old = pairs_of c.args.text.now c.args.spans.now in
    let new = pairs_of c.args.text.now c.sort.new.spans in
    let moved : IsPermutation old new = IsPermutation-map
    (pair_of c.args.text.now) c.args.spans.now c.sort.new.spans c.sort.ensures.permutation in
    λ yes.
    let once = once-rising new (c.are_rising-2.ensures.rising.0 yes) in
    from_entries-IsPermutation old new moved (once-IsPermutation new old (IsPermutation-sym old new moved) once) once
