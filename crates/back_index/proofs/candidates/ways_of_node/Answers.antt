-- The list of the block is read, and then its ways.
use Rattle.std.proofs.Common.{rules, ◌≡◌, inl, inr, ◌/◌, ◌∙◌, ℕ, List, sym, ap, subst, refl}
use Rattle.std.specs.List.{filter}
use Rattle.std.specs.FinMap as finite
use Rattle.osm_base.specs.values.Ids.{has}
use Rattle.object_fold.specs.Listing.{listers}
use Rattle.value_bytes.specs.StoreMap.{map_number}
use Rattle.value_bytes.specs.declared.store_map.StoreMap.TheVariants.{Ways, WaysOfBlocks}
use Rattle.store_maps.specs.Asked.{MayEach}
use Rattle.store_maps.specs.Maps.{Maps}
use Rattle.store_maps.specs.Named.{index_on, list_it}
use Rattle.store_maps.specs.declared.store.TheConstants.{BLOCK}
use Rattle.back_index.specs.Calls.{FindsIds, page_in}
use Rattle.back_index.specs.Index.{HasNodes, HoldsIndex, HoldsWays, IsDamaged}
use Rattle.back_index.specs.Relisting.{IsUnread, ReadsIds}
use Rattle.back_index.specs.Visits.{StopsAt}
use Rattle.back_index.proofs.Chained.{page_same, ready_after}
use Rattle.back_index.proofs.Held.{reads_one}
use Rattle.back_index.proofs.ReadKeys.{reads_then}
use Rattle.back_index.proofs.Reading.{if_ok, on_ok, refuses_more, refuses_result}
use Rattle.back_index.proofs.WayLaws.{has_part}
use Rattle.back_index.proofs.candidates.ways_of_node.Goals as goal

pub ways_with-requires-clause-ready : goal.ways_with-requires-clause-ready
ways_with-requires-clause-ready g c =
    ready_after c.args.buckets.now c.listers.new.buckets c.in-Ok.ways c.requires.ready c.in-Ok.ensures.asks.touches.answers

pub returns-in-Err-clause-asks : goal.returns-in-Err-clause-asks
returns-in-Err-clause-asks g c = record {
  touches = record {
    answers = search rules;
    reads = search rules;
    stops = λ rest now owns.
        let old = c.args.buckets.now in
        let block = c.args.id / BLOCK in
        let which : ℕ = map_number WaysOfBlocks in
        let found = finite.get (now.maps which) block in
        refuses_more (λ at. IsUnread found × (at ≡ page_in old which block)) (IsDamaged old now)
        (λ at bad. inl (record { own = WaysOfBlocks; id = block; is_index = inl refl; unread = bad.0; page_is = bad.1 })) c.in-Err.fault
        (c.in-Err.ensures.asks.touches.stops rest now owns);
    within = λ may asked only. c.in-Err.ensures.asks.touches.within may asked.allowed.0 only;
  };
  has = λ none rest now owns. c.in-Err.ensures.asks.has none rest now owns;
}

pub returns-clause-ids : goal.returns-clause-ids
returns-clause-ids g c =
    let block = c.args.id / BLOCK in
    let ways = c.as_slice.result.now in
    let given : List ℕ → Type 0 = λ ids. FindsIds
    (λ now ids. (maps : Maps) → HoldsWays now maps → ids ≡ filter (list_it maps c.args.id) ways)
    c.listers.new.buckets ids in
    let wanted : List ℕ → Type 0 = λ ids. FindsIds (λ now ids. (maps : Maps) → HoldsIndex now maps → HoldsWays now maps
    → ids ≡ (index_on maps).ways_of_node c.args.id) c.args.buckets.now ids in
    if_ok (List ℕ) given wanted c.ways_with.result
    (λ ids finds. record {
      rising = finds.rising;
      are = λ rest now owns maps index holds. finds.are rest now (c.in-Ok.ensures.asks.has refl rest now owns) maps holds
          ∙ ap (filter (list_it maps c.args.id))
          (c.as_slice.ensures.items ∙ reads_one (finite.get (now.maps (map_number WaysOfBlocks)) block) c.in-Ok.ways
          (finite.get maps.ways_of_blocks block) (c.in-Ok.ensures.ids.are rest now owns) (index.ways_of_blocks block));
    })
    c.ways_with.ensures.ids

pub returns-clause-asks : goal.returns-clause-asks
returns-clause-asks g c =
    let old = c.args.buckets.now in
    let mid = c.listers.new.buckets in
    let new = c.ways_with.new.buckets in
    let block = c.args.id / BLOCK in
    let ways = c.as_slice.result.now in
    let first = c.in-Ok.ensures in
    let second = c.ways_with.ensures.asks in
    record {
      touches = record {
        answers = search rules;
        reads = reads_then old mid new c.ways_with.result first.asks.touches.reads second.touches.reads;
        stops = λ rest now owns.
            let found = finite.get (now.maps (map_number WaysOfBlocks)) block in
            let fine : ℕ → Type 0 = λ way. (nodes : List ℕ) × HasNodes (finite.get (now.maps (map_number Ways)) way) nodes in
            refuses_result (List ℕ) (StopsAt fine (λ way. c.page_of-page.result) ways) (IsDamaged old now) c.ways_with.result
            (λ at stops. inr (record {
              block = block;
              ids = ways;
              reads = subst (λ (l : List ℕ). ReadsIds found l) (sym c.as_slice.ensures.items) (first.ids.are rest now owns);
              way = stops.thing;
              said = ap (λ (l : List ℕ). has l stops.thing) stops.parts ∙ has_part stops.front stops.thing stops.behind;
              none = stops.bad;
              page_is = stops.page_is ∙ c.page_of-page.ensures
                  ∙ page_same old mid (map_number WaysOfBlocks) block first.asks.touches.answers.stays;
            })) (second.touches.stops rest now (first.asks.has refl rest now owns));
        within = λ may asked only.
            let same : ways ≡ listers asked.maps.ways_of_blocks block =
            c.as_slice.ensures.items ∙ reads_one (finite.get (asked.now.maps (map_number WaysOfBlocks)) block) c.in-Ok.ways
            (finite.get asked.maps.ways_of_blocks block)
            (first.ids.are asked.rest asked.now asked.has_it) (asked.listings.ways_of_blocks block) in
            second.touches.within may (subst (MayEach may (map_number Ways)) (sym same) asked.allowed.1)
            (first.asks.touches.within may asked.allowed.0 only);
      };
      has = λ none rest now owns. second.has none rest now (first.asks.has refl rest now owns);
    }

pub returns-clause-there : goal.returns-clause-there
returns-clause-there g c =
    let block = c.args.id / BLOCK in
    on_ok (List ℕ) _ _ c.ways_with.result
    (λ there rest now owns. (
      c.as_slice.result.now,
      subst (λ (l : List ℕ). ReadsIds (finite.get (now.maps (map_number WaysOfBlocks)) block) l) (sym c.as_slice.ensures.items)
          (c.in-Ok.ensures.ids.are rest now owns),
      there rest now (c.in-Ok.ensures.asks.has refl rest now owns),
    ))
    c.ways_with.ensures.there
