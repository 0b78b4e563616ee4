-- One way after another is looked at.
use Rattle.std.proofs.Common.{◌≡◌, ◌<◌, ◌++◌, ◌∷◌, [], ◌∙◌, ℕ, List, Ok, true, length, take, get_or, if◌then◌else◌, sym, ap, subst}
use Rattle.std.proofs.Common.{refl, rules}
use Rattle.std.specs.List.{AllByRecursion, filter}
use Rattle.std.specs.FinMap as finite
use Rattle.std.specs.Ordering.{nat_cmp}
use Rattle.std.proofs.lemmas.List.{take_all, take_more}
use Rattle.std.proofs.lemmas.List.Kept.{IsStrictlySortedBy-filter}
use Rattle.osm_base.specs.values.Ids.{AreRisingIds, has}
use Rattle.osm_base.specs.values.Key.{IsId}
use Rattle.object_fold.proofs.SortedIds.{same_rising}
use Rattle.value_bytes.specs.StoreMap.{map_number}
use Rattle.value_bytes.specs.declared.store_map.StoreMap.TheVariants.{Ways}
use Rattle.store_maps.specs.Named.{list_it}
use Rattle.back_index.specs.Index.{HasNodes}
use Rattle.back_index.specs.Visits.{StopsAt}
use Rattle.back_index.proofs.Chained.{answers_none, answers_ok, answers_then, ready_after}
use Rattle.back_index.proofs.Reading.{refuses_more}
use Rattle.back_index.proofs.ReadKeys.{reads_refused}
use Rattle.back_index.proofs.WayLaws.{all_same, at_place, each_if, each_more, filter_more, stops_here, way_lists}
use Rattle.back_index.specs.Asking.{reads_more, reads_none}
use Rattle.back_index.proofs.candidates.ways_with.Goals as goal

pub loop-way-init : goal.loop-way-init
loop-way-init g c =
    let none : c.new-found.result.items ≡ [] = search rules in
    record {
      ready = c.requires.ready;
      answers = answers_none {T = Unit {0}} c.args.buckets.now tt c.requires.ready.going;
      has_still = λ rest now owns. owns;
      ids = subst (AllByRecursion IsId) (sym none) tt;
      reads = reads_none c.args.buckets.now;
      within = λ may all only. only;
      fine = λ rest now owns. tt;
      filtered = λ rest now owns maps holds. none;
    }

pub loop-way-preserved : goal.loop-way-preserved
loop-way-preserved g c =
    let before = c.loop-way.buckets in
    let after = c.lists_node.new.buckets in
    let ways = c.args.ways.now in
    let node = c.args.node in
    let k = c.loop-way.way-index in
    let way = get_or ways k 0 in
    let within : k < length ways = c.loop-way-test.true in
    let more = take_more ways k 0 within in
    let inv = c.loop-way.invariant in
    let lists = c.in-Ok.lists in
    let did = c.in-Ok.ensures in
    let added = c.in_default.ensures.found in
    record {
      ready = ready_after before after lists inv.ready did.asks.touches.answers;
      answers = answers_then c.args.buckets.now before after tt (Ok tt) inv.answers
          (answers_ok before after lists tt did.asks.touches.answers);
      has_still = λ rest now owns. did.asks.has refl rest now (inv.has_still rest now owns);
      ids = subst (AllByRecursion IsId) (sym added)
          (each_if IsId c.loop-way.found.items way lists inv.ids (at_place IsId ways k 0 within c.requires.rising.1));
      reads = reads_more c.args.buckets.now before after inv.reads did.asks.touches.reads;
      within = λ may all only. did.asks.touches.within may
          (at_place (λ (id : ℕ). may (map_number Ways) id ≡ true) ways k 0 within all) (inv.within may all only);
      fine = λ rest now owns.
          let fine : ℕ → Type 0 = λ way. (nodes : List ℕ) × HasNodes (finite.get (now.maps (map_number Ways)) way) nodes in
          let found = did.lists rest now (inv.has_still rest now owns) in
          subst (λ (l : List ℕ). AllByRecursion fine l) (sym more)
          (each_more fine (take k ways) way (inv.fine rest now owns) (found.0, found.1));
      filtered = λ rest now owns maps holds.
          let test = list_it maps node in
          let found = did.lists rest now (inv.has_still rest now owns) in
          added ∙ ap (λ (l : List ℕ). l ++ (if lists then way ∷ [] else [])) (inv.filtered rest now owns maps holds)
          ∙ sym (filter_more test (take k ways) way lists (way_lists now maps way node found.0 holds found.1 ∙ sym found.2))
          ∙ sym (ap (filter test) more);
    }

pub returns-in-Err-clause-asks : goal.returns-in-Err-clause-asks
returns-in-Err-clause-asks g c =
    let inv = c.loop-way.invariant in
    let ways = c.args.ways.now in
    let k = c.loop-way.way-index in
    record {
      touches = record {
        answers = search rules;
        reads = search rules;
        stops = λ rest now owns.
            let way = get_or ways k 0 in
            let fine : ℕ → Type 0 = λ way. (nodes : List ℕ) × HasNodes (finite.get (now.maps (map_number Ways)) way) nodes in
            refuses_more (λ at. (¬ fine way) × (at ≡ c.args.page)) (StopsAt fine (λ way. c.args.page) ways)
            (λ at bad. stops_here fine (λ way. c.args.page) ways k at c.loop-way-test.true (inv.fine rest now owns) bad.0 bad.1)
            c.in-Err.fault (c.in-Err.ensures.asks.touches.stops rest now (inv.has_still rest now owns));
        within = λ may all only. c.in-Err.ensures.asks.touches.within may
            (at_place (λ (id : ℕ). may (map_number Ways) id ≡ true) ways k 0 c.loop-way-test.true all) (inv.within may all only);
      };
      has = λ none rest now owns. c.in-Err.ensures.asks.has none rest now (inv.has_still rest now owns);
    }

pub returns-in-Err-add_if-clause-asks : goal.returns-in-Err-add_if-clause-asks
returns-in-Err-add_if-clause-asks g c = record {
  touches = record {
    answers = search rules;
    reads = search rules;
    stops = search rules;
    within = λ may all only. reads_refused may c.refused.new.buckets c.refused.ensures.marks.refused;
  };
  has = λ none rest now owns.
      c.refused.ensures.marks.has rest now (c.in-Ok.ensures.asks.has refl rest now (c.loop-way.invariant.has_still rest now owns));
}

pub returns-clause-ids : goal.returns-clause-ids
returns-clause-ids g c = record {
  rising = subst AreRisingIds (sym c.into_ids.ensures.ids)
      (c.from_vec.ensures.rise, all_same IsId c.from_vec.result c.loop-way.found.items c.from_vec.ensures.same c.loop-way.invariant.ids);
  are = λ rest now owns maps holds.
      let ways = c.args.ways.now in
      let test = list_it maps c.args.node in
      let items : c.loop-way.found.items ≡ filter test ways
      = c.loop-way.invariant.filtered rest now owns maps holds
      ∙ ap (filter test) (take_all c.loop-way.way-index ways c.loop-way-test.false) in
      c.into_ids.ensures.ids ∙ same_rising c.from_vec.result (filter test ways) c.from_vec.ensures.rise
      (IsStrictlySortedBy-filter nat_cmp test ways c.requires.rising.0)
      (λ id. c.from_vec.ensures.same id ∙ ap (λ (l : List ℕ). has l id) items);
}

pub returns-clause-asks : goal.returns-clause-asks
returns-clause-asks g c = record {
  touches = record {
    answers = search rules;
    reads = c.loop-way.invariant.reads;
    stops = search rules;
    within = c.loop-way.invariant.within;
  };
  has = λ none rest now owns. c.loop-way.invariant.has_still rest now owns;
}

pub returns-clause-there : goal.returns-clause-there
returns-clause-there g c rest now owns =
    let fine : ℕ → Type 0 = λ way. (nodes : List ℕ) × HasNodes (finite.get (now.maps (map_number Ways)) way) nodes in
    subst (λ (l : List ℕ). AllByRecursion fine l) (take_all c.loop-way.way-index c.args.ways.now c.loop-way-test.false)
    (c.loop-way.invariant.fine rest now owns)
