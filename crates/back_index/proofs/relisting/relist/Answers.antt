-- The lists of each map of the index in turn.
use Rattle.std.proofs.Common.{rules, ◌≡◌, ℕ, subst, refl, Option}
use Rattle.osm_base.specs.declared.values.key.Kind.TheVariants as kinds
use Rattle.osm_base.specs.declared.values.object.Object.{Object}
use Rattle.osm_base.specs.map.Listers.{listed}
use Rattle.osm_base.specs.values.Key.{KeyOf}
use Rattle.store_maps.specs.Turns.{blocks_in, listed_by}
use Rattle.back_index.specs.Calls.{page_at}
use Rattle.back_index.specs.Index.{Relists, all_visits}
use Rattle.back_index.specs.Visits.{IsFine, StopsAt, visits}
use Rattle.value_bytes.specs.StoreMap.{map_number}
use Rattle.value_bytes.specs.declared.store_map.StoreMap.TheVariants.{WaysOfBlocks, RelationsOfNodes, RelationsOfWays}
use Rattle.back_index.specs.declared.visit.Visit.{Visit}
use Rattle.back_index.proofs.Chained.{page_same, ready_after}
use Rattle.back_index.proofs.Reading.{on_ok, refuses_more, refuses_result}
use Rattle.back_index.proofs.Relists.{apart, at_kind, fine_as, node_relists, nodes_stop, relation_relists, stops_as, turned_fine}
use Rattle.back_index.proofs.Relists.{way_relists, way_stops, ways_stop}
use Rattle.store_maps.specs.Asked.{MayEach}
use Rattle.store_maps.specs.Turns.{ids_for}
use Rattle.osm_base.specs.declared.values.key.Kind.{Kind}
use Rattle.back_index.proofs.ReadKeys.{reads_then}
use Rattle.back_index.specs.Asking.{reads_none}
use Rattle.back_index.proofs.relisting.relist.Goals as goal

pub returns-in-Node-clause-relists : goal.returns-in-Node-clause-relists
returns-in-Node-clause-relists g c rest now owns =
    let key : KeyOf = record { kind = c.key.inside.kind; id = c.key.inside.id } in
    let is : key.kind ≡ kinds.Node = cc (c.in-Node.is) in (
      now,
      owns,
      subst (λ (k : KeyOf). Relists k c.args.old.now c.args.new.now now now) c.key.view_is
          (at_kind key kinds.Node c.args.old.now c.args.new.now now now is (node_relists key.id c.args.old.now c.args.new.now now)),
    )

pub returns-in-Way-clause-relists : goal.returns-in-Way-clause-relists
returns-in-Way-clause-relists g c =
    let key : KeyOf = record { kind = c.key.inside.kind; id = c.key.inside.id } in
    let old = c.args.old.now in
    let new = c.args.new.now in
    let is : key.kind ≡ kinds.Way = cc (c.in-Way.is) in
    on_ok (Unit {0}) _ _ c.relist_map.result
    (λ turns rest now owns. let was = turns rest now owns in (
      was.0,
      was.1,
      subst (λ (k : KeyOf). Relists k old new now was.0) c.key.view_is
          (at_kind key kinds.Way old new now was.0 is (way_relists key.id old new now was.0 was.2 was.3)),
    )) c.relist_map.ensures.turns

pub returns-in-Way-clause-touches : goal.returns-in-Way-clause-touches
returns-in-Way-clause-touches g c = record {
  answers = search rules;
  reads = search rules;
  stops = λ rest now owns.
      let key : KeyOf = record { kind = c.key.inside.kind; id = c.key.inside.id } in
      let old = c.args.old.now in
      let new = c.args.new.now in
      let fine = IsFine now key.id in
      let page = page_at c.args.buckets.now in
      let is : key.kind ≡ kinds.Way = cc (c.in-Way.is) in
      refuses_result (Unit {0}) (StopsAt fine page (visits WaysOfBlocks (listed_by blocks_in old) (listed_by blocks_in new)))
      (StopsAt (IsFine now c.args.key.id) page (all_visits c.args.key old new))
      c.relist_map.result
      (λ at stops. subst (λ (k : KeyOf). StopsAt (IsFine now k.id) page (all_visits k old new) at) c.key.view_is
      (way_stops fine page key old new at is stops)) (c.relist_map.ensures.touches.stops rest now owns);
  within = λ may lists only.
      let is : c.args.key.kind ≡ kinds.Way = subst (λ (own : KeyOf). own.kind ≡ kinds.Way) c.key.view_is (cc (c.in-Way.is)) in
      let of : Option Object → Kind → Type 0 = λ form kind. MayEach may (map_number WaysOfBlocks) (ids_for kinds.Way blocks_in kind form) in
      c.relist_map.ensures.touches.within may
      (subst (of c.args.old.now) is lists.0.ways_of_blocks, subst (of c.args.new.now) is lists.1.ways_of_blocks) only;
}

pub returns-in-Err-clause-touches : goal.returns-in-Err-clause-touches
returns-in-Err-clause-touches g c = record {
  answers = search rules;
  reads = search rules;
  stops = λ rest now owns.
      let key : KeyOf = record { kind = c.key.inside.kind; id = c.key.inside.id } in
      let old = c.args.old.now in
      let new = c.args.new.now in
      let fine = IsFine now key.id in
      let page = page_at c.args.buckets.now in
      let is : key.kind ≡ kinds.Relation = cc (c.in-Relation.is) in
      refuses_more (StopsAt fine page (visits RelationsOfNodes (listed_by (listed kinds.Node) old) (listed_by (listed kinds.Node) new)))
      (StopsAt (IsFine now c.args.key.id) page (all_visits c.args.key old new))
      (λ at stops. subst (λ (k : KeyOf). StopsAt (IsFine now k.id) page (all_visits k old new) at) c.key.view_is
      (nodes_stop fine page key old new at is stops))
      c.in-Err.fault (c.in-Err.ensures.touches.stops rest now owns);
  within = λ may lists only.
      let is : c.args.key.kind ≡ kinds.Relation =
      subst (λ (own : KeyOf). own.kind ≡ kinds.Relation) c.key.view_is (cc (c.in-Relation.is)) in
      let of : Option Object → Kind → Type 0 =
      λ form kind. MayEach may (map_number RelationsOfNodes) (ids_for kinds.Relation (listed kinds.Node) kind form) in
      c.in-Err.ensures.touches.within may
      (subst (of c.args.old.now) is lists.0.relations_of_nodes, subst (of c.args.new.now) is lists.1.relations_of_nodes) only;
}

pub returns-in_default-clause-relists : goal.returns-in_default-clause-relists
returns-in_default-clause-relists g c =
    let key : KeyOf = record { kind = c.key.inside.kind; id = c.key.inside.id } in
    let old = c.args.old.now in
    let new = c.args.new.now in
    let is : key.kind ≡ kinds.Relation = cc (c.in-Relation.is) in
    on_ok (Unit {0}) _ _ c.relist_map-in-Relation-2.result
    (λ turns rest now owns.
    let first = c.in_default.ensures.turns rest now owns in
    let second = turns rest first.0 first.1 in (
      second.0,
      second.1,
      subst (λ (k : KeyOf). Relists k old new now second.0) c.key.view_is (at_kind key kinds.Relation old new now second.0 is
          (relation_relists key.id old new now first.0 second.0 first.2 first.3 second.2 second.3)),
    )) c.relist_map-in-Relation-2.ensures.turns

pub returns-in_default-clause-touches : goal.returns-in_default-clause-touches
returns-in_default-clause-touches g c = record {
  answers = search rules;
  reads =
      reads_then c.args.buckets.now c.relist_map-in-Relation.new.buckets c.relist_map-in-Relation-2.new.buckets
      c.relist_map-in-Relation-2.result c.in_default.ensures.touches.reads c.relist_map-in-Relation-2.ensures.touches.reads;
  stops = λ rest now owns.
      let key : KeyOf = record { kind = c.key.inside.kind; id = c.key.inside.id } in
      let own = key.id in
      let old = c.args.old.now in
      let new = c.args.new.now in
      let mid = c.relist_map-in-Relation.new.buckets in
      let first = c.in_default.ensures.turns rest now owns in
      let nodes_old = listed_by (listed kinds.Node) old in
      let nodes_new = listed_by (listed kinds.Node) new in
      let lists = visits RelationsOfWays (listed_by (listed kinds.Way) old) (listed_by (listed kinds.Way) new) in
      let is : key.kind ≡ kinds.Relation = cc (c.in-Relation.is) in
      let pages : page_at mid ≡ page_at c.args.buckets.now
      = λ i visit. page_same c.args.buckets.now mid (map_number visit.map) visit.id c.in_default.ensures.touches.answers.stays i in
      refuses_result (Unit {0}) (StopsAt (IsFine first.0 own) (page_at mid) lists)
      (StopsAt (IsFine now c.args.key.id) (page_at c.args.buckets.now) (all_visits c.args.key old new))
      c.relist_map-in-Relation-2.result
      (λ at stops. subst (λ (k : KeyOf). StopsAt (IsFine now k.id) (page_at c.args.buckets.now) (all_visits k old new) at) c.key.view_is
      (ways_stop (IsFine now own) (page_at c.args.buckets.now) key old new at is
      (turned_fine now own RelationsOfNodes nodes_old nodes_new (first.0.maps (map_number RelationsOfNodes)) first.3)
      (stops_as (IsFine first.0 own) (IsFine now own) (page_at c.args.buckets.now) lists at
      (fine_as now first.0 own RelationsOfWays (map_number RelationsOfNodes) (listed_by (listed kinds.Way) old)
      (listed_by (listed kinds.Way) new) first.2
      (apart (map_number RelationsOfWays) (map_number RelationsOfNodes) refl))
      (subst (λ (p : Visit → ℕ). StopsAt (IsFine first.0 own) p lists at) pages stops))))
      (c.relist_map-in-Relation-2.ensures.touches.stops rest first.0 first.1);
  within = λ may lists only.
      let is : c.args.key.kind ≡ kinds.Relation =
      subst (λ (own : KeyOf). own.kind ≡ kinds.Relation) c.key.view_is (cc (c.in-Relation.is)) in
      let nodes : Option Object → Kind → Type 0 =
      λ form kind. MayEach may (map_number RelationsOfNodes) (ids_for kinds.Relation (listed kinds.Node) kind form) in
      let ways : Option Object → Kind → Type 0 =
      λ form kind. MayEach may (map_number RelationsOfWays) (ids_for kinds.Relation (listed kinds.Way) kind form) in
      c.relist_map-in-Relation-2.ensures.touches.within may
      (subst (ways c.args.old.now) is lists.0.relations_of_ways, subst (ways c.args.new.now) is lists.1.relations_of_ways)
      (c.in_default.ensures.touches.within may
      (subst (nodes c.args.old.now) is lists.0.relations_of_nodes, subst (nodes c.args.new.now) is lists.1.relations_of_nodes) only);
}

pub returns-in-Node-clause-touches : goal.returns-in-Node-clause-touches
returns-in-Node-clause-touches g c = record {
  answers = search rules;
  reads =
      reads_none c.args.buckets.now;
  stops = search rules;
  within = λ may lists only. only;
}

pub relist_map-requires-in-Relation-2-clause-ready : goal.relist_map-requires-in-Relation-2-clause-ready
relist_map-requires-in-Relation-2-clause-ready g c =
    ready_after c.args.buckets.now c.relist_map-in-Relation.new.buckets tt c.requires.ready c.in_default.ensures.touches.answers
