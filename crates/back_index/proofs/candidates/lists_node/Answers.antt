-- The bucket is brought, and then the front of the way is read.
use Rattle.std.proofs.Common.{rules, ◌≡◌, ◌∙◌, ℕ, List, sym, ap, subst, refl, Ok}
use Rattle.std.specs.FinMap as map
use Rattle.osm_base.specs.values.Ids.{has}
use Rattle.value_bytes.specs.StoreMap.{map_number}
use Rattle.value_bytes.specs.declared.store_map.StoreMap.TheVariants.{Ways}
use Rattle.back_index.specs.Index.{HasNodes}
use Rattle.back_index.specs.Visits.{Refuses}
use Rattle.back_index.proofs.Chained.{sound_refuses}
use Rattle.back_index.proofs.Reading.{needs_refuses, nodeless_not}
use Rattle.back_index.proofs.ReadKeys.{reads_key, reads_refused, reads_bucket}
use Rattle.back_index.proofs.candidates.lists_node.Goals as goal

pub returns-in-Err-clause-asks : goal.returns-in-Err-clause-asks
returns-in-Err-clause-asks g c = record {
  touches = record {
    answers = search rules;
    reads = search rules;
    stops = λ rest now owns. sound_refuses (Unit {0}) _ c.in-Err.fault (c.in-Err.ensures.brings.sound rest now owns);
    within = λ may allowed only. reads_refused may c.bring.new.self c.in-Err.ensures.touches.refused;
  };
  has = λ none rest now owns. c.in-Err.ensures.brings.keeps.has none rest now owns;
}

pub returns-in-Ok-clause-lists : goal.returns-in-Ok-clause-lists
returns-in-Ok-clause-lists g c rest now owns = (
  c.in-Ok.nodes,
  c.in-Ok.ensures.nodes rest now (c.in_default.ensures.brings.keeps.has refl rest now owns),
  c.contains.ensures.value ∙ ap (λ (l : List ℕ). has l c.args.node) c.as_slice.ensures.items,
)

pub returns-in-Ok-clause-asks : goal.returns-in-Ok-clause-asks
returns-in-Ok-clause-asks g c =
    let old = c.args.buckets.now in
    let new = c.bring.new.self in
    let touches = c.in_default.ensures.touches in
    record {
      touches = record {
        answers = search rules;
        reads = reads_bucket old new (map_number Ways) c.args.way touches.reads;
        stops = search rules;
        within = λ may allowed only. reads_key may old new (map_number Ways) c.args.way c.requires.ready.going allowed touches.stays
            {T = Unit {0}} (Ok tt) touches.reads touches.refused only;
      };
      has = λ none rest now owns. c.in_default.ensures.brings.keeps.has refl rest now owns;
    }

pub returns-in-Err-read_nodes-clause-asks : goal.returns-in-Err-read_nodes-clause-asks
returns-in-Err-read_nodes-clause-asks g c = record {
  touches = record {
    answers = search rules;
    reads = search rules;
    stops = λ rest now owns.
        let found = map.get (now.maps (map_number Ways)) c.args.way in
        let bad : ℕ → Type 0 = λ at. (¬ ((nodes : List ℕ) × HasNodes found nodes)) × (at ≡ c.args.page) in
        subst (Refuses bad) (sym c.refused.ensures.fault)
        (needs_refuses bad _ c.in-Err-read_nodes.fault c.args.page c.in-Err-read_nodes.ensures.refused
        (λ none. (
          (λ nodes. nodeless_not found nodes.0 (none rest now (c.in_default.ensures.brings.keeps.has refl rest now owns)) nodes.1),
          refl,
        )));
    within = λ may allowed only. reads_refused may c.refused.new.buckets c.refused.ensures.marks.refused;
  };
  has = λ none rest now owns. c.refused.ensures.marks.has rest now (c.in_default.ensures.brings.keeps.has refl rest now owns);
}
