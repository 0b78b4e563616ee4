-- What the call below answers is what the index answers.
use Rattle.std.proofs.Common.{◌≡◌, inl, inr, ◌∙◌, ℕ, List, sym, ap, refl, ◌∷◌, []}
use Rattle.std.specs.FinMap as finite
use Rattle.osm_base.specs.map.Known.{Index, RelationsOfNode}
use Rattle.back_index.specs.Calls.{page_in}
use Rattle.back_index.specs.Index.{IsDamaged}
use Rattle.back_index.specs.Relisting.{IsUnread}
use Rattle.value_bytes.specs.StoreMap.{map_number}
use Rattle.value_bytes.specs.declared.store_map.StoreMap.TheVariants.{RelationsOfNodes}
use Rattle.back_index.proofs.Answering.{asked_err, asked_ok, borne, fresh_after, knows_still, spent_going, spent_refused, spent_some}
use Rattle.back_index.proofs.Held.{reads_one}
use Rattle.back_index.proofs.Reading.{refuses_more}
use Rattle.back_index.proofs.indexed.IndexedBack.relations_of_node.Goals as goal

pub listers-requires : goal.listers-requires
listers-requires g c = record {
  ready = record {
    going = spent_going c.args.self.now.buckets c.requires;
    some = spent_some c.args.self.now.buckets c.requires;
  };
}

pub returns-in-Ok-clause-ids : goal.returns-in-Ok-clause-ids
returns-in-Ok-clause-ids g c index knows =
    reads_one (finite.get (knows.now.maps (map_number RelationsOfNodes)) c.args.id) c.in-Ok.ids
    (finite.get knows.maps.relations_of_nodes c.args.id)
    (c.in-Ok.ensures.ids.are knows.rest knows.now knows.has_it) (knows.listings.relations_of_nodes c.args.id)
    ∙ ap (λ (ix : Index). ix.relations_of_node c.args.id) (sym knows.index_is)

pub returns-in-Ok-clause-index : goal.returns-in-Ok-clause-index
returns-in-Ok-clause-index g c fresh index knows =
    knows_still c.args.self.now.buckets c.listers.new.buckets index (λ rest now owns. c.in-Ok.ensures.asks.has refl rest now owns) knows

pub returns-in-Ok-clause-spent : goal.returns-in-Ok-clause-spent
returns-in-Ok-clause-spent g c = fresh_after c.args.self.now.buckets c.listers.new.buckets c.requires c.in-Ok.ids
    c.in-Ok.ensures.asks.touches.answers

pub returns-in-Ok-clause-asked : goal.returns-in-Ok-clause-asked
returns-in-Ok-clause-asked g c =
    asked_ok c.args.self.now.buckets c.listers.new.buckets c.requires
    (RelationsOfNode c.args.id ∷ []) c.in-Ok.ids c.args.self.now.stopped c.in-Ok.ensures.asks.touches.answers
    (λ rest now owns. c.in-Ok.ensures.asks.has refl rest now owns)
    (λ rest now owns maps index may all. c.in-Ok.ensures.asks.touches.within may all.0) c.in-Ok.ensures.asks.touches.reads

pub returns-in-Err-clause-index : goal.returns-in-Err-clause-index
returns-in-Err-clause-index g c fresh = absurd
    (spent_refused {T = List ℕ} c.args.self.now.buckets c.listers.new.buckets c.in-Err.fault c.in-Err.ensures.asks.touches.answers fresh)

pub returns-in-Err-clause-refused : goal.returns-in-Err-clause-refused
returns-in-Err-clause-refused g c = borne c.args.self.now.buckets c.listers.new.buckets c.requires c.in-Err.fault
    c.in-Err.ensures.asks.touches.answers

pub returns-in-Err-clause-asked : goal.returns-in-Err-clause-asked
returns-in-Err-clause-asked g c =
    asked_err c.args.self.now.buckets c.listers.new.buckets c.requires
    (RelationsOfNode c.args.id ∷ []) c.in-Err.fault c.args.self.now.stopped c.in-Err.ensures.asks.touches.answers
    c.in-Err.ensures.asks.has
    (λ rest now owns. refuses_more (λ at. IsUnread (finite.get (now.maps (map_number RelationsOfNodes)) c.args.id)
    × (at ≡ page_in c.args.self.now.buckets (map_number RelationsOfNodes) c.args.id))
    (IsDamaged c.args.self.now.buckets now)
    (λ at bad. inl (record { own = RelationsOfNodes; id = c.args.id; is_index = inr (inl refl); unread = bad.0; page_is = bad.1 }))
    c.in-Err.fault
    (c.in-Err.ensures.asks.touches.stops rest now owns))
