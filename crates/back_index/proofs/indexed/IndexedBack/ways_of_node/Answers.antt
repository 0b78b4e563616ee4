-- What the call below answers is what the index answers.
use Rattle.std.proofs.Common.{◌∙◌, ℕ, List, sym, ap, refl, ◌∷◌, []}
use Rattle.osm_base.specs.map.Known.{Index, WaysOfNode}
use Rattle.back_index.proofs.Answering.{asked_err, asked_ok, borne, fresh_after, knows_still, spent_going, spent_refused, spent_some}
use Rattle.back_index.proofs.indexed.IndexedBack.ways_of_node.Goals as goal

pub ways_of_node-requires : goal.ways_of_node-requires
ways_of_node-requires g c = record {
  ready = record {
    going = spent_going c.args.self.now.buckets c.requires;
    some = spent_some c.args.self.now.buckets c.requires;
  };
}

pub returns-in-Ok-clause-ids : goal.returns-in-Ok-clause-ids
returns-in-Ok-clause-ids g c index knows =
    c.in-Ok.ensures.ids.are knows.rest knows.now knows.has_it knows.maps knows.listings knows.ways
    ∙ ap (λ (ix : Index). ix.ways_of_node c.args.id) (sym knows.index_is)

pub returns-in-Ok-clause-index : goal.returns-in-Ok-clause-index
returns-in-Ok-clause-index g c fresh index knows =
    knows_still c.args.self.now.buckets c.ways_of_node.new.buckets index
    (λ rest now owns. c.in-Ok.ensures.asks.has refl rest now owns) knows

pub returns-in-Ok-clause-spent : goal.returns-in-Ok-clause-spent
returns-in-Ok-clause-spent g c = fresh_after c.args.self.now.buckets c.ways_of_node.new.buckets c.requires c.in-Ok.ids
    c.in-Ok.ensures.asks.touches.answers

pub returns-in-Ok-clause-asked : goal.returns-in-Ok-clause-asked
returns-in-Ok-clause-asked g c =
    asked_ok c.args.self.now.buckets c.ways_of_node.new.buckets c.requires
    (WaysOfNode c.args.id ∷ []) c.in-Ok.ids c.args.self.now.stopped c.in-Ok.ensures.asks.touches.answers
    (λ rest now owns. c.in-Ok.ensures.asks.has refl rest now owns)
    (λ rest now owns maps index may all. c.in-Ok.ensures.asks.touches.within may (record {
      rest = rest;
      now = now;
      has_it = owns;
      maps = maps;
      listings = index;
      allowed = all.0;
    })) c.in-Ok.ensures.asks.touches.reads

pub returns-in-Err-clause-index : goal.returns-in-Err-clause-index
returns-in-Err-clause-index g c fresh = absurd
    (spent_refused {T = List ℕ} c.args.self.now.buckets c.ways_of_node.new.buckets c.in-Err.fault c.in-Err.ensures.asks.touches.answers
    fresh)

pub returns-in-Err-clause-refused : goal.returns-in-Err-clause-refused
returns-in-Err-clause-refused g c = borne c.args.self.now.buckets c.ways_of_node.new.buckets c.requires c.in-Err.fault
    c.in-Err.ensures.asks.touches.answers

pub returns-in-Err-clause-asked : goal.returns-in-Err-clause-asked
returns-in-Err-clause-asked g c =
    asked_err c.args.self.now.buckets c.ways_of_node.new.buckets c.requires
    (WaysOfNode c.args.id ∷ []) c.in-Err.fault c.args.self.now.stopped c.in-Err.ensures.asks.touches.answers
    c.in-Err.ensures.asks.has
    (λ rest now owns. c.in-Err.ensures.asks.touches.stops rest now owns)
