-- What the call on the buckets answers is what the maps answer.
use Rattle.std.proofs.Common.{ℕ, List, Ok, Err, refl}
use Rattle.back_index.specs.Calls.{page_in}
use Rattle.update_flow.specs.maps.Calls.{buckets_of}
use Rattle.update_flow.proofs.Findings.{list_allowed, list_found, touched_index}
use Rattle.update_flow.proofs.Keeping.{looks_done, looks_stopped, over_ready}
use Rattle.update_flow.proofs.maps.kept.StoreTxnMapStore.along_way.Goals as goal

pub listers-requires : goal.listers-requires
listers-requires g c = record { ready = over_ready c.args.self.now c.requires }

pub returns-in-Ok-clause-ids : goal.returns-in-Ok-clause-ids
returns-in-Ok-clause-ids g c under maps had =
    list_found had.now 5 c.args.id maps.relations_of_ways had.kept.relations_of_ways c.in-Ok.ids
    (c.in-Ok.ensures.ids.are under.rest had.now had.has)

pub returns-in-Ok-clause-looks : goal.returns-in-Ok-clause-looks
returns-in-Ok-clause-looks g c =
    looks_done c.args.self.now _ c.requires refl c.in-Ok.ids refl
    (touched_index (buckets_of c.args.self.now) c.listers.new.buckets
    (Ok c.in-Ok.ids) c.in-Ok.ensures.asks.touches.answers c.in-Ok.ensures.asks.touches.reads)
    (c.in-Ok.ensures.asks.has refl)

pub returns-in-Err-clause-looks : goal.returns-in-Err-clause-looks
returns-in-Err-clause-looks g c =
    looks_stopped c.args.self.now _ c.requires refl (List ℕ) c.in-Err.fault refl
    (touched_index (buckets_of c.args.self.now) c.listers.new.buckets {T = List ℕ}
    (Err c.in-Err.fault) c.in-Err.ensures.asks.touches.answers tt)
    (λ under maps had.
    list_allowed had.now 5 c.args.id maps.relations_of_ways had.kept.relations_of_ways
    (page_in (buckets_of c.args.self.now) 5 c.args.id) c.in-Err.fault
    (c.in-Err.ensures.asks.touches.stops under.rest had.now had.has))
