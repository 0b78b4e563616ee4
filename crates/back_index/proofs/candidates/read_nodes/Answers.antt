-- The value of a way is what the store has of it.
use Rattle.std.proofs.Common.{sym, subst}
use Rattle.std.specs.FinMap as map
use Rattle.bucket_store.specs.Image.{Has}
use Rattle.back_index.specs.Index.{IsNodeless}
use Rattle.value_bytes.specs.StoreMap.{map_number}
use Rattle.value_bytes.specs.declared.store_map.StoreMap.TheVariants.{Ways}
use Rattle.back_index.proofs.Reading.{nodeless_some, nodes_some}
use Rattle.back_index.proofs.candidates.read_nodes.Goals as goal

pub returns-in-Some-clause-nodes : goal.returns-in-Some-clause-nodes
returns-in-Some-clause-nodes g c =
    nodes_some (λ rest now. Has rest now c.args.buckets.now) (λ now. map.get (now.maps (map_number Ways)) c.args.way) c.in-Some.bytes.now
    c.in-Some.ensures.found c.ids_in_front.result c.ids_in_front.ensures.ids

pub returns-in-Some-clause-refused : goal.returns-in-Some-clause-refused
returns-in-Some-clause-refused g c =
    nodeless_some (λ rest now. Has rest now c.args.buckets.now) (λ now. map.get (now.maps (map_number Ways)) c.args.way) c.in-Some.bytes.now
    c.in-Some.ensures.found c.ids_in_front.result c.ids_in_front.ensures.refused

pub returns-in-None-clause-refused : goal.returns-in-None-clause-refused
returns-in-None-clause-refused g c rest now owns = subst IsNodeless (sym (c.in-None.ensures.found rest now owns)) tt
