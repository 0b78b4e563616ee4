-- The value of a key is what the store has of the list.
use Rattle.std.proofs.Common.{ℕ, sym, subst}
use Rattle.std.specs.FinMap as finite
use Rattle.osm_base.specs.values.Ids.{AreRisingIds}
use Rattle.bucket_store.specs.Image.{Has}
use Rattle.value_bytes.specs.StoreMap.{map_number}
use Rattle.back_index.specs.Relisting.{ReadsIds}
use Rattle.back_index.proofs.Held.{no_ids}
use Rattle.back_index.proofs.Reading.{finds_rising, read_some, unread_some}
use Rattle.back_index.proofs.lists.read_list.Goals as goal

pub returns-in-Some-clause-ids : goal.returns-in-Some-clause-ids
returns-in-Some-clause-ids g c =
    let which : ℕ = map_number c.args.map in
    finds_rising c.args.buckets.now (λ now. finite.get (now.maps which) c.args.id) c.read_ids.result c.read_ids.ensures.rising
    (read_some (λ rest now. Has rest now c.args.buckets.now) (λ now. finite.get (now.maps which) c.args.id) c.in-Some.bytes.now
    c.in-Some.ensures.found c.read_ids.result c.read_ids.ensures.ids)

pub returns-in-Some-clause-refused : goal.returns-in-Some-clause-refused
returns-in-Some-clause-refused g c =
    unread_some (λ rest now. Has rest now c.args.buckets.now) (λ now. finite.get (now.maps (map_number c.args.map)) c.args.id)
    c.in-Some.bytes.now c.in-Some.ensures.found c.read_ids.result c.read_ids.ensures.refused

pub returns-in-None-clause-ids : goal.returns-in-None-clause-ids
returns-in-None-clause-ids g c = record {
  rising = subst AreRisingIds (sym c.new.ensures.empty) no_ids;
  are = λ rest now has. subst (λ o. ReadsIds o c.new.result) (sym (c.in-None.ensures.found rest now has)) c.new.ensures.empty;
}
