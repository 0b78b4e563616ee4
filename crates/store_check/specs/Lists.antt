-- The lists of a store, maps 3 to 5, as its ways and relations tell them.
use Rattle.std.specs.Prelude.{◌≡◌, ℕ, true, None}
use Rattle.std.specs.FinMap as finite
use Rattle.osm_base.specs.values.Ids.{has}
use Rattle.bucket_records.specs.Records.{BucketMap}
use Rattle.value_bytes.specs.declared.store_map.StoreMap.{StoreMap}
use Rattle.value_bytes.specs.declared.store_map.StoreMap.TheVariants as stored
use Rattle.store_maps.specs.Turns.{Told, listed_by}
use Rattle.back_index.specs.Listed.{ids_in}
use Rattle.store_check.specs.Held.{HeldOf}
use Rattle.store_check.specs.Values.{ObjectMap}

-- those that list something in a map
abbrev pub listers_of : StoreMap → HeldOf → ObjectMap
listers_of stored.WaysOfBlocks own = own.ways
listers_of _ own = own.relations

-- and what they tell it
abbrev pub held_tell : StoreMap → HeldOf → Told
held_tell map own id by = has (listed_by (ids_in map) (finite.get (listers_of map own) by)) id

-- somebody is told to list an id, and no list is kept of it
pub record IsLacking (told : Told) (kept : BucketMap) (id : ℕ) : Type 0 where
  pub by : ℕ
  pub is_told : told id by ≡ true
  pub none : finite.get kept id ≡ None
