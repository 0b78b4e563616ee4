-- The maps of a sound store: as those that stand for objects, but for the rows of nodes whose tags nobody knows.
-- docs/FILES.md, "Buckets, and the eight maps": what each map has.
use Rattle.std.specs.Prelude.{◌≡◌, ◌≢◌, ℕ, Some}
use Rattle.std.specs.FinMap as finite
use Rattle.osm_base.specs.declared.values.key.Kind.{Kind}
use Rattle.osm_base.specs.map.Objects.{ObjectSet}
use Rattle.osm_base.specs.values.Place.{PlaceOf}
use Rattle.std.specs.Prelude.{Option}
use Rattle.style_read.specs.Style.{StyleOf}
use Rattle.value_bytes.specs.Nodes.{record_bytes}
use Rattle.value_bytes.specs.StoreMap.{map_number}
use Rattle.value_bytes.specs.declared.store_map.StoreMap.TheVariants as stored
use Rattle.bucket_store.specs.Image.{Image}
use Rattle.middle_nodes.specs.Old.{unknown}
use Rattle.row_rules.specs.Condition.{reaches_nodes}
use Rattle.store_maps.specs.Maps.{Maps, rows_at}
use Rattle.store_maps.specs.Stands.{StandsOn}
use Rattle.store_check.specs.Kept.{HoldsMaps}
use Rattle.store_check.specs.Values.{AreRightRows, objects_of}

-- the maps are spelled, and stand for the objects that they have: who lists what is what these list, and the rows of each key are right
pub record HasSoundMapsOf (style : StyleOf) (objects : ObjectSet) (image : Image) : Type 0 where
  pub maps : Maps
  pub kept : HoldsMaps style.tables image.maps maps
  pub own : objects ≡ objects_of maps.nodes maps.ways maps.relations
  pub on : StandsOn (reaches_nodes style) maps objects
  pub rows : (kind : Kind) (id : ℕ) → AreRightRows style maps.nodes objects (record { kind = kind; id = id }) (rows_at maps kind id)

-- no node is kept with tags that nobody knows
abbrev pub KnowsTags : Image → Type 0
KnowsTags image = (id : ℕ) (place : Option PlaceOf)
    → finite.get (image.maps (map_number stored.Nodes)) id ≢ Some (record_bytes (unknown place))
