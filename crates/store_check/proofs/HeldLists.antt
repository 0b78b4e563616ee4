-- What the ways and the relations that are held tell is what the objects of the store tell.
use Rattle.std.proofs.Common.{◌≡◌, ◌≤◌, ◌∙◌, ℕ, List, Option, Result, Ok, Err, IfOk, sym, ap, arith}
use Rattle.std.specs.FinMap as finite
use Rattle.osm_base.specs.declared.values.key.Kind.TheVariants as kinds
use Rattle.osm_base.specs.declared.values.object.Object.{Object}
use Rattle.osm_base.specs.map.Listers.{listed}
use Rattle.osm_base.specs.values.Ids.{has}
use Rattle.style_read.specs.Style.{StyleOf}
use Rattle.bucket_records.specs.Records.{BucketMap}
use Rattle.bucket_store.specs.Image.{Image}
use Rattle.value_bytes.specs.StoreMap.{map_number}
use Rattle.value_bytes.specs.declared.store_map.StoreMap.{StoreMap}
use Rattle.value_bytes.specs.declared.store_map.StoreMap.TheVariants as stored
use Rattle.store_maps.specs.Turns.{Told, blocks_in, listed_by, told_by}
use Rattle.back_index.specs.Filling.{IsKeptAt}
use Rattle.store_check.specs.Held.{HeldOf, IsHeldOf}
use Rattle.store_check.specs.Lists.{held_tell}
use Rattle.store_check.specs.Values.{NodeMap, ObjectMap, objects_of}
use Rattle.store_check.specs.Wrong.{IsLeast, IsRightIn}
use Rattle.store_check.proofs.LeastOfTwo.{least_as}
use Rattle.store_check.proofs.ObjectSets.{get_relation, get_way}

kept_as : (told other : Told) (kept : BucketMap) (id : ℕ) → ((by : ℕ) → told id by ≡ other id by) → IsKeptAt told kept id
    → IsKeptAt other kept id
kept_as told other kept id same own =
    record { ids = own.ids; rising = own.rising; same = λ by. own.same by ∙ same by; list = own.list }

least_told : (told other : Told) (kept : BucketMap) (found : Option ℕ) → ((id by : ℕ) → told id by ≡ other id by)
    → IsLeast (IsKeptAt told kept) found → IsLeast (IsKeptAt other kept) found
least_told told other kept found same least =
    least_as (λ id. Unit {0}) (IsKeptAt told kept) (IsKeptAt other kept) (λ id. kept_as told other kept id (same id))
    (λ id. kept_as other told kept id (λ by. sym (same id by))) found least

module _ (style : StyleOf) (rest : Image) (nodes : NodeMap) (ways relations : ObjectMap) (own : HeldOf)
    (held : IsHeldOf nodes ways relations own) (told : Told) where
  way_tells : (what : Object → List ℕ) (id by : ℕ) → has (listed_by what (finite.get own.ways by)) id
      ≡ told_by kinds.Way what (objects_of nodes ways relations) id by
  way_tells what id by =
      ap (λ (m : ObjectMap). has (listed_by what (finite.get m by)) id) held.ways_are
      ∙ sym (ap (λ (o : Option Object). has (listed_by what o) id) (get_way nodes ways relations by))

  relation_tells : (what : Object → List ℕ) (id by : ℕ) → has (listed_by what (finite.get own.relations by)) id
      ≡ told_by kinds.Relation what (objects_of nodes ways relations) id by
  relation_tells what id by =
      ap (λ (m : ObjectMap). has (listed_by what (finite.get m by)) id) held.relations_are
      ∙ sym (ap (λ (o : Option Object). has (listed_by what o) id) (get_relation nodes ways relations by))

  pub right_lists : (map : StoreMap) (found : Option ℕ) → (3 ≤ map_number map) × (map_number map ≤ 5)
      → ((id by : ℕ) → told id by ≡ held_tell map own id by)
      → IsLeast (IsKeptAt told (rest.maps (map_number map))) found
      → IsLeast (IsRightIn style rest nodes ways relations map) found
  right_lists stored.Nodes found among same least = absurd (omega (arith, among.0))
  right_lists stored.Ways found among same least = absurd (omega (arith, among.0))
  right_lists stored.Relations found among same least = absurd (omega (arith, among.0))
  right_lists stored.WaysOfBlocks found among same least =
      least_told told (told_by kinds.Way blocks_in (objects_of nodes ways relations)) (rest.maps (map_number stored.WaysOfBlocks)) found
      (λ id by. same id by ∙ way_tells blocks_in id by) least
  right_lists stored.RelationsOfNodes found among same least =
      least_told told (told_by kinds.Relation (listed kinds.Node) (objects_of nodes ways relations))
      (rest.maps (map_number stored.RelationsOfNodes)) found
      (λ id by. same id by ∙ relation_tells (listed kinds.Node) id by) least
  right_lists stored.RelationsOfWays found among same least =
      least_told told (told_by kinds.Relation (listed kinds.Way) (objects_of nodes ways relations))
      (rest.maps (map_number stored.RelationsOfWays)) found
      (λ id by. same id by ∙ relation_tells (listed kinds.Way) id by) least
  right_lists stored.NodeRows found among same least = absurd (omega (arith, among.1))
  right_lists stored.OtherRows found among same least = absurd (omega (arith, among.1))

-- what is so of an answer, where it is one
pub if_ok : {X E : Type 0} (One Two : X → Type 0) (result : Result X E) → ((value : X) → One value → Two value) → IfOk result One
    → IfOk result Two
if_ok One Two (Ok value) leads is = leads value is
if_ok One Two (Err fault) leads is = is
