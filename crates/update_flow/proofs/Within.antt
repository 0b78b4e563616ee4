-- What a call on the maps has read of the buckets of a store.
use Rattle.std.proofs.Common.{◌≡◌, ℕ, true, false, Option, Result, refl, sym, subst}
use Rattle.osm_base.specs.declared.values.key.Kind.{Kind}
use Rattle.osm_base.specs.declared.values.key.Kind.TheVariants as kinds
use Rattle.osm_base.specs.declared.values.object.Object.{Object}
use Rattle.osm_base.specs.declared.values.object.Object.TheVariants.{Node, Way, Relation}
use Rattle.osm_base.specs.values.Key.{KeyOf}
use Rattle.osm_base.specs.values.Place.{PlaceOf}
use Rattle.osm_base.specs.values.Tags.{TagMap}
use Rattle.object_fold.specs.Change.{IsOfKind}
use Rattle.outside.specs.declared.disk.Disk.{Ghosts}
use Rattle.page_journal.specs.declared.fault.StoreFault.{StoreFault}
use Rattle.bucket_store.specs.Transaction.{has_refused}
use Rattle.bucket_store.specs.Typed.{Touches}
use Rattle.bucket_store.specs.declared.buckets.Buckets.{Buckets}
use Rattle.middle_objs.specs.Maps.{map_of}
use Rattle.store_maps.specs.Asked.{row_key}
use Rattle.row_store.specs.Maps.{map_of as rows_map_of}
use Rattle.back_index.specs.Reads.{HasReadOnly}
use Rattle.back_index.proofs.ReadKeys.{reads_key}
use Rattle.store_maps.specs.Asked.{May, MayObject, MayRows}

-- the maps have the numbers that the layers below give them
pub object_allowed : (may : May) (kind : Kind) (id : ℕ) → (kind ≡ kinds.Node → ⊥) → MayObject may (record { kind = kind; id = id })
    → may (map_of kind) id ≡ true
object_allowed may kinds.Node id apart allowed = absurd (apart refl)
object_allowed may kinds.Way id apart allowed = allowed
object_allowed may kinds.Relation id apart allowed = allowed

pub rows_allowed : (may : May) (kind : Kind) (id : ℕ) → MayRows may (record { kind = kind; id = id })
    → may (rows_map_of kind) (row_key kind id) ≡ true
rows_allowed may kinds.Node id allowed = allowed
rows_allowed may kinds.Way id allowed = allowed
rows_allowed may kinds.Relation id allowed = allowed

-- an object that is no node has no node's key
pub no_node : (kind : Kind) (object : Object) → ((place : Option PlaceOf) (tags : TagMap) → object ≡ Node place tags → ⊥)
    → IsOfKind kind object → kind ≡ kinds.Node → ⊥
no_node kind (Node place tags) apart is node = apart place tags refl
no_node kind (Way nodes tags) apart is node = subst (λ own. IsOfKind own (Way nodes tags)) node is
no_node kind (Relation members tags) apart is node = subst (λ own. IsOfKind own (Relation members tags)) node is

-- of a node
pub node_allowed : (may : May) (own key : KeyOf) → own ≡ key → own.kind ≡ kinds.Node → MayObject may key → may 0 own.id ≡ true
node_allowed may own key same is allowed =
    subst (λ kind. MayObject may (record { kind = kind; id = own.id })) is (subst (MayObject may) (sym same) allowed)

module _ {D : Type 0} {g : Ghosts D} (may : May) (old new : Buckets D g) (goes : has_refused old ≡ false) where
  pub within_touched : {T : Type 0} (which key : ℕ) (result : Result T StoreFault) → may which key ≡ true → Touches which key old new result
      → HasReadOnly may old → HasReadOnly may new
  within_touched which key result allowed does only =
      reads_key may old new which key goes allowed does.stays result does.reads does.refused only
