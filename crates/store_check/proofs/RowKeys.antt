-- The maps whose keys are asked for rows.
use Rattle.std.proofs.Common.{◌≡◌, ℕ, true, false, List, Option, Some, None, refl, subst}
use Rattle.std.specs.FinMap as finite
use Rattle.osm_base.specs.declared.values.key.Kind.{Kind}
use Rattle.osm_base.specs.declared.values.key.Kind.TheVariants as kinds
use Rattle.style_read.specs.Style.{StyleOf}
use Rattle.value_bytes.specs.StoreMap.{map_number}
use Rattle.value_bytes.specs.declared.store_map.StoreMap.{StoreMap}
use Rattle.value_bytes.specs.declared.store_map.StoreMap.TheVariants as stored
use Rattle.bucket_store.specs.Image.{Image}
use Rattle.store_maps.specs.Asked.{object_map, row_key, row_map}
use Rattle.store_check.specs.Judged.{GoesWith, IsAsked, IsFound, is_node_rows, kind_kept, rows_key, rows_map}
use Rattle.store_check.specs.Values.{NodeMap, ObjectMap, objects_of}
use Rattle.store_check.specs.Wrong.{IsRightIn}

some_same : (one other : Kind) → Some one ≡ Some other → one ≡ other
some_same one other same = cc

none_some : (kind : Kind) → None ≡ Some kind → ⊥
none_some kind same = cc

pub object_is : (source : StoreMap) (kind : Kind) → kind_kept source ≡ Some kind → object_map kind ≡ source
object_is stored.Nodes kind same = subst (λ (own : Kind). object_map own ≡ stored.Nodes) (some_same kinds.Node kind same) refl
object_is stored.Ways kind same = subst (λ (own : Kind). object_map own ≡ stored.Ways) (some_same kinds.Way kind same) refl
object_is stored.Relations kind same = subst (λ (own : Kind). object_map own ≡ stored.Relations) (some_same kinds.Relation kind same) refl
object_is stored.WaysOfBlocks kind same = absurd (none_some kind same)
object_is stored.RelationsOfNodes kind same = absurd (none_some kind same)
object_is stored.RelationsOfWays kind same = absurd (none_some kind same)
object_is stored.NodeRows kind same = absurd (none_some kind same)
object_is stored.OtherRows kind same = absurd (none_some kind same)

module _ (style : StyleOf) (image : Image) (nodes : NodeMap) (ways relations : ObjectMap) (number : ℕ) (found : Option ℕ) where
  abbrev Found : StoreMap → Type 0
  Found source = IsFound (IsRightIn style image nodes ways relations (rows_map source))
      (IsAsked (objects_of nodes ways relations) source number) (rows_key source number) found

  of_kind : (kind : Kind) → IsFound (IsRightIn style image nodes ways relations (row_map kind)) (Unit {0}) (row_key kind number) found
      → Found (object_map kind)
  of_kind kinds.Node is = is
  of_kind kinds.Way is = is
  of_kind kinds.Relation is = is

  pub object_found : (source : StoreMap) (kind : Kind) → kind_kept source ≡ Some kind
      → IsFound (IsRightIn style image nodes ways relations (row_map kind)) (Unit {0}) (row_key kind number) found → Found source
  object_found source kind same is = subst Found (object_is source kind same) (of_kind kind is)

  module _ (bytes : List ℕ) where
    abbrev Kept : StoreMap → Type 0
    Kept source = finite.get (image.maps (map_number source)) number ≡ Some bytes

    some_none : (kind : Kind) → Some kind ≡ None → ⊥
    some_none kind same = cc

    pub rows_found : (source : StoreMap) → kind_kept source ≡ None → GoesWith (rows_map source) source → Kept source
        → (is_node_rows source ≡ true → Kept stored.NodeRows → Found stored.NodeRows)
        → (is_node_rows source ≡ false → Kept stored.OtherRows → Found stored.OtherRows) → Found source
    rows_found stored.Nodes none goes kept one other = absurd (some_none kinds.Node none)
    rows_found stored.Ways none goes kept one other = absurd (some_none kinds.Way none)
    rows_found stored.Relations none goes kept one other = absurd (some_none kinds.Relation none)
    rows_found stored.WaysOfBlocks none goes kept one other = absurd goes
    rows_found stored.RelationsOfNodes none goes kept one other = absurd goes
    rows_found stored.RelationsOfWays none goes kept one other = absurd goes
    rows_found stored.NodeRows none goes kept one other = one refl kept
    rows_found stored.OtherRows none goes kept one other = other refl kept
