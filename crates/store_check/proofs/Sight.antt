-- Keys that are judged, one after another.
use Rattle.std.proofs.Common.{◌≡◌, ◌⊎◌, inl, inr, ◌<◌, ◌≤◌, ◌+◌, ◌*◌, ◌/◌, ◌%◌, ℕ, Bool, true, false, List, Option, Some, None, refl, sym, ap}
use Rattle.std.proofs.Common.{subst, ◌∙◌, arith, nat_eq}
use Rattle.std.specs.Prelude.{IfSome, IsSome, nat_lt, if◌then◌else◌}
use Rattle.std.specs.FinMap as finite
use Rattle.std.specs.Option.{option_map}
use Rattle.std.proofs.lemmas.Bool.Decides.{nat_tests}
use Rattle.osm_base.specs.values.Key.{node_key, way_key, relation_key}
use Rattle.osm_base.specs.map.Objects.{ObjectSet}
use Rattle.style_read.specs.Style.{StyleOf}
use Rattle.value_bytes.specs.StoreMap.{map_number}
use Rattle.value_bytes.specs.declared.store_map.StoreMap.{StoreMap}
use Rattle.value_bytes.specs.declared.store_map.StoreMap.TheVariants as stored
use Rattle.bucket_store.specs.Image.{Image}
use Rattle.store_check.specs.Held.{HeldOf}
use Rattle.store_check.specs.Judged.{GoesWith, IsBelow, IsOne, Sees, SeesRows, Tells, rows_key}
use Rattle.store_check.specs.Least.{lesser, with_key}
use Rattle.store_check.specs.Values.{IfUnknown, NodeMap, ObjectMap, bare, objects_of}
use Rattle.value_bytes.specs.declared.nodes.NodeRecord.{NodeRecord}
use Rattle.store_check.specs.Wrong.{IsLeast, IsRightIn}
use Rattle.store_check.proofs.ObjectSets.{get_node, get_way, get_relation}
use Rattle.store_check.proofs.RowRight.{none_at, none_right, relation_number, way_number}

not_less : (a b : ℕ) → nat_lt a b ≡ false → b ≤ a
not_less a b is = grind (arith, nat_tests)

is_less : (a b : ℕ) → nat_lt a b ≡ true → a < b
is_less a b is = grind (arith, nat_tests)

chosen : (key own below : ℕ) (b : Bool) → nat_lt key own ≡ b → below < (if b then key else own) → (below < own) × (below < key)
chosen key own below true is low = (omega (arith, low, is_less key own is), low)
chosen key own below false is low = (low, omega (arith, low, not_less key own is))

-- what is below the lesser is below both
lesser_below : (old : Option ℕ) (key below : ℕ) → below < lesser old key → IsBelow old below × (below < key)
lesser_below None key below low = (tt, low)
lesser_below (Some own) key below low = chosen key own below (nat_lt key own) refl low

module _ (Is : ℕ → Type 0) (Asked : StoreMap → ℕ → Type 0) where
  pub sees_none : (found : Option ℕ) → Sees Is Asked (λ source number. ⊥) found found
  sees_none found = record { wrong = λ is. is; lower = λ key low. low; seen = λ source number none asked low. absurd none }

  pub sees_fewer : (One All : StoreMap → ℕ → Type 0) (old new : Option ℕ)
      → ((source : StoreMap) (number : ℕ) → One source number → All source number) → Sees Is Asked All old new → Sees Is Asked One old new
  sees_fewer One All old new leads sees = record {
    wrong = sees.wrong;
    lower = sees.lower;
    seen = λ source number one asked low. sees.seen source number (leads source number one) asked low;
  }

  pub sees_then : (One Two All : StoreMap → ℕ → Type 0) (old mid new : Option ℕ) → Sees Is Asked One old mid → Sees Is Asked Two mid new
      → ((source : StoreMap) (number : ℕ) → All source number → One source number ⊎ Two source number) → Sees Is Asked All old new
  sees_then One Two All old mid new first second split = record {
    wrong = λ is. second.wrong (first.wrong is);
    lower = λ key low. first.lower key (second.lower key low);
    seen = λ source number all asked low. elim (split source number all) [
      | inl one ↦ first.seen source number one asked (second.lower (rows_key source number) low)
      | inr two ↦ second.seen source number two asked low
    ];
  }

  one_seen : (source other : StoreMap) (number own : ℕ) → source ≡ other → number ≡ own → (Asked source number → Is (rows_key source number))
      → Asked other own → Is (rows_key other own)
  one_seen source other number own same_source same right asked =
      subst (λ (n : ℕ). Is (rows_key other n)) same
      (subst (λ (s : StoreMap). Is (rows_key s number)) same_source
      (right (subst (λ (s : StoreMap). Asked s number) (sym same_source) (subst (λ (n : ℕ). Asked other n) (sym same) asked))))

  pub sees_right : (source : StoreMap) (number : ℕ) (old : Option ℕ) → (Asked source number → Is (rows_key source number))
      → Sees Is Asked (IsOne source number) old old
  sees_right source number old right = record {
    wrong = λ is. is;
    lower = λ key low. low;
    seen = λ other own one asked low. one_seen source other number own one.0 one.1 right asked;
  }

  number_is : (source other : StoreMap) (number own : ℕ) → source ≡ other → number ≡ own → rows_key source number ≡ rows_key other own
  number_is source other number own same_source same = λ i. rows_key (same_source i) (same i)

  wrong_too : (old : Option ℕ) (key : ℕ) → ¬ Is key → IfSome old (λ own. ¬ Is own) → (b : Bool) → ¬ Is (lesser old key)
  wrong_too None key wrong is b = wrong
  wrong_too (Some own) key wrong is b = elim (nat_lt key own) as (λ b. ¬ Is (if b then key else own)) [ true ↦ wrong | false ↦ is ]

  pub sees_wrong : (source : StoreMap) (number : ℕ) (old : Option ℕ) → ¬ Is (rows_key source number)
      → Sees Is Asked (IsOne source number) old (with_key old (rows_key source number) false)
  sees_wrong source number old wrong = record {
    wrong = λ is. wrong_too old (rows_key source number) wrong is true;
    lower = λ key low. (lesser_below old (rows_key source number) key low).0;
    seen = λ other own one asked low.
        let same = number_is source other number own one.0 one.1 in
        let less = (lesser_below old (rows_key source number) (rows_key other own) low).1 in
        absurd (omega (arith, same, less));
  }

-- all keys of a map of rows

module _ (style : StyleOf) (image : Image) (nodes : NodeMap) (ways relations : ObjectMap) (own : HeldOf)
    (tells : Tells own image nodes ways relations) (found : Option ℕ) where
  abbrev objects : ObjectSet
  objects = objects_of nodes ways relations

  abbrev Kept : StoreMap → ℕ → Type 0
  Kept source number = IsSome (finite.get (image.maps (map_number source)) number)

  abbrev SeesAll : StoreMap → Type 0
  SeesAll map = SeesRows style image nodes ways relations map (λ source number. GoesWith map source × Kept source number) None found

  node_right : (sees : SeesAll stored.NodeRows) (key : ℕ) → IsBelow found key → (node rows : Option (List ℕ))
      → finite.get (image.maps 0) key ≡ node → finite.get (image.maps 6) key ≡ rows
      → IsRightIn style image nodes ways relations stored.NodeRows key
  node_right sees key low (Some bytes) rows node_is rows_is =
      sees.seen stored.Nodes key (tt, subst IsSome (sym node_is) refl) tt low
  node_right sees key low None (Some bytes) node_is rows_is =
      sees.seen stored.NodeRows key (tt, subst IsSome (sym rows_is) refl) (no_node node_is) low
    where
      no_node : finite.get (image.maps 0) key ≡ None → finite.get objects (node_key key) ≡ None
      no_node is = get_node nodes ways relations key ∙ ap (option_map bare) (none_at _ _ _ _ (tells.read.nodes_read key) is)
  node_right sees key low None None node_is rows_is =
      none_right style image nodes objects stored.NodeRows key (node_key key) refl None (sym rows_is)
      (knows_none (none_at _ _ _ _ (tells.read.nodes_read key) node_is))
      (get_node nodes ways relations key ∙ ap (option_map bare) (none_at _ _ _ _ (tells.read.nodes_read key) node_is)) refl
    where
      knows_none : finite.get nodes key ≡ None → IfUnknown (finite.get nodes key) (λ place. ⊥) (Unit {0})
      knows_none is = subst (λ (record_there : Option NodeRecord). IfUnknown record_there (λ place. ⊥) (Unit {0})) (sym is) tt

  module _ (sees : SeesAll stored.OtherRows) where
    no_way : (id : ℕ) → finite.get (image.maps 1) id ≡ None → finite.get objects (way_key id) ≡ None
    no_way id is = get_way nodes ways relations id ∙ none_at _ _ _ _ (tells.read.ways_read id) is

    no_relation : (id : ℕ) → finite.get (image.maps 2) id ≡ None → finite.get objects (relation_key id) ≡ None
    no_relation id is = get_relation nodes ways relations id ∙ none_at _ _ _ _ (tells.read.relations_read id) is

    way_right : (id : ℕ) → IsBelow found (2 * id) → (way rows : Option (List ℕ)) → finite.get (image.maps 1) id ≡ way
        → finite.get (image.maps 7) (2 * id) ≡ rows → IsRightIn style image nodes ways relations stored.OtherRows (2 * id)
    way_right id low (Some bytes) rows way_is rows_is = sees.seen stored.Ways id (tt, subst IsSome (sym way_is) refl) tt low
    way_right id low None (Some bytes) way_is rows_is =
        sees.seen stored.OtherRows (2 * id) (tt, subst IsSome (sym rows_is) refl)
        (ap (finite.get objects) (way_number id) ∙ no_way id way_is) low
    way_right id low None None way_is rows_is =
        none_right style image nodes objects stored.OtherRows (2 * id) (way_key id) (way_number id) None (sym rows_is) tt (no_way id way_is)
        refl

    relation_right : (id : ℕ) → IsBelow found (2 * id + 1) → (relation rows : Option (List ℕ)) → finite.get (image.maps 2) id ≡ relation
        → finite.get (image.maps 7) (2 * id + 1) ≡ rows → IsRightIn style image nodes ways relations stored.OtherRows (2 * id + 1)
    relation_right id low (Some bytes) rows is rows_is = sees.seen stored.Relations id (tt, subst IsSome (sym is) refl) tt low
    relation_right id low None (Some bytes) is rows_is =
        sees.seen stored.OtherRows (2 * id + 1) (tt, subst IsSome (sym rows_is) refl)
        (ap (finite.get objects) (relation_number id) ∙ no_relation id is) low
    relation_right id low None None is rows_is =
        none_right style image nodes objects stored.OtherRows (2 * id + 1) (relation_key id) (relation_number id) None (sym rows_is) tt
        (no_relation id is) refl

    other_right : (key : ℕ) → IsBelow found key → (b : Bool) → nat_eq (key % 2) 0 ≡ b
        → IsRightIn style image nodes ways relations stored.OtherRows key
    other_right key low true even =
        let same : 2 * (key / 2) ≡ key = grind (arith, nat_tests) in
        subst (λ (k : ℕ). IsRightIn style image nodes ways relations stored.OtherRows k) same
        (way_right (key / 2) (subst (λ (k : ℕ). IsBelow found k) (sym same) low) (finite.get (image.maps 1) (key / 2))
        (finite.get (image.maps 7) (2 * (key / 2))) refl refl)
    other_right key low false odd =
        let same : 2 * (key / 2) + 1 ≡ key = grind (arith, nat_tests) in
        subst (λ (k : ℕ). IsRightIn style image nodes ways relations stored.OtherRows k) same
        (relation_right (key / 2) (subst (λ (k : ℕ). IsBelow found k) (sym same) low) (finite.get (image.maps 2) (key / 2))
        (finite.get (image.maps 7) (2 * (key / 2) + 1)) refl refl)

  least_of : (Is : ℕ → Type 0) (least : Option ℕ) → IfSome least (λ key. ¬ Is key) → ((key : ℕ) → IsBelow least key → Is key) → IsLeast Is least
  least_of Is None wrong right = λ key all. right key tt
  least_of Is (Some least) wrong right = (wrong, λ key low all. right key low)

  pub all_seen : (map : StoreMap) → 6 ≤ map_number map → SeesAll map → IsLeast (IsRightIn style image nodes ways relations map) found
  all_seen stored.NodeRows rows sees = least_of (IsRightIn style image nodes ways relations stored.NodeRows) found (sees.wrong tt)
      (λ key low. node_right sees key low (finite.get (image.maps 0) key) (finite.get (image.maps 6) key) refl refl)
  all_seen stored.OtherRows rows sees = least_of (IsRightIn style image nodes ways relations stored.OtherRows) found (sees.wrong tt)
      (λ key low. other_right sees key low (nat_eq (key % 2) 0) refl)
  all_seen stored.Nodes rows sees = absurd (omega (arith, rows))
  all_seen stored.Ways rows sees = absurd (omega (arith, rows))
  all_seen stored.Relations rows sees = absurd (omega (arith, rows))
  all_seen stored.WaysOfBlocks rows sees = absurd (omega (arith, rows))
  all_seen stored.RelationsOfNodes rows sees = absurd (omega (arith, rows))
  all_seen stored.RelationsOfWays rows sees = absurd (omega (arith, rows))
