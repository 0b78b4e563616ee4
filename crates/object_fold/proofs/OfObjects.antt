-- What the objects in memory answer of who lists an object.
use Rattle.std.proofs.Common.{◌≡◌, ℕ, false, List, [], Some, None, Result, Ok, Err, IfOk, sym, ap, subst, ◌∙◌}
use mathlib.Core.Bool.{false≢true}
use Rattle.std.specs.Option.{is_some, unwrap_or}
use Rattle.std.specs.Ordering.{nat_cmp}
use Rattle.std.specs.BTreeMap.{BTreeMap, get_by}
use Rattle.std.specs.FinMap as finite
use Rattle.osm_base.specs.declared.values.key.Kind.{Kind}
use Rattle.osm_base.specs.declared.values.key.Kind.TheVariants.{Node, Way, Relation}
use Rattle.osm_base.specs.declared.bounds.memory.OutOfMemory.{OutOfMemory}
use Rattle.osm_base.specs.declared.values.object.Object.{Object}
use Rattle.osm_base.specs.values.Ids.{AreRisingIds}
use Rattle.osm_base.specs.values.Key.{KeyOf}
use Rattle.osm_base.specs.values.KeyOrder.{key_cmp}
use Rattle.osm_base.proofs.KeyLaws.{key_cmp_total, key_cmp-IsAntisymmetric, tree_cmp, tree_cmp-key_cmp}
use Rattle.object_fold.specs.declared.listed.Listed.{Listed}
use Rattle.object_fold.specs.declared.listings.Listings.{Listings}
use Rattle.osm_base.specs.map.Objects.{ObjectSet, objects_in}
use Rattle.osm_base.specs.map.Listers.{ids_of, lists}
use Rattle.object_fold.specs.Listing.{ListingOf, listers, is_listed}
use Rattle.osm_base.specs.values.Ids.{IsRising, has}
use Rattle.object_fold.specs.Listings.{AreListed, AreListedBy, AreListingsOf}
use Rattle.osm_base.proofs.Found.{found}
use Rattle.object_fold.proofs.IndexOf.{listers-are, ids_of-ids}

module _ (tree : BTreeMap KeyOf Object) (listings : Listings) (own : ObjectSet) (view : objects_in tree ≡ own)
    (are : AreListingsOf (objects_in tree) listings) (id : ℕ) where
  pub ways_of_nodes-are : (ids : List ℕ) → ids ≡ listers listings.ways_of_nodes id → IsRising ids → ids ≡ ids_of Way Node id own
  ways_of_nodes-are ids is rise =
      subst (λ (objects : ObjectSet). ids ≡ ids_of Way Node id objects) view
      (listers-are (objects_in tree) Way Node id ids rise (λ by. ap (λ ids. has ids by) is ∙ are.told.ways_of_nodes id by))

  pub relations_of_nodes-are : (ids : List ℕ) → ids ≡ listers listings.relations_of_nodes id → IsRising ids
      → ids ≡ ids_of Relation Node id own
  relations_of_nodes-are ids is rise =
      subst (λ (objects : ObjectSet). ids ≡ ids_of Relation Node id objects) view
      (listers-are (objects_in tree) Relation Node id ids rise (λ by. ap (λ ids. has ids by) is ∙ are.told.relations_of_nodes id by))

  pub relations_of_ways-are : (ids : List ℕ) → ids ≡ listers listings.relations_of_ways id → IsRising ids → ids ≡ ids_of Relation Way id own
  relations_of_ways-are ids is rise =
      subst (λ (objects : ObjectSet). ids ≡ ids_of Relation Way id objects) view
      (listers-are (objects_in tree) Relation Way id ids rise (λ by. ap (λ ids. has ids by) is ∙ are.told.relations_of_ways id by))

  pub ways_of_nodes-ids : AreRisingIds (ids_of Way Node id own)
  ways_of_nodes-ids = subst (λ (objects : ObjectSet). AreRisingIds (ids_of Way Node id objects)) view
      (ids_of-ids (objects_in tree) are.ids Way Node id)

  pub relations_of_nodes-ids : AreRisingIds (ids_of Relation Node id own)
  relations_of_nodes-ids = subst (λ (objects : ObjectSet). AreRisingIds (ids_of Relation Node id objects)) view
      (ids_of-ids (objects_in tree) are.ids Relation Node id)

  pub relations_of_ways-ids : AreRisingIds (ids_of Relation Way id own)
  relations_of_ways-ids = subst (λ (objects : ObjectSet). AreRisingIds (ids_of Relation Way id objects)) view
      (ids_of-ids (objects_in tree) are.ids Relation Way id)

-- a copy of them
pub copy-ids : (copy : Result (List ℕ) OutOfMemory) (ids : List ℕ) {all : List ℕ} → IfOk copy (λ own. own ≡ ids) → ids ≡ all
    → IfOk copy (λ own. own ≡ all)
copy-ids (Ok own) ids same is = same ∙ is
copy-ids (Err why) ids same is = tt

pub copy-rising : (copy : Result (List ℕ) OutOfMemory) (ids : List ℕ) {all : List ℕ} → IfOk copy (λ own. own ≡ ids) → ids ≡ all
    → AreRisingIds all → IfOk copy AreRisingIds
copy-rising (Ok own) ids same is rising = subst AreRisingIds (sym (same ∙ is)) rising
copy-rising (Err why) ids same is rising = tt

-- a look-up in a tree of objects
pub got : (tree : BTreeMap KeyOf Object) (key : KeyOf) → get_by (tree_cmp key) tree ≡ finite.get (objects_in tree) key
got tree key = ap (λ cmp. get_by (cmp key) tree) tree_cmp-key_cmp ∙ found key_cmp key_cmp_total key_cmp-IsAntisymmetric key tree.entries

pub if_ok : {A E : Type 0} (result : Result A E) {P Q : A → Type 0} → ((value : A) → P value → Q value) → IfOk result P → IfOk result Q
if_ok (Ok value) f p = f value p
if_ok (Err why) f p = tt

pub listed_by : (tree : BTreeMap KeyOf Object) (key : KeyOf) (object : Object) → Some object ≡ finite.get (objects_in tree) key
    → (ids : Listed) → AreListed object ids → AreListedBy (finite.get (objects_in tree) key) ids
listed_by tree key object is ids are = subst (λ own. AreListedBy own ids) is (record { nodes = are.nodes; ways = are.ways })

pub listed-none : (tree : BTreeMap KeyOf Object) (key : KeyOf) (ids : Listed) → None ≡ finite.get (objects_in tree) key → ids.nodes ≡ []
    → ids.ways ≡ []
    → AreListedBy (finite.get (objects_in tree) key) ids
listed-none tree key ids is nodes ways =
    subst (λ own. AreListedBy own ids) is (record { nodes = λ id. ap (λ own. has own id) nodes; ways = λ id. ap (λ own. has own id) ways })

-- no object and no listing
pub none-listed : (tree : BTreeMap KeyOf Object) (listings : Listings) → objects_in tree ≡ finite.empty
    → listings.ways_of_nodes ≡ finite.empty
    → listings.relations_of_nodes ≡ finite.empty → listings.relations_of_ways ≡ finite.empty → AreListingsOf (objects_in tree) listings
none-listed tree listings none ways nodes relations =
    subst (λ (objects : ObjectSet). AreListingsOf objects listings) (sym none) (record {
      told = record {
        ways_of_nodes = λ id by. unlisted listings.ways_of_nodes ways id by ∙ sym (unknown Node id (record { kind = Way; id = by }));
        relations_of_nodes = λ id by. unlisted listings.relations_of_nodes nodes id by
            ∙ sym (unknown Node id (record { kind = Relation; id = by }));
        relations_of_ways = λ id by. unlisted listings.relations_of_ways relations id by
            ∙ sym (unknown Way id (record { kind = Relation; id = by }));
      };
      ids = λ key some. absurd (false≢true (ap is_some (sym (finite.get-empty key_cmp key)) ∙ some));
    })
  where
    unlisted : (listing : ListingOf) → listing ≡ finite.empty → (id by : ℕ) → is_listed listing id by ≡ false
    unlisted listing is id by = ap (λ (own : ListingOf). is_listed own id by) is
        ∙ ap (λ found. has (unwrap_or found []) by) (finite.get-empty nat_cmp id)

    unknown : (kind : Kind) (id : ℕ) (key : KeyOf) → lists kind id (finite.get {R = key_cmp} finite.empty key) ≡ false
    unknown kind id key = ap (lists kind id) (finite.get-empty key_cmp key)
