-- Records of nodes are written anew, one after another.
use Rattle.std.proofs.Common.{◌≡◌, ◌≢◌, ◌⊎◌, inl, inr, ◌<◌, ◌≤◌, ◌+◌, ◌%◌, ◌||◌, ◌&&◌, ℕ, zero, suc, Bool, true, false, cond, List, [], ◌∷◌}
use Rattle.std.proofs.Common.{◌++◌, length, take, get_or, Option, Some, None, Result, Ok, Err, IfErr, refl, sym, ap, subst, ◌∙◌, arith}
use Rattle.std.proofs.Common.{mod-lt}
use Rattle.std.specs.List.{AllByRecursion}
use Rattle.std.specs.Option.{IsSome}
use Rattle.std.specs.Prelude.{T}
use Rattle.std.specs.Ordering.{is_eq, is_lt, nat_cmp}
use Rattle.std.specs.declared.cmp.Ordering.{Ordering}
use Rattle.std.specs.FinMap as finite
use Rattle.std.specs.FinMap.Entries.{below_all, find, is_sorted}
use Rattle.std.proofs.lemmas.Bool.{cases_eq}
use Rattle.std.proofs.lemmas.List.{take_more}
use Rattle.std.proofs.Math.Nat.{mod-eq_of_lt}
use Rattle.osm_base.specs.declared.values.key.Kind.TheVariants as kinds
use Rattle.osm_base.specs.values.Place.{PlaceOf}
use Rattle.outside.specs.declared.disk.Disk.{Ghosts}
use Rattle.style_read.specs.declared.style.TableDef.{TableDef}
use Rattle.page_journal.specs.Journal.{is_broken}
use Rattle.page_journal.specs.declared.fault.StoreFault.{StoreFault}
use Rattle.chain_store.specs.Chains.{OnlyRead, journal_of}
use Rattle.chain_store.specs.declared.chains.Chains.{Chains}
use Rattle.bucket_records.specs.Records.{BucketMap}
use Rattle.bucket_records.proofs.MapLaws.{apart_of, equal_of}
use Rattle.bucket_store.specs.Image.{Has, Image, IsBucketOf, IsSoundAnswer, OnlyLooks, with_value}
use Rattle.bucket_store.specs.Transaction.{IsReady, chains_of, has_refused}
use Rattle.bucket_store.specs.Typed.{Touches, refusal_of}
use Rattle.bucket_store.specs.declared.buckets.Buckets.{Buckets}
use Rattle.bucket_store.proofs.Holding.{looks_same}
use Rattle.bucket_store.proofs.Images.{part_gives, part_none}
use Rattle.bucket_store.proofs.TypedLaws.{read_same}
use Rattle.middle_nodes.specs.Old.{IsOldPlace, IsOldRecord, old_bytes, old_record_bytes, unknown}
use Rattle.value_bytes.specs.Nodes.{IsRecord, record_bytes}
use Rattle.value_bytes.specs.StoreMap.{map_number}
use Rattle.value_bytes.specs.declared.store_map.StoreMap.TheVariants.{Nodes}
use Rattle.value_bytes.specs.declared.nodes.NodeRecord.{NodeRecord}
use Rattle.value_bytes.specs.Objects.{object_bytes, IsStored}
use Rattle.row_store.specs.Loading.{Among, Looks}
use Rattle.row_store.specs.Rows.{rows_bytes, AreRows}
use Rattle.row_store.proofs.LoadLaws.{all_among, among_more, bucket_split}
use Rattle.row_store.proofs.LookLaws.{looks_on, still_whole}
use Rattle.value_bytes.specs.Forms.{IsNoValue, NeedsFor}
use Rattle.value_bytes.specs.Maps.{Decodes, HoldsMap}
use Rattle.value_bytes.specs.Options.{IsOption, option_bytes}
use Rattle.value_bytes.specs.Tags.{AreTags, tags_bytes}
use Rattle.value_bytes.specs.declared.fault.ValueFault.{ValueFault}
use Rattle.value_bytes.specs.declared.fault.ValueFault.TheVariants.{NotSpelled, OutOfMemory}
use Rattle.back_index.specs.Asking.{reads_none}
use Rattle.back_index.specs.Ids.{ids_bytes, AreListed}
use Rattle.back_index.specs.Visits.{Refuses}
use Rattle.back_index.proofs.Chained.{count_same, page_same}
use Rattle.back_index.proofs.ReadKeys.{reads_result, reads_then}
use Rattle.back_index.proofs.Reading.{refuses_more, refuses_result}
use Rattle.back_index.proofs.Turning.{only_none, only_then, sets_put}
use Rattle.store_maps.specs.Maps.{Maps}
use Rattle.update_flow.specs.maps.Held.{Beside, HasOldMaps}
use Rattle.store_check.specs.Kept.{HoldsMaps, HoldsOldMaps}
use Rattle.update_flow.specs.maps.Migrating.{Any, AreThere, HasOldUnread, IsIn, IsRenewed, LooksOnce, Renews, RenewsOnce}
use Rattle.update_flow.proofs.Settings.{sound_none}

or_none : (b : Bool) → (b || false) ≡ b
or_none true = refl
or_none false = refl

nothing : (bytes : List ℕ) → None ≡ Some bytes → ⊥
nothing bytes e = cc

some_or_none : (o : Option (List ℕ)) → ((bytes : List ℕ) × (o ≡ Some bytes)) ⊎ (o ≡ None)
some_or_none None = inr refl
some_or_none (Some bytes) = inl (bytes, refl)

some_is : (o : Option (List ℕ)) (bytes : List ℕ) → o ≡ Some bytes → IsSome o
some_is o bytes same = subst (λ (o : Option (List ℕ)). IsSome o) (sym same) refl

-- each entry of a map is found in it
left : (a b : Bool) → T (a && b) → T a
left true b p = tt
left false b p = p

right : (a b : Bool) → T (a && b) → T b
right true b p = p
right false b p = absurd p

later : (a b : ℕ) → T (is_lt (nat_cmp a b)) → b ≢ a
later a b less same = absurd (subst (λ (r : Ordering). T (is_lt r)) (equal_of a b (sym same)) less)

shifted : (x : ℕ × List ℕ) (all es : List (ℕ × List ℕ)) → T (below_all nat_cmp x.0 es)
    → AllByRecursion (λ e. find nat_cmp e.0 all ≡ Some e.1) es
    → AllByRecursion (λ e. find nat_cmp e.0 (x ∷ all) ≡ Some e.1) es
shifted x all [] low each = tt
shifted x all (e ∷ es) low each = (
  ap (λ (b : Bool). cond b (Some x.1) (find nat_cmp e.0 all))
      (apart_of e.0 x.0 (later x.0 e.0 (left (is_lt (nat_cmp x.0 e.0)) (below_all nat_cmp x.0 es) low))) ∙ each.0,
  shifted x all es (right (is_lt (nat_cmp x.0 e.0)) (below_all nat_cmp x.0 es) low) each.1,
)

entries_found : (es : List (ℕ × List ℕ)) → T (is_sorted nat_cmp es) → AllByRecursion (λ e. find nat_cmp e.0 es ≡ Some e.1) es
entries_found [] sorted = tt
entries_found (x ∷ es) sorted = (
  ap (λ (r : Ordering). cond (is_eq r) (Some x.1) (find nat_cmp x.0 es)) (equal_of x.0 x.0 refl),
  shifted x es es (left (below_all nat_cmp x.0 es) (is_sorted nat_cmp es) sorted)
      (entries_found es (right (below_all nat_cmp x.0 es) (is_sorted nat_cmp es) sorted)),
)

each_so : (One Two : ℕ × List ℕ → Type 0) (es : List (ℕ × List ℕ)) → ((e : ℕ × List ℕ) → One e → Two e) → AllByRecursion One es
    → AllByRecursion Two es
each_so One Two [] leads each = tt
each_so One Two (e ∷ es) leads each = (leads e each.0, each_so One Two es leads each.1)

abbrev AreIn : BucketMap → List (ℕ × List ℕ) → Type 0
AreIn values records = AllByRecursion (λ one. finite.get values one.0 ≡ Some one.1) records

entries_in : (values : BucketMap) → AreIn values (finite.entries values)
entries_in values =
    each_so (λ e. find nat_cmp e.0 (finite.entries values) ≡ Some e.1) (λ e. finite.get values e.0 ≡ Some e.1) (finite.entries values)
    (λ e found. finite.get-entries values e.0 ∙ found) (entries_found (finite.entries values) (finite.entries_sorted values))

among_in : (values : BucketMap) (records : List (ℕ × List ℕ)) (id : ℕ) → AreIn values records → Among records id
    → (bytes : List ℕ) × (finite.get values id ≡ Some bytes)
among_in values [] id each among = absurd among
among_in values (one ∷ records) id each (inl same) = (one.1, subst (λ (k : ℕ). finite.get values k ≡ Some one.1) same each.0)
among_in values (one ∷ records) id each (inr more) = among_in values records id each.1 more

-- the records of a bucket are those of its map, and they alone are of the bucket
module _ (now : Image) (bucket : ℕ) (records : List (ℕ × List ℕ)) (are : IsBucketOf now (map_number Nodes) bucket records) where
  own_are : AreIn are.own records
  own_are = subst (AreIn are.own) (sym are.are) (entries_in are.own)

  of_bucket : (id : ℕ) (bytes : List ℕ) → finite.get are.own id ≡ Some bytes → id % now.root.buckets ≡ bucket
  of_bucket id bytes same = elim (cases_eq (id % now.root.buckets) bucket) [
    | inl mine ↦ mine
    | inr apart ↦ absurd (nothing bytes (sym (part_none now.root.buckets bucket (now.maps (map_number Nodes)) are.own id are.part apart)
        ∙ same))
  ]

  pub records_there : AreThere now records
  records_there =
      each_so (λ one. finite.get are.own one.0 ≡ Some one.1) (λ one. finite.get (now.maps (map_number Nodes)) one.0 ≡ Some one.1) records
      (λ one same. sym (part_gives now.root.buckets bucket (now.maps (map_number Nodes)) are.own one.0 are.part (of_bucket one.0 one.1 same))
      ∙ same)
      own_are

  among_mine : (id : ℕ) → Among records id → id % now.root.buckets ≡ bucket
  among_mine id among = let found = among_in are.own records id own_are among in of_bucket id found.0 found.1

  pub renews_bucket : (after : Image) → Renews (Among records) now after → Renews (λ id. id % now.root.buckets ≡ bucket) now after
  renews_bucket after renews = record {
    only = renews.only;
    here = λ id mine. elim (some_or_none (finite.get (now.maps (map_number Nodes)) id)) [
      | inl some ↦
          renews.here id (all_among [] None (map_number Nodes) (λ spot. None) now bucket records are id
          (some_is (finite.get (now.maps (map_number Nodes)) id) some.0 some.1) mine)
      | inr none ↦
          subst (λ (o : Option (List ℕ)). IsRenewed o (finite.get (after.maps (map_number Nodes)) id)) (sym none)
          (renews.beside id (λ among. let found = among_in (now.maps (map_number Nodes)) records id records_there among in
          nothing found.0 (sym none ∙ found.1)) ∙ none)
    ];
    beside = λ id out. renews.beside id (λ among. out (among_mine id among));
  }

-- a record more
front_among : (front : List (ℕ × List ℕ)) (own : ℕ × List ℕ) (id : ℕ) → Among front id → Among (front ++ own ∷ []) id
front_among [] own id among = absurd among
front_among (one ∷ front) own id (inl same) = inl same
front_among (one ∷ front) own id (inr more) = inr (front_among front own id more)

last_among : (front : List (ℕ × List ℕ)) (own : ℕ × List ℕ) → Among (front ++ own ∷ []) own.0
last_among [] own = inl refl
last_among (one ∷ front) own = inr (last_among front own)

pub among_at : (records : List (ℕ × List ℕ)) (at : ℕ) (one : ℕ × List ℕ) → at < length records → one ≡ get_or records at one
    → Among records one.0
among_at [] at one within is = absurd (omega (arith, within))
among_at (first ∷ records) zero one within is = inl (ap (λ (e : ℕ × List ℕ). e.0) (sym is))
among_at (first ∷ records) (suc at) one within is = inr (among_at records at one (omega (arith, within)) is)

pub renews_none : (now : Image) → Renews (Among []) now now
renews_none now = record { only = only_none (map_number Nodes) now; here = λ id none. absurd none; beside = λ id out. refl }

renews_value : (One All : ℕ → Type 0) (now mid : Image) (own : ℕ) (bytes : List ℕ) (place : Option PlaceOf)
    → ((id : ℕ) → All id → One id ⊎ (own ≡ id))
    → ((id : ℕ) → One id → All id) → All own → Renews One now mid → finite.get (now.maps (map_number Nodes)) own ≡ Some bytes
    → IsOldPlace place
    → bytes ≡ old_bytes place
    → Renews All now (with_value (map_number Nodes) own (Some (record_bytes (unknown place))) mid)
renews_value One All now mid own bytes place split leads mine before there is same =
    let after = with_value (map_number Nodes) own (Some (record_bytes (unknown place))) mid in
    let sets = sets_put (map_number Nodes) own (Some (record_bytes (unknown place))) mid in
    record {
      only = only_then (map_number Nodes) now mid after before.only sets.only;
      here = λ id all. elim (cases_eq id own) [
        | inl this ↦
            subst (λ (k : ℕ). IsRenewed (finite.get (now.maps (map_number Nodes)) k) (finite.get (after.maps (map_number Nodes)) k))
            (sym this)
            (subst (λ (o : Option (List ℕ)). IsRenewed o (finite.get (after.maps (map_number Nodes)) own)) (sym there)
            (place, is, same, sets.here))
        | inr apart ↦ elim (split id all) [
          | inl one ↦ subst (λ (o : Option (List ℕ)). IsRenewed (finite.get (now.maps (map_number Nodes)) id) o) (sym (sets.beside id apart))
              (before.here id one)
          | inr this ↦ absurd (apart (sym this))
        ]
      ];
      beside = λ id out. sets.beside id (λ this. out (subst All (sym this) mine)) ∙ before.beside id (λ one. out (leads id one));
    }

pub renews_more : (records : List (ℕ × List ℕ)) (at : ℕ) (one : ℕ × List ℕ) (now mid : Image) (bytes : List ℕ) (place : Option PlaceOf)
    → at < length records
    → one ≡ get_or records at one → Renews (Among (take at records)) now mid → finite.get (now.maps (map_number Nodes)) one.0 ≡ Some bytes
    → IsOldPlace place
    → bytes ≡ old_bytes place → Renews (Among (take (at + 1) records)) now
    (with_value (map_number Nodes) one.0 (Some (record_bytes (unknown place))) mid)
renews_more records at one now mid bytes place within is before there spelled same =
    let more = take_more records at one within in
    let last : Among (take (at + 1) records) one.0 =
    subst (λ (l : List (ℕ × List ℕ)). Among l one.0) (sym more)
    (subst (λ (e : ℕ × List ℕ). Among (take at records ++ e ∷ []) one.0) is (last_among (take at records) one)) in
    renews_value (Among (take at records)) (Among (take (at + 1) records)) now mid one.0 bytes place
    (λ id all. among_more records at one id within is all)
    (λ id among. subst (λ (l : List (ℕ × List ℕ)). Among l id) (sym more) (front_among (take at records) (get_or records at one) id among))
    last before there spelled same

-- a bucket more, and all buckets
pub renews_next : (now mid after : Image) (bucket : ℕ) → bucket < now.root.buckets → Renews (λ id. id % now.root.buckets < bucket) now mid
    → Renews (IsIn mid.root.buckets bucket) mid after → Renews (λ id. id % now.root.buckets < bucket + 1) now after
renews_next now mid after bucket low before second =
    let count : mid.root.buckets ≡ now.root.buckets = λ i. (before.only.root i).buckets in
    let next = subst (λ (k : ℕ). Renews (IsIn k bucket) mid after) count second in
    let own : bucket % now.root.buckets ≡ bucket = mod-eq_of_lt low in
    record {
      only = only_then (map_number Nodes) now mid after before.only next.only;
      here = λ id below. elim (bucket_split id bucket now.root.buckets low below) [
        | inl less ↦
            subst (λ (o : Option (List ℕ)). IsRenewed (finite.get (now.maps (map_number Nodes)) id) o)
            (sym (next.beside id (λ mine. omega (arith, mine, own, less))))
            (before.here id less)
        | inr mine ↦
            subst (λ (o : Option (List ℕ)). IsRenewed o (finite.get (after.maps (map_number Nodes)) id))
            (before.beside id (λ less. omega (arith, mine, own, less))) (next.here id mine)
      ];
      beside = λ id out. next.beside id (λ mine. out (omega (arith, mine, own))) ∙ before.beside id (λ less. out (omega (arith, less)));
    }

pub renews_all : (now after : Image) (bucket : ℕ) → 1 ≤ now.root.buckets → now.root.buckets ≤ bucket
    → Renews (λ id. id % now.root.buckets < bucket) now after
    → Renews Any now after
renews_all now after bucket some past renews = record {
  only = renews.only;
  here = λ id any. renews.here id (let low : id % now.root.buckets < now.root.buckets = mod-lt id (omega (arith, some)) in
      omega (arith, low, past));
  beside = λ id out. absurd (out tt);
}

pub renews_first : (now : Image) → Renews (λ id. id % now.root.buckets < 0) now now
renews_first now = record {
  only = only_none (map_number Nodes) now;
  here = λ id none. absurd (omega (arith, none));
  beside =
      λ id out. refl;
}

-- what old maps hold is held anew
no_tags : IsOption AreTags None
unfolding IsOption
no_tags = tt

unknown_bytes : (place : Option PlaceOf) → record_bytes (unknown place) ≡ old_bytes place ++ option_bytes tags_bytes None
unfolding record_bytes
unknown_bytes place = refl

known_bytes : (node : NodeRecord) → node.tags ≡ None → record_bytes node ≡ old_bytes node.place ++ option_bytes tags_bytes None
unfolding record_bytes
known_bytes node none = λ i. old_bytes node.place ++ option_bytes tags_bytes (none i)

renewed_one : (old new : Option (List ℕ)) (node : Option NodeRecord) → IsRenewed old new → Decodes old_record_bytes IsOldRecord old node
    → Decodes record_bytes IsRecord new node
renewed_one None new None is held = subst (λ (o : Option (List ℕ)). Decodes record_bytes IsRecord o None) (sym is) tt
renewed_one None new (Some node) is held = absurd held
renewed_one (Some bytes) new None is held = absurd held
renewed_one (Some bytes) new (Some node) is held =
    let same : record_bytes (unknown is.0) ≡ record_bytes node =
    unknown_bytes is.0 ∙ ap (λ (l : List ℕ). l ++ option_bytes tags_bytes None) (sym is.2 ∙ held.1) ∙ sym (known_bytes node held.0.tags) in
    subst (λ (o : Option (List ℕ)). Decodes record_bytes IsRecord o (Some node)) (sym is.3)
    (record { place = held.0.place; tags = still_none (sym held.0.tags) }, same)
  where
    still_none : None ≡ node.tags → IsOption AreTags node.tags
    still_none none = subst (IsOption AreTags) none no_tags

pub renewed_maps : (definitions : List TableDef) (now after : Image) (maps : Maps) → Renews Any now after
    → HoldsOldMaps definitions now.maps maps
    → HoldsMaps definitions after.maps maps
renewed_maps definitions now after maps renews held =
    let beside : (m : ℕ) → m ≢ 0 → now.maps m ≡ after.maps m = λ m apart. sym (renews.only.maps m apart) in
    record {
      nodes = λ id. renewed_one (finite.get (now.maps (map_number Nodes)) id) (finite.get (after.maps (map_number Nodes)) id)
          (finite.get maps.nodes id)
          (renews.here id tt) (held.nodes id);
      ways = subst (λ (b : BucketMap). HoldsMap object_bytes (IsStored kinds.Way) b maps.ways) (beside 1 (omega arith)) held.ways;
      relations = subst (λ (b : BucketMap). HoldsMap object_bytes (IsStored kinds.Relation) b maps.relations)
          (beside 2 (omega arith)) held.relations;
      ways_of_blocks = subst (λ (b : BucketMap). HoldsMap ids_bytes AreListed b maps.ways_of_blocks)
          (beside 3 (omega arith)) held.ways_of_blocks;
      relations_of_nodes = subst (λ (b : BucketMap). HoldsMap ids_bytes AreListed b maps.relations_of_nodes)
          (beside 4 (omega arith)) held.relations_of_nodes;
      relations_of_ways = subst (λ (b : BucketMap). HoldsMap ids_bytes AreListed b maps.relations_of_ways)
          (beside 5 (omega arith)) held.relations_of_ways;
      node_rows = subst (λ (b : BucketMap). HoldsMap rows_bytes (AreRows definitions) b maps.node_rows)
          (beside 6 (omega arith)) held.node_rows;
      other_rows = subst (λ (b : BucketMap). HoldsMap rows_bytes (AreRows definitions) b maps.other_rows)
          (beside 7 (omega arith)) held.other_rows;
    }

-- of old maps each record reads
never_unread : (bytes : List ℕ) (node : Option NodeRecord) → IsNoValue old_bytes IsOldPlace bytes
    → Decodes old_record_bytes IsOldRecord (Some bytes) node → ⊥
never_unread bytes None none held = held
never_unread bytes (Some node) none held = none node.place held.0.place held.1

module _ {D : Type 0} {g : Ghosts D} where
  pub old_sound : (definitions : List TableDef) (under : Beside) (maps : Maps) (old : Buckets D g)
      (had : HasOldMaps definitions under maps old) (fault : StoreFault)
      → Refuses (HasOldUnread Any old had.now) fault → IsSoundAnswer {T = Unit {0}} (Err fault)
  old_sound definitions under maps old had fault refuses =
      sound_none (Unit {0}) fault
      (refuses_more (HasOldUnread Any old had.now) (λ at. ⊥)
      (λ at bad. never_unread bad.bytes (finite.get maps.nodes bad.id) bad.none
      (subst (λ (o : Option (List ℕ)). Decodes old_record_bytes IsOldRecord o (finite.get maps.nodes bad.id)) bad.there
      (had.kept.nodes bad.id)))
      fault refuses)

  -- what does not read in the bucket that is next did not read before
  pub unread_next : (old mid : Buckets D g) (now image : Image) (bucket : ℕ) (fault : StoreFault) → bucket < now.root.buckets
      → OnlyRead (chains_of old) (chains_of mid)
      → Renews (λ id. id % now.root.buckets < bucket) now image → Refuses (HasOldUnread (IsIn image.root.buckets bucket) mid image) fault
      → Refuses (HasOldUnread Any old now) fault
  unread_next old mid now image bucket fault low stays renews refuses =
      let count : image.root.buckets ≡ now.root.buckets = λ i. (renews.only.root i).buckets in
      let own : bucket % now.root.buckets ≡ bucket = mod-eq_of_lt low in
      refuses_more (HasOldUnread (IsIn image.root.buckets bucket) mid image) (HasOldUnread Any old now)
      (λ at bad.
      let mine : IsIn now.root.buckets bucket bad.id = subst (λ (k : ℕ). IsIn k bucket bad.id) count bad.among in
      record {
        id = bad.id;
        among = tt;
        bytes = bad.bytes;
        there = sym (renews.beside bad.id (λ less. omega (arith, mine, own, less))) ∙ bad.there;
        none = bad.none;
        page_is = bad.page_is ∙ page_same old mid (map_number Nodes) bad.id stays;
      }) fault refuses

  pub unread_bucket : (old mid : Buckets D g) (now : Image) (bucket : ℕ) (records : List (ℕ × List ℕ))
      → IsBucketOf now (map_number Nodes) (bucket % now.root.buckets) records
      → (result : Result (Unit {0}) StoreFault) → OnlyRead (chains_of old) (chains_of mid)
      → IfErr result (Refuses (HasOldUnread (Among records) mid now))
      → IfErr result (Refuses (HasOldUnread (IsIn now.root.buckets bucket) old now))
  unread_bucket old mid now bucket records are result stays refuses =
      refuses_result (Unit {0}) (HasOldUnread (Among records) mid now) (HasOldUnread (IsIn now.root.buckets bucket) old now) result
      (λ at bad. record {
        id = bad.id;
        among = among_mine now (bucket % now.root.buckets) records are bad.id bad.among;
        bytes = bad.bytes;
        there = bad.there;
        none = bad.none;
        page_is = bad.page_is ∙ page_same old mid (map_number Nodes) bad.id stays;
      }) refuses

  -- looks, one after another
  looks_none : (buckets : Buckets D g) → has_refused buckets ≡ false → Looks {T = Unit {0}} buckets buckets (Ok tt)
  looks_none buckets going = record {
    same = looks_same buckets;
    stays = read_same buckets buckets refl;
    alone = tt;
    broken = sym (or_none (is_broken (journal_of (chains_of buckets))));
    refused = going;
    cause = record { later = omega arith; failed = λ is. absurd (cc) };
  }

  looks_then : {T : Type 0} (old mid new : Buckets D g) (result : Result T StoreFault) → Looks {T = Unit {0}} old mid (Ok tt)
      → Looks mid new result
      → Looks old new result
  looks_then old mid new result first second = looks_on old mid new result first.same first.stays (still_whole old mid tt first) second

  touched_looks : {T : Type 0} (which key : ℕ) (old new : Buckets D g) (result : Result T StoreFault) → Touches which key old new result
      → Looks old new result
  touched_looks which key old new result does = record {
    same = does.same;
    stays = does.stays;
    alone = does.alone;
    broken = does.broken;
    refused = does.refused;
    cause = does.cause;
  }

  -- and each bucket once
  pub once_none : (buckets : Buckets D g) → has_refused buckets ≡ false → LooksOnce {T = Unit {0}} buckets buckets (Ok tt)
  once_none buckets going = record { looks = looks_none buckets going; reads = reads_none buckets }

  -- what was looked at, and how it may be refused
  pub once_of : {T : Type 0} {Given : Image → Type 0} {Damage : Image → ℕ → Type 0} {old new : Buckets D g} {result : Result T StoreFault}
      → RenewsOnce Given Damage old new result → LooksOnce old new result
  once_of does = record { looks = does.looks; reads = does.reads }

  pub renews_once : {T : Type 0} {Given : Image → Type 0} {Damage : Image → ℕ → Type 0} {old new : Buckets D g}
      {result : Result T StoreFault} → LooksOnce old new result
      → ((rest now : Image) → Has rest now old → Given now → IfErr result (Refuses (Damage now))) → RenewsOnce Given Damage old new result
  renews_once once stops = record { looks = once.looks; reads = once.reads; stops = stops }

  -- after a call that is not refused the next one may come
  pub ready_once : (old new : Buckets D g) → IsReady old → LooksOnce {T = Unit {0}} old new (Ok tt) → IsReady new
  ready_once old new ready did = record {
    going = did.looks.refused;
    some = subst (λ (n : ℕ). 1 ≤ n) (sym (count_same old new did.looks.stays)) ready.some;
  }

  pub once_then : {T : Type 0} (old mid new : Buckets D g) (result : Result T StoreFault) → LooksOnce {T = Unit {0}} old mid (Ok tt)
      → LooksOnce mid new result
      → LooksOnce old new result
  once_then old mid new result first second = record {
    looks = looks_then old mid new result first.looks second.looks;
    reads = reads_then old mid new result first.reads second.reads;
  }

  pub once_key : {T : Type 0} (which key : ℕ) (old new : Buckets D g) (result : Result T StoreFault) → Touches which key old new result
      → LooksOnce old new result
  once_key which key old new result does = record {
    looks = touched_looks which key old new result does;
    reads = reads_result old new which key result does.reads;
  }

  module _ (old new : Buckets D g) (page : ℕ) (chains : chains_of new ≡ chains_of old) (refused : has_refused new ≡ true)
      (same : OnlyLooks old new) where
    as_broken : is_broken (journal_of (chains_of new)) ≡ (is_broken (journal_of (chains_of old)) || false)
    as_broken = ap (λ (c : Chains D g). is_broken (journal_of c)) chains ∙ sym (or_none (is_broken (journal_of (chains_of old))))

    refused_looks : (fault : ValueFault) → Looks {T = Unit {0}} old new (Err (refusal_of fault page))
    refused_looks NotSpelled = record {
      same = same;
      stays = read_same old new chains;
      alone = tt;
      broken = as_broken;
      refused = refused;
      cause = record { later = same.later; failed = λ is. absurd (cc) };
    }
    refused_looks OutOfMemory = record {
      same = same;
      stays = read_same old new chains;
      alone = tt;
      broken = as_broken;
      refused = refused;
      cause = record { later = same.later; failed = λ is. absurd (cc) };
    }

    pub value_once : (fault : ValueFault) (refusal : StoreFault) → refusal ≡ refusal_of fault page
        → LooksOnce {T = Unit {0}} old new (Err refusal)
    value_once fault refusal is = record {
      looks =
          subst (λ (r : StoreFault). Looks {T = Unit {0}} old new (Err r)) (sym is) (refused_looks fault);
      reads = tt;
    }

-- a value that does not read is refused so
refuses_one : (Fact : Type 0) (page : ℕ) (fault : ValueFault) → NeedsFor Fact fault
    → Refuses (λ at. Fact × (at ≡ page)) (refusal_of fault page)
refuses_one Fact page NotSpelled fact = (fact, refl)
refuses_one Fact page OutOfMemory fact = tt

pub refuses_value : (Fact : Type 0) (page : ℕ) (fault : ValueFault) (refusal : StoreFault) → refusal ≡ refusal_of fault page
    → NeedsFor Fact fault
    → Refuses (λ at. Fact × (at ≡ page)) refusal
refuses_value Fact page fault refusal is fact =
    subst (λ (r : StoreFault). Refuses (λ at. Fact × (at ≡ page)) r) (sym is) (refuses_one Fact page fault fact)
