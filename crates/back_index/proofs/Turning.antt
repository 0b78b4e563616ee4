-- Lists of a store are turned, one after another.
use Rattle.std.proofs.Common.{◌≡◌, ◌≢◌, ◌<◌, ℕ, suc, zero, Bool, true, false, ◌||◌, List, [], ◌∷◌, ◌++◌, map, take, drop, drop-cons}
use Rattle.std.proofs.Common.{append_assoc, length, get_or, Option, Some, None, refl, sym, ap, subst, ◌∙◌, arith, nat_eq, if◌then◌else◌}
use Rattle.std.proofs.Math.Bool.{beq}
use Rattle.std.specs.List.{AllByRecursion}
use Rattle.std.specs.List.Sorted.{IsStrictlySortedBy}
use Rattle.std.specs.Ordering.{nat_cmp}
use Rattle.std.specs.declared.cmp.Ordering.TheVariants.{Less}
use Rattle.std.specs.FinMap as finite
use Rattle.std.proofs.lemmas.Bool.Decides.{nat_tests}
use Rattle.std.proofs.lemmas.List.{take-append-drop}
use Rattle.std.proofs.lemmas.List.Folds.{list_any-append}
use Rattle.osm_base.specs.values.Ids.{IsRising, has}
use Rattle.bucket_records.specs.Records.{BucketMap}
use Rattle.bucket_store.specs.Image.{Image, with_value}
use Rattle.bucket_store.proofs.Images.{entry_here, entry_beside, maps_here, maps_beside, root_with_value, texts_with_value}
use Rattle.value_bytes.specs.StoreMap.{map_number}
use Rattle.value_bytes.specs.declared.store_map.StoreMap.{StoreMap}
use Rattle.store_maps.specs.Step.{with_id, without_id}
use Rattle.store_maps.proofs.IdLists.{same_as}
use Rattle.back_index.specs.Relisting.{CanTurn, ReadsIds, Turns, TurnsAt, in_order, kept_list, turned}
use Rattle.back_index.specs.Visits.{IsFine, OnlyMap, Sets, StopsAt, visit_of, visits}
use Rattle.back_index.proofs.ListLaws.{in_order-same}

-- what is kept of a list that is read is what was read
pub kept_found : (found : Option (List ℕ)) (ids : List ℕ) → ReadsIds found ids → kept_list ids ≡ found
kept_found None [] reads = refl
kept_found None (id ∷ ids) reads = absurd (cc)
kept_found (Some bytes) [] reads = absurd (omega (arith, reads.0.some))
kept_found (Some bytes) (id ∷ ids) reads = ap Some (sym reads.1)

pub beq_same : (a b : Bool) → beq a b ≡ true → a ≡ b
beq_same true true is = refl
beq_same true false is = absurd (cc)
beq_same false true is = absurd (cc)
beq_same false false is = refl

pub beq_apart : (a b : Bool) → beq a b ≡ false → a ≢ b
beq_apart true true is same = absurd (cc)
beq_apart true false is same = absurd (cc)
beq_apart false true is same = absurd (cc)
beq_apart false false is same = absurd (cc)

-- a list that the old and the new form are both in, or neither, and one that one of them is in
pub turned_none : (was is : Bool) (own : ℕ) (ids : List ℕ) → was ≡ is → turned was is own ids ≡ ids
turned_none true true own ids same = refl
turned_none true false own ids same = absurd (cc)
turned_none false true own ids same = absurd (cc)
turned_none false false own ids same = refl

pub turned_one : (was is : Bool) (own : ℕ) (ids : List ℕ) → was ≢ is
    → (if is then with_id own ids else without_id own ids) ≡ turned was is own ids
turned_one true true own ids apart = absurd (apart refl)
turned_one true false own ids apart = refl
turned_one false true own ids apart = refl
turned_one false false own ids apart = absurd (apart refl)

-- one key of one map
pub sets_none : (m key : ℕ) (value : Option (List ℕ)) (now : Image) → value ≡ finite.get (now.maps m) key → Sets m key value now now
sets_none m key value now is = record {
  only = record { root = refl; texts = λ n. refl; maps = λ k apart. refl };
  here = sym is;
  beside = λ other apart. refl;
}

pub sets_put : (m key : ℕ) (value : Option (List ℕ)) (now : Image) → Sets m key value now (with_value m key value now)
sets_put m key value now = record {
  only = record {
    root = root_with_value m key value now;
    texts = texts_with_value m key value now;
    maps =
        λ k apart. maps_beside m key value now k apart;
  };
  here = ap (λ (own : BucketMap). finite.get own key) (maps_here m key value now m refl) ∙ entry_here key value (now.maps m) key refl;
  beside = λ other apart. ap (λ (own : BucketMap). finite.get own other) (maps_here m key value now m refl)
      ∙ entry_beside key value (now.maps m) other apart;
}

pub only_none : (m : ℕ) (now : Image) → OnlyMap m now now
only_none m now = record { root = refl; texts = λ n. refl; maps = λ k apart. refl }

pub only_then : (m : ℕ) (now mid after : Image) → OnlyMap m now mid → OnlyMap m mid after → OnlyMap m now after
only_then m now mid after first second = record {
  root = second.root ∙ first.root;
  texts = λ n. second.texts n ∙ first.texts n;
  maps = λ k apart. second.maps k apart ∙ first.maps k apart;
}

-- the place of an id among rising ones is its only one
above_at : (first : ℕ) (ids : List ℕ) (place d : ℕ) → AllByRecursion (λ other. nat_cmp first other ≡ Less) ids → place < length ids
    → nat_eq first (get_or ids place d) ≡ false
above_at first [] place d above within = absurd (omega (arith, within))
above_at first (id ∷ ids) zero d above within = let less = above.0 in grind (arith, nat_tests)
above_at first (id ∷ ids) (suc place) d above within = above_at first ids place d above.1 (omega (arith, within))

pub before_none : (ids : List ℕ) (place d : ℕ) → IsRising ids → place < length ids → has (take place ids) (get_or ids place d) ≡ false
unfolding IsStrictlySortedBy
before_none [] place d rise within = absurd (omega (arith, within))
before_none (first ∷ ids) zero d rise within = refl
before_none (first ∷ ids) (suc place) d rise within =
    rw (above_at first ids place d rise.0 (omega (arith, within))) (before_none ids place d rise.1 (omega (arith, within)))

-- no list is turned yet
pub turns_none : (own : ℕ) (old new : List ℕ) (before : BucketMap) → TurnsAt own old new [] before before
turns_none own old new before = record { at = λ id there. absurd (cc); others = λ id none. refl }

pub true_not : (b : Bool) → b ≡ true → b ≡ false → ⊥
true_not true is none = absurd (cc)
true_not false is none = absurd (cc)

-- and one more
module _ (own : ℕ) (m : StoreMap) (old new done : List ℕ) (now mid after : Image) (id : ℕ) (ids : List ℕ) (fresh : has done id ≡ false)
    (first : TurnsAt own old new done (now.maps (map_number m)) (mid.maps (map_number m)))
    (can : CanTurn (has old id) own (finite.get (mid.maps (map_number m)) id) ids)
    (sets : Sets (map_number m) id (kept_list (turned (has old id) (has new id) own ids)) mid after) where
  now_can : CanTurn (has old id) own (finite.get (now.maps (map_number m)) id) ids
  now_can = subst (λ (o : Option (List ℕ)). CanTurn (has old id) own o ids) (first.others id fresh) can

  pub fine_more : IsFine now own (visit_of m old new id)
  fine_more = (ids, now_can)

  one_more : (other : ℕ) → has (done ++ id ∷ []) other ≡ (has done other || (nat_eq id other || false))
  one_more other = list_any-append (λ x. nat_eq x other) done (id ∷ [])

  apart_of : (other : ℕ) → has done other ≡ true → other ≢ id
  apart_of other there same = true_not (has done other) there (ap (has done) same ∙ fresh)

  differs : (other : ℕ) → nat_eq id other ≡ false → other ≢ id
  differs other none same = true_not (nat_eq id other) (itself (sym same)) none where
    itself : id ≡ other → nat_eq id other ≡ true
    itself same = grind (arith, nat_tests)

  at_more : (other : ℕ) (b c : Bool) → has done other ≡ b → nat_eq id other ≡ c → (b || (c || false)) ≡ true
      → (ids : List ℕ) × CanTurn (has old other) own (finite.get (now.maps (map_number m)) other) ids
      × (finite.get (after.maps (map_number m)) other ≡ kept_list (turned (has old other) (has new other) own ids))
  at_more other true c there same some =
      let was = first.at other there in
      (was.0, was.1, sets.beside other (apart_of other there) ∙ was.2)
  at_more other false true there same some =
      subst (λ k. (ids : List ℕ) × CanTurn (has old k) own (finite.get (now.maps (map_number m)) k) ids
      × (finite.get (after.maps (map_number m)) k ≡ kept_list (turned (has old k) (has new k) own ids))) (same_as id other same)
      (ids, now_can, sets.here)
  at_more other false false there same some = absurd (cc)

  others_more : (other : ℕ) (b c : Bool) → has done other ≡ b → nat_eq id other ≡ c → (b || (c || false)) ≡ false
      → finite.get (after.maps (map_number m)) other ≡ finite.get (now.maps (map_number m)) other
  others_more other true c there same none = absurd (cc)
  others_more other false true there same none = absurd (cc)
  others_more other false false there same none = sets.beside other (differs other same) ∙ first.others other there

  pub turns_more : TurnsAt own old new (done ++ id ∷ []) (now.maps (map_number m)) (after.maps (map_number m))
  turns_more = record {
    at = λ other there. at_more other (has done other) (nat_eq id other) refl refl (sym (one_more other) ∙ there);
    others = λ other none. others_more other (has done other) (nat_eq id other) refl refl (sym (one_more other) ∙ none);
  }

-- the same lists, told otherwise
pub turns_done : (own : ℕ) (old new done other : List ℕ) (before after : BucketMap) → ((id : ℕ) → has other id ≡ has done id)
    → TurnsAt own old new done before after
    → TurnsAt own old new other before after
turns_done own old new done other before after same turns = record {
  at = λ id there. turns.at id (sym (same id) ∙ there);
  others = λ id none. turns.others id (sym (same id) ∙ none);
}

module _ (old new old_other new_other : List ℕ) (same_old : (id : ℕ) → has old id ≡ has old_other id)
    (same_new : (id : ℕ) → has new id ≡ has new_other id) where
  has_both : (id : ℕ) → has (old ++ new) id ≡ has (old_other ++ new_other) id
  has_both id =
      list_any-append (λ x. nat_eq x id) old new ∙ (λ i. same_old id i || same_new id i)
      ∙ sym (list_any-append (λ x. nat_eq x id) old_other new_other)

  pub turns_same : (own : ℕ) (before after : BucketMap) → Turns own old new before after → Turns own old_other new_other before after
  turns_same own before after turns = record {
    at = λ id there.
        let was = turns.at id (has_both id ∙ there) in (
          was.0,
          subst (λ b. CanTurn b own (finite.get before id) was.0) (same_old id) was.1,
          was.2
              ∙ (λ i. kept_list (turned (same_old id i) (same_new id i) own was.0)),
        );
    others = λ id none. turns.others id (has_both id ∙ none);
  }

  pub visits_same : (which : StoreMap) → visits which old new ≡ visits which old_other new_other
  visits_same which =
      ap (map (visit_of which old new)) (in_order-same (old ++ new) (old_other ++ new_other) has_both)
      ∙ (λ i. map (λ id. record { map = which; id = id; was = same_old id i; is = same_new id i }) (in_order (old_other ++ new_other)))

-- the first visit that fails
map_append : {X Y : Type 0} (f : X → Y) (xs ys : List X) → map f (xs ++ ys) ≡ map f xs ++ map f ys
map_append f [] ys = refl
map_append f (x ∷ xs) ys = ap (λ rest. f x ∷ rest) (map_append f xs ys)

pub stops_there : {X Y : Type 0} (Fine : Y → Type 0) (page : Y → ℕ) (f : X → Y) (xs : List X) (place : ℕ) (x : X) (at : ℕ)
    → place < length xs → x ≡ get_or xs place x
    → AllByRecursion Fine (map f (take place xs)) → ¬ Fine (f x) → at ≡ page (f x) → StopsAt Fine page (map f xs) at
stops_there Fine page f xs place x at within is fine bad here = record {
  front = map f (take place xs);
  thing = f x;
  behind = map f (drop (suc place) xs);
  parts = ap (map f) (sym (take-append-drop place xs)
      ∙ ap (λ rest. take place xs ++ rest) (drop-cons xs place x within ∙ ap (λ y. y ∷ drop (suc place) xs) (sym is)))
      ∙ map_append f (take place xs) (x ∷ drop (suc place) xs);
  fine = fine;
  bad = bad;
  page_is = here;
}

pub all_more : {X Y : Type 0} (Fine : Y → Type 0) (f : X → Y) (xs : List X) (x : X) → AllByRecursion Fine (map f xs) → Fine (f x)
    → AllByRecursion Fine (map f (xs ++ x ∷ []))
all_more Fine f [] x fine one = (one, tt)
all_more Fine f (first ∷ xs) x fine one = (fine.0, all_more Fine f xs x fine.1 one)

-- what stops in a part stops in the whole
pub stops_front : {X : Type 0} (Fine : X → Type 0) (page : X → ℕ) (xs ys : List X) (at : ℕ) → StopsAt Fine page xs at
    → StopsAt Fine page (xs ++ ys) at
stops_front Fine page xs ys at stops = record {
  front = stops.front;
  thing = stops.thing;
  behind = stops.behind ++ ys;
  parts = ap (λ l. l ++ ys) stops.parts ∙ append_assoc stops.front (stops.thing ∷ stops.behind) ys;
  fine = stops.fine;
  bad = stops.bad;
  page_is = stops.page_is;
}

all_append : {X : Type 0} (P : X → Type 0) (xs ys : List X) → AllByRecursion P xs → AllByRecursion P ys → AllByRecursion P (xs ++ ys)
all_append P [] ys one other = other
all_append P (x ∷ xs) ys one other = (one.0, all_append P xs ys one.1 other)

pub stops_behind : {X : Type 0} (Fine : X → Type 0) (page : X → ℕ) (xs ys : List X) (at : ℕ) → AllByRecursion Fine xs
    → StopsAt Fine page ys at → StopsAt Fine page (xs ++ ys) at
stops_behind Fine page xs ys at fine stops = record {
  front = xs ++ stops.front;
  thing = stops.thing;
  behind = stops.behind;
  parts = ap (λ l. xs ++ l) stops.parts ∙ sym (append_assoc xs stops.front (stops.thing ∷ stops.behind));
  fine = all_append Fine xs stops.front fine stops.fine;
  bad = stops.bad;
  page_is = stops.page_is;
}

-- where all of them are so, none is the first that is not
all_at : {X : Type 0} (P : X → Type 0) (front : List X) (x : X) (behind : List X) → AllByRecursion P (front ++ x ∷ behind) → P x
all_at P [] x behind all = all.0
all_at P (first ∷ front) x behind all = all_at P front x behind all.1

pub stops_never : {X : Type 0} (Fine : X → Type 0) (page : X → ℕ) (xs : List X) (at : ℕ) → AllByRecursion Fine xs → StopsAt Fine page xs at
    → ⊥
stops_never Fine page xs at all stops = stops.bad
    (all_at Fine stops.front stops.thing stops.behind (subst (λ l. AllByRecursion Fine l) stops.parts all))
