-- A listing keeps what it is told, where who lists some ids turns.
use Rattle.std.proofs.Common.{◌≡◌, ◌≢◌, ℕ, Bool, true, false, not, ◌&&◌, ◌||◌, cond, if◌then◌else◌, List, [], ◌∷◌, Option, Some, refl, sym}
use Rattle.std.proofs.Common.{ap, subst, ◌∙◌, nat_eq}
use Rattle.std.specs.Option.{unwrap_or}
use Rattle.std.specs.Ordering.{eq_by_cmp}
use Rattle.std.specs.FinMap as finite
use Rattle.osm_base.specs.declared.values.key.Kind.{Kind}
use Rattle.osm_base.specs.declared.values.object.Object.{Object}
use Rattle.osm_base.specs.map.Listers.{is_kind}
use Rattle.osm_base.specs.map.Objects.{ObjectSet, with_object}
use Rattle.osm_base.specs.values.Ids.{IsRising, has}
use Rattle.osm_base.specs.values.Key.{KeyOf}
use Rattle.osm_base.specs.values.KeyOrder.{key_cmp}
use Rattle.object_fold.proofs.FoldLaws.{get-with_object}
use Rattle.object_fold.proofs.Listers.{kind_same, tied-ids, untied-kinds}
use Rattle.object_fold.specs.Listing.{ListingOf, listers}
use Rattle.store_maps.specs.Maps.{unless_empty}
use Rattle.store_maps.specs.Step.{relisted_all, relisted_at, with_id, without_id}
use Rattle.store_maps.specs.Turns.{IsListing, Told, added, ids_for, listed_by, taken, told_by}
use Rattle.store_maps.proofs.IdLists.{has-with_id, has-without_id, same_as, turned_round, with_id-rise, without_id-rise}
use Rattle.store_maps.proofs.Sets.{get-set, or-empty}

-- what is told in the same way
pub retold : (listing : ListingOf) (one other : Told) → ((id by : ℕ) → one id by ≡ other id by) → IsListing listing one
    → IsListing listing other
retold listing one other same is = record { answers = λ id by. is.answers id by ∙ same id by; rising = is.rising; some = is.some }

never_empty : (ids : List ℕ) → unless_empty ids ≢ Some []
never_empty [] e = cc
never_empty (id ∷ ids) e = cc

module _ (turn : ℕ → List ℕ → List ℕ) (made : Bool → Bool → Bool)
    (has-turn : (own : ℕ) (ids : List ℕ) (x : ℕ) → has (turn own ids) x ≡ made (nat_eq own x) (has ids x))
    (turn-rise : (own : ℕ) (ids : List ℕ) → IsRising ids → IsRising (turn own ids))
    (made-again : (same there : Bool) → made same (made same there) ≡ made same there) where
  -- the listers of these ids turn
  abbrev turned : Bool → ℕ → Told → Told
  turned turns own told id by = if turns then made (nat_eq own by) (told id by) else told id by

  module _ (listing : ListingOf) (own first : ℕ) where
    abbrev new : ListingOf
    new = relisted_at turn own listing first

    abbrev turned_ids : List ℕ
    turned_ids = turn own (listers listing first)

    listers-new : (id : ℕ) → listers new id ≡ cond (nat_eq id first) turned_ids (listers listing id)
    listers-new id =
        ap (λ found. unwrap_or found []) (get-set listing first (unless_empty turned_ids) id)
        ∙ elim (nat_eq id first) as (λ b. unwrap_or (cond b (unless_empty turned_ids) (finite.get listing id)) []
        ≡ cond b turned_ids (listers listing id)) [ true ↦ or-empty turned_ids | false ↦ refl ]

    one : (told : Told) → IsListing listing told → IsListing new (λ id by. turned (nat_eq first id) own told id by)
    one told is = record {
      answers = λ id by. ap (λ ids. has ids by) (listers-new id)
          ∙ ap (λ b. has (cond b turned_ids (listers listing id)) by) (turned_round id first)
          ∙ elim (nat_eq first id) as (λ b. nat_eq first id ≡ b → has (cond b turned_ids (listers listing id)) by
          ≡ turned b own told id by) [
            | true ↦ λ same. has-turn own (listers listing first) by
                ∙ ap (made (nat_eq own by)) (is.answers first by ∙ ap (λ id. told id by) (same_as first id same))
            | false ↦ λ differs. is.answers id by
          ] refl;
      rising = λ id. subst IsRising (sym (listers-new id))
          (elim (nat_eq id first) as (λ b. IsRising (cond b turned_ids (listers listing id)))
          [ true ↦ turn-rise own (listers listing first) (is.rising first) | false ↦ is.rising id ]);
      some = λ id. subst (λ found. found ≢ Some []) (sym (get-set listing first (unless_empty turned_ids) id))
          (elim (nat_eq id first) as (λ b. cond b (unless_empty turned_ids) (finite.get listing id) ≢ Some [])
          [ true ↦ never_empty turned_ids | false ↦ is.some id ]);
    }

  again : (first there same answer : Bool)
      → (if there then made same (if first then made same answer else answer) else (if first then made same answer else answer))
      ≡ (if (first || there) then made same answer else answer)
  again true true same answer = made-again same answer
  again true false same answer = refl
  again false true same answer = refl
  again false false same answer = refl

  all : (ids : List ℕ) (own : ℕ) (listing : ListingOf) (told : Told) → IsListing listing told
      → IsListing (relisted_all turn listing own ids) (λ id by. turned (has ids id) own told id by)
  all [] own listing told is = is
  all (first ∷ ids) own listing told is =
      retold (relisted_all turn (relisted_at turn own listing first) own ids)
      (λ id by. turned (has ids id) own (λ id by. turned (nat_eq first id) own told id by) id by)
      (λ id by. turned (has (first ∷ ids) id) own told id by)
      (λ id by. again (nat_eq first id) (has ids id) (nat_eq own by) (told id by))
      (all ids own (relisted_at turn own listing first) (λ id by. turned (nat_eq first id) own told id by) (one listing own first told is))

or-again : (same there : Bool) → (same || (same || there)) ≡ (same || there)
or-again true there = refl
or-again false there = refl

not-again : (same there : Bool) → (not same && (not same && there)) ≡ (not same && there)
not-again true there = refl
not-again false there = refl

adds : (listed same answer : Bool) → (if listed then (same || answer) else answer) ≡ ((listed && same) || answer)
adds true same answer = refl
adds false same answer = refl

takes : (listed same answer : Bool) → (if listed then (not same && answer) else answer) ≡ (not (listed && same) && answer)
takes true same answer = refl
takes false same answer = refl

-- ids are listed by one more, and by one fewer
pub listed_too : (ids : List ℕ) (own : ℕ) (listing : ListingOf) (told : Told) → IsListing listing told
    → IsListing (relisted_all with_id listing own ids) (added ids own told)
listed_too ids own listing told is =
    retold (relisted_all with_id listing own ids) _ (added ids own told) (λ id by. adds (has ids id) (nat_eq own by) (told id by))
    (all with_id (λ same there. same || there) has-with_id with_id-rise or-again ids own listing told is)

pub listed_no_more : (ids : List ℕ) (own : ℕ) (listing : ListingOf) (told : Told) → IsListing listing told
    → IsListing (relisted_all without_id listing own ids) (taken ids own told)
listed_no_more ids own listing told is =
    retold (relisted_all without_id listing own ids) _ (taken ids own told) (λ id by. takes (has ids id) (nat_eq own by) (told id by))
    (all without_id (λ same there. not same && there) has-without_id without_id-rise not-again ids own listing told is)

-- An object takes the place of another one.

untouched : (new old same answer : Bool) → same ≡ false → ((new && same) || (not (old && same) && answer)) ≡ answer
untouched true true same answer is = ap (λ b. b || (not b && answer)) is
untouched true false same answer is = ap (λ b. b || answer) is
untouched false true same answer is = ap (λ b. not b && answer) is
untouched false false same answer is = refl

replaced : (new old same answer : Bool) → same ≡ true → answer ≡ old → ((new && same) || (not (old && same) && answer)) ≡ new
replaced true old same answer is was = ap (λ b. b || (not (old && same) && answer)) is
replaced false true same answer is was = ap (λ b. not b && answer) is
replaced false false same answer is was = was

module _ (by : Kind) (what : Object → List ℕ) (objects : ObjectSet) (kind : Kind) (own : ℕ) (old new : Option Object)
    (was : is_kind by kind ≡ true → old ≡ finite.get objects (record { kind = kind; id = own })) where
  abbrev key : KeyOf
  key = record { kind = kind; id = own }

  abbrev by_key : ℕ → KeyOf
  by_key id = record { kind = by; id = id }

  abbrev after : ObjectSet
  after = with_object objects key new

  -- what the listing comes to be told, where the kinds are the same and where they are not
  abbrev Comes : Bool → ℕ → ℕ → Type 0
  Comes same id other =
      added (if same then listed_by what new else []) own
      (taken (if same then listed_by what old else []) own (told_by by what objects)) id other ≡ told_by by what after id other

  got : (other : ℕ) → finite.get after (by_key other) ≡ cond (eq_by_cmp key_cmp (by_key other) key) new (finite.get objects (by_key other))
  got other = get-with_object objects key new (by_key other)

  of_other : (id other : ℕ) → is_kind by kind ≡ false → Comes false id other
  of_other id other differs = ap (λ found. has (listed_by what found) id)
      (sym (got other ∙ ap (λ b. cond b new (finite.get objects (by_key other))) (untied-kinds by kind other own differs)))

  of_same : (id other : ℕ) → is_kind by kind ≡ true → Comes true id other
  of_same id other same =
      elim (nat_eq own other) as (λ b. nat_eq own other ≡ b → Comes true id other) [
        | true ↦ λ is.
            let at : finite.get objects (by_key other) ≡ old =
            ap (λ id. finite.get objects (by_key id)) (sym (same_as own other is))
            ∙ ap (λ own_kind. finite.get objects (record { kind = own_kind; id = own })) (kind_same by kind same)
            ∙ sym (was same) in
            replaced (has (listed_by what new) id) (has (listed_by what old) id) (nat_eq own other) (told_by by what objects id other) is
            (ap (λ found. has (listed_by what found) id) at)
            ∙ ap (λ found. has (listed_by what found) id)
            (sym (got other ∙ ap (λ b. cond b new (finite.get objects (by_key other)))
            (tied-ids by kind other own same ∙ turned_round other own ∙ is)))
        | false ↦ λ differs.
            untouched (has (listed_by what new) id) (has (listed_by what old) id) (nat_eq own other)
            (told_by by what objects id other) differs
            ∙ ap (λ found. has (listed_by what found) id)
            (sym (got other ∙ ap (λ b. cond b new (finite.get objects (by_key other)))
            (tied-ids by kind other own same ∙ turned_round other own ∙ differs)))
      ] refl

  comes : (id other : ℕ) → Comes (is_kind by kind) id other
  comes id other = elim (is_kind by kind) as
      (λ b. is_kind by kind ≡ b → Comes b id other) [ true ↦ of_same id other | false ↦ of_other id other ] refl

  -- the listing follows
  pub listing_follows : (listing : ListingOf) → IsListing listing (told_by by what objects)
      → IsListing (relisted_all with_id (relisted_all without_id listing own (ids_for by what kind old)) own (ids_for by what kind new))
      (told_by by what after)
  listing_follows listing is =
      let left = ids_for by what kind old in
      let joined = ids_for by what kind new in
      retold (relisted_all with_id (relisted_all without_id listing own left) own joined)
      (added joined own (taken left own (told_by by what objects))) (told_by by what after) comes
      (listed_too joined own (relisted_all without_id listing own left) (taken left own (told_by by what objects))
      (listed_no_more left own listing (told_by by what objects) is))
