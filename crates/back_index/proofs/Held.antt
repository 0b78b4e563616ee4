-- Listings that a store holds, once lists of it are turned.
use Rattle.std.proofs.Common.{◌≡◌, ℕ, Bool, true, false, ◌||◌, cond, List, [], ◌∷◌, ◌++◌, length, Option, Some, None, refl, sym, ap, subst}
use Rattle.std.proofs.Common.{◌∙◌, arith, nat_eq, length-append}
use Rattle.std.specs.List.{AllByRecursion}
use Rattle.std.specs.List.Sorted.{IsStrictlySortedBy}
use Rattle.std.specs.Option.{unwrap_or}
use Rattle.std.specs.FinMap as finite
use Rattle.std.proofs.lemmas.List.Folds.{list_any-append}
use Rattle.osm_base.specs.values.Ids.{IsRising, AreRisingIds, has}
use Rattle.osm_base.specs.values.Key.{IsId}
use Rattle.object_fold.specs.Listing.{ListingOf, listers}
use Rattle.bucket_records.specs.Records.{BucketMap}
use Rattle.value_bytes.specs.Maps.{Decodes, HoldsMap}
use Rattle.value_bytes.specs.Numbers.{number_bytes, IsNumber}
use Rattle.value_bytes.proofs.NumberLaws.{front_same, behind_same, number_same, length-number_bytes}
use Rattle.store_maps.specs.Maps.{unless_empty}
use Rattle.store_maps.specs.Step.{relisted_at, relisted_all, with_id, without_id}
use Rattle.store_maps.proofs.IdLists.{with_id-rise, without_id-rise, same_as, turned_round}
use Rattle.store_maps.proofs.Sets.{get-set, or-empty}
use Rattle.back_index.specs.Ids.{ids_bytes, AreListed}
use Rattle.back_index.specs.Relisting.{CanTurn, ReadsIds, Turns, kept_list, turned}
use Rattle.back_index.proofs.ListLaws.{back_again, ids-with_id, ids-without_id, with_id-again, without_id-again}

-- ids have one spelling, and it is theirs alone
are_numbers : (ids : List ℕ) → AllByRecursion IsId ids → AllByRecursion IsNumber ids
are_numbers [] are = tt
are_numbers (id ∷ ids) are = (omega (arith, are.0.greatest), are_numbers ids are.1)

longer : (id : ℕ) (ids : List ℕ) → ids_bytes (id ∷ ids) ≡ [] → ⊥
longer id ids same = omega (
  arith,
  ap (λ (l : List ℕ). length l) same,
  length-append (number_bytes id) (ids_bytes ids),
  length-number_bytes id,
)

numbers_same : (one other : List ℕ) → AllByRecursion IsNumber one → AllByRecursion IsNumber other → ids_bytes one ≡ ids_bytes other
    → one ≡ other
numbers_same [] [] are all same = refl
numbers_same [] (id ∷ ids) are all same = absurd (longer id ids (sym same))
numbers_same (id ∷ ids) [] are all same = absurd (longer id ids same)
numbers_same (id ∷ ids) (next ∷ others) are all same =
    let long : length (number_bytes id) ≡ length (number_bytes next) = length-number_bytes id ∙ sym (length-number_bytes next) in
    let first = number_same id next are.0 all.0
    (front_same (number_bytes id) (number_bytes next) (ids_bytes ids) (ids_bytes others) long same) in
    let rest = numbers_same ids others are.1 all.1
    (behind_same (number_bytes id) (number_bytes next) (ids_bytes ids) (ids_bytes others) long same) in
    λ i. first i ∷ rest i

pub listed_same : (one other : List ℕ) → AreListed one → AreListed other → ids_bytes one ≡ ids_bytes other → one ≡ other
listed_same one other are all same = numbers_same one other (are_numbers one are.rising.1) (are_numbers other all.rising.1) same

-- what is kept of a list reads as the list
pub no_ids : AreRisingIds []
unfolding IsStrictlySortedBy
no_ids = (tt, tt)

pub kept_decodes : (ids : List ℕ) → AreRisingIds ids → Decodes ids_bytes AreListed (kept_list ids) (unless_empty ids)
kept_decodes [] rise = tt
kept_decodes (id ∷ ids) rise = (record { some = omega arith; rising = rise }, refl)

pub kept_reads : (ids : List ℕ) → AreRisingIds ids → ReadsIds (kept_list ids) ids
kept_reads [] rise = refl
kept_reads (id ∷ ids) rise = (record { some = omega arith; rising = rise }, refl)

pub reads_one : (found : Option (List ℕ)) (ids : List ℕ) (value : Option (List ℕ)) → ReadsIds found ids
    → Decodes ids_bytes AreListed found value
    → ids ≡ unwrap_or value []
reads_one None ids None reads is = reads
reads_one None ids (Some value) reads is = absurd is
reads_one (Some bytes) ids None reads is = absurd is
reads_one (Some bytes) ids (Some value) reads is = listed_same ids value reads.0 is.0 (sym reads.1 ∙ is.1)

pub decoded_reads : (found value : Option (List ℕ)) → Decodes ids_bytes AreListed found value → ReadsIds found (unwrap_or value [])
decoded_reads None None is = refl
decoded_reads None (Some value) is = absurd is
decoded_reads (Some bytes) None is = absurd is
decoded_reads (Some bytes) (Some value) is = is

pub reads-rise : (found : Option (List ℕ)) (ids : List ℕ) → ReadsIds found ids → AreRisingIds ids
reads-rise None ids reads = subst AreRisingIds (sym reads) no_ids
reads-rise (Some bytes) ids reads = reads.0.rising

-- what is listed once each of some ids is listed by one too, or no longer
abbrev AreRising : ListingOf → Type 0
AreRising listing = (id : ℕ) → IsRising (listers listing id)

module _ (turn : ℕ → List ℕ → List ℕ) (own : ℕ) (rises : (ids : List ℕ) → IsRising ids → IsRising (turn own ids))
    (again : (ids : List ℕ) → IsRising ids → turn own (turn own ids) ≡ turn own ids) where
  listers-set : (listing : ListingOf) (first id : ℕ)
      → listers (relisted_at turn own listing first) id ≡ cond (nat_eq id first) (turn own (listers listing first)) (listers listing id)
  listers-set listing first id =
      ap (λ found. unwrap_or found []) (get-set listing first (unless_empty (turn own (listers listing first))) id)
      ∙ elim (nat_eq id first) as (λ b. unwrap_or (cond b (unless_empty (turn own (listers listing first))) (finite.get listing id)) []
      ≡ cond b (turn own (listers listing first)) (listers listing id))
      [ true ↦ or-empty (turn own (listers listing first)) | false ↦ refl ]

  rising-set : (listing : ListingOf) (first : ℕ) → AreRising listing → AreRising (relisted_at turn own listing first)
  rising-set listing first rise id =
      subst IsRising (sym (listers-set listing first id))
      (elim (nat_eq id first) as (λ b. IsRising (cond b (turn own (listers listing first)) (listers listing id))) [
        | true ↦ rises (listers listing first) (rise first)
        | false ↦ rise id
      ])

  here : (listing : ListingOf) (first id : ℕ) (there : Bool) → AreRising listing → first ≡ id
      → cond there (unless_empty (turn own (turn own (listers listing first)))) (unless_empty (turn own (listers listing first)))
      ≡ unless_empty (turn own (listers listing id))
  here listing first id true rise same = ap unless_empty
      (again (listers listing first) (rise first) ∙ ap (λ k. turn own (listers listing k)) same)
  here listing first id false rise same = ap (λ k. unless_empty (turn own (listers listing k))) same

  pub get-relisted_all : (ids : List ℕ) (listing : ListingOf) (id : ℕ) → AreRising listing
      → finite.get (relisted_all turn listing own ids) id
      ≡ cond (has ids id) (unless_empty (turn own (listers listing id))) (finite.get listing id)
  get-relisted_all [] listing id rise = refl
  get-relisted_all (first ∷ ids) listing id rise =
      let next = relisted_at turn own listing first in
      get-relisted_all ids next id (rising-set listing first rise)
      ∙ (λ i. cond (has ids id) (unless_empty (turn own (listers-set listing first id i)))
      (get-set listing first (unless_empty (turn own (listers listing first))) id i))
      ∙ elim (nat_eq first id) as (λ b. nat_eq first id ≡ b
      → cond (has ids id) (unless_empty (turn own (cond (nat_eq id first) (turn own (listers listing first)) (listers listing id))))
      (cond (nat_eq id first) (unless_empty (turn own (listers listing first))) (finite.get listing id))
      ≡ cond (b || has ids id) (unless_empty (turn own (listers listing id))) (finite.get listing id)) [
        | true ↦ λ same. rw (turned_round id first ∙ same) (here listing first id (has ids id) rise (same_as first id same))
        | false ↦ λ differs. rw (turned_round id first ∙ differs) refl
      ] refl

-- what becomes of a list that the old form's id goes out of and the new form's id comes in
abbrev finally : Bool → Bool → ℕ → List ℕ → Option (List ℕ) → Option (List ℕ)
finally was is own ids value = cond is (unless_empty (with_id own (cond was (without_id own ids) ids)))
    (cond was (unless_empty (without_id own ids)) value)

module _ (own : ℕ) (own_is : IsId own) where
  turned_finally : (was is : Bool) (found : Option (List ℕ)) (ids : List ℕ) (value : Option (List ℕ)) → (was || is) ≡ true
      → CanTurn was own found ids
      → Decodes ids_bytes AreListed (kept_list (turned was is own ids)) (finally was is own ids value)
  turned_finally true true found ids value some can =
      let are = reads-rise found ids can.reads in
      subst (λ (l : List ℕ). Decodes ids_bytes AreListed (kept_list ids) (unless_empty l)) (sym (back_again own ids are.0 (can.there refl)))
      (kept_decodes ids are)
  turned_finally true false found ids value some can =
      kept_decodes (without_id own ids) (ids-without_id own ids (reads-rise found ids can.reads))
  turned_finally false true found ids value some can =
      kept_decodes (with_id own ids) (ids-with_id own ids own_is (reads-rise found ids can.reads))
  turned_finally false false found ids value some can = absurd (cc)

  none_finally : (was is : Bool) (ids : List ℕ) (value : Option (List ℕ)) → (was || is) ≡ false → finally was is own ids value ≡ value
  none_finally true is ids value none = absurd (cc)
  none_finally false true ids value none = absurd (cc)
  none_finally false false ids value none = refl

  module _ (old new : List ℕ) (listing : ListingOf) (rise : AreRising listing) where
    abbrev taken : ListingOf
    taken = relisted_all without_id listing own old

    get-taken : (id : ℕ) → finite.get taken id
        ≡ cond (has old id) (unless_empty (without_id own (listers listing id))) (finite.get listing id)
    get-taken id = get-relisted_all without_id own (without_id-rise own) (without_id-again own) old listing id rise

    listers-taken : (id : ℕ) → listers taken id ≡ cond (has old id) (without_id own (listers listing id)) (listers listing id)
    listers-taken id =
        ap (λ found. unwrap_or found []) (get-taken id)
        ∙ elim (has old id) as (λ b. unwrap_or (cond b (unless_empty (without_id own (listers listing id))) (finite.get listing id)) []
        ≡ cond b (without_id own (listers listing id)) (listers listing id))
        [ true ↦ or-empty (without_id own (listers listing id)) | false ↦ refl ]

    taken-rise : AreRising taken
    taken-rise id =
        subst IsRising (sym (listers-taken id))
        (elim (has old id) as (λ b. IsRising (cond b (without_id own (listers listing id)) (listers listing id))) [
          | true ↦ without_id-rise own (listers listing id) (rise id)
          | false ↦ rise id
        ])

    pub get-relisted : (id : ℕ) → finite.get (relisted_all with_id taken own new) id
        ≡ finally (has old id) (has new id) own (listers listing id) (finite.get listing id)
    get-relisted id =
        get-relisted_all with_id own (with_id-rise own) (with_id-again own) new taken id taken-rise
        ∙ (λ i. cond (has new id) (unless_empty (with_id own (listers-taken id i))) (get-taken id i))

-- a listing that a store holds has rising ids
pub held-rise : (bytes : BucketMap) (listing : ListingOf) → HoldsMap ids_bytes AreListed bytes listing → AreRising listing
held-rise bytes listing held id = (reads-rise (finite.get bytes id) (listers listing id)
    (decoded_reads (finite.get bytes id) (finite.get listing id) (held id))).0

-- turned lists are those of the listing once it is told
pub turned_held : (own : ℕ) (old new : List ℕ) (before after : BucketMap) (listing : ListingOf) → IsId own
    → HoldsMap ids_bytes AreListed before listing
    → Turns own old new before after → HoldsMap ids_bytes AreListed after
    (relisted_all with_id (relisted_all without_id listing own old) own new)
turned_held own old new before after listing own_is held turns id =
    let rise = held-rise before listing held in
    let one = list_any-append (λ other. nat_eq other id) old new in
    let value = finite.get listing id in
    subst (λ (o : Option (List ℕ)). Decodes ids_bytes AreListed (finite.get after id) o)
    (sym (get-relisted own own_is old new listing rise id))
    (elim (has (old ++ new) id) as (λ b. has (old ++ new) id ≡ b
    → Decodes ids_bytes AreListed (finite.get after id) (finally (has old id) (has new id) own (listers listing id) value)) [
      | true ↦ λ there.
          let at = turns.at id there in
          let same = reads_one (finite.get before id) at.0 value at.1.reads (held id) in
          subst (λ (l : List ℕ). Decodes ids_bytes AreListed (finite.get after id) (finally (has old id) (has new id) own l value)) same
          (subst (λ (o : Option (List ℕ)). Decodes ids_bytes AreListed o (finally (has old id) (has new id) own at.0 value)) (sym at.2)
          (turned_finally own own_is (has old id) (has new id) (finite.get before id) at.0 value (sym one ∙ there) at.1))
      | false ↦ λ none.
          subst (λ (o : Option (List ℕ)). Decodes ids_bytes AreListed (finite.get after id) o)
          (sym (none_finally own own_is (has old id) (has new id) (listers listing id) value (sym one ∙ none)))
          (subst (λ (o : Option (List ℕ)). Decodes ids_bytes AreListed o value) (sym (turns.others id none)) (held id))
    ] refl)
