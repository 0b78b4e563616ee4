-- Rising ids with one more, and with one less.
use Rattle.std.proofs.Common.{◌≡◌, ℕ, Bool, true, false, not, ◌&&◌, ◌||◌, cond, List, [], ◌∷◌, ◌++◌, fold, refl, sym, ap, ◌∙◌, nat_eq}
use Rattle.std.specs.Prelude.{nat_lt}
use Rattle.std.specs.List.{filter, AllByRecursion}
use Rattle.std.specs.List.Sorted.{IsStrictlySortedBy}
use Rattle.osm_base.specs.values.Ids.{IsRising, AreRisingIds, has}
use Rattle.osm_base.specs.values.Key.{IsId}
use Rattle.object_fold.specs.RisingIds.{Joins, Leaves}
use Rattle.object_fold.proofs.SortedIds.{same_rising}
use Rattle.store_maps.specs.Step.{with_id, without_id}
use Rattle.store_maps.proofs.IdLists.{has-with_id, has-without_id, with_id-rise, without_id-rise, same_as}
use Rattle.back_index.specs.Relisting.{in_order}

-- ids, all of them ids of objects
all-filter : (P : ℕ → Type 0) (test : ℕ → Bool) (ids : List ℕ) → AllByRecursion P ids → AllByRecursion P (filter test ids)
all-filter P test [] all = tt
all-filter P test (first ∷ ids) all =
    elim (test first) as (λ b. AllByRecursion P (cond b (first ∷ filter test ids) (filter test ids)))
    [ true ↦ (all.0, all-filter P test ids all.1) | false ↦ all-filter P test ids all.1 ]

all-append : (P : ℕ → Type 0) (ids others : List ℕ) → AllByRecursion P ids → AllByRecursion P others → AllByRecursion P (ids ++ others)
all-append P [] others one other = other
all-append P (first ∷ ids) others one other = (one.0, all-append P ids others one.1 other)

pub ids-with_id : (own : ℕ) (ids : List ℕ) → IsId own → AreRisingIds ids → AreRisingIds (with_id own ids)
ids-with_id own ids is are = (
  with_id-rise own ids are.0,
  all-append IsId (filter (λ id. nat_lt id own) ids) (own ∷ filter (λ id. nat_lt own id) ids)
      (all-filter IsId (λ id. nat_lt id own) ids are.1)
      (is, all-filter IsId (λ id. nat_lt own id) ids are.1),
)

pub ids-without_id : (own : ℕ) (ids : List ℕ) → AreRisingIds ids → AreRisingIds (without_id own ids)
ids-without_id own ids are = (without_id-rise own ids are.0, all-filter IsId (λ id. not (nat_eq own id)) ids are.1)

-- what `RisingIds` makes of them
pub joined_ids : (own : ℕ) (old new : List ℕ) → IsRising old → IsRising new → Joins own old new → new ≡ with_id own old
joined_ids own old new rise risen joins =
    same_rising new (with_id own old) risen (with_id-rise own old rise) (λ id. joins id ∙ sym (has-with_id own old id))

pub left : (own : ℕ) (old new : List ℕ) → IsRising old → IsRising new → Leaves own old new → new ≡ without_id own old
left own old new rise risen leaves =
    same_rising new (without_id own old) risen (without_id-rise own old rise) (λ id. leaves id ∙ sym (has-without_id own old id))

-- once more makes no difference
or_again : (a b : Bool) → (a || (a || b)) ≡ (a || b)
or_again true b = refl
or_again false b = refl

and_again : (a b : Bool) → (a && (a && b)) ≡ (a && b)
and_again true b = refl
and_again false b = refl

pub with_id-again : (own : ℕ) (ids : List ℕ) → IsRising ids → with_id own (with_id own ids) ≡ with_id own ids
with_id-again own ids rise =
    same_rising (with_id own (with_id own ids)) (with_id own ids) (with_id-rise own (with_id own ids) (with_id-rise own ids rise))
    (with_id-rise own ids rise)
    (λ id. has-with_id own (with_id own ids) id ∙ ap (λ b. nat_eq own id || b) (has-with_id own ids id)
    ∙ or_again (nat_eq own id) (has ids id) ∙ sym (has-with_id own ids id))

pub without_id-again : (own : ℕ) (ids : List ℕ) → IsRising ids → without_id own (without_id own ids) ≡ without_id own ids
without_id-again own ids rise =
    same_rising (without_id own (without_id own ids)) (without_id own ids)
    (without_id-rise own (without_id own ids) (without_id-rise own ids rise))
    (without_id-rise own ids rise)
    (λ id. has-without_id own (without_id own ids) id ∙ ap (λ b. not (nat_eq own id) && b) (has-without_id own ids id)
    ∙ and_again (not (nat_eq own id)) (has ids id) ∙ sym (has-without_id own ids id))

-- an id that goes and comes again
back_where : (own id : ℕ) (ids : List ℕ) → has ids own ≡ true → (b : Bool) → nat_eq own id ≡ b → (b || (not b && has ids id)) ≡ has ids id
back_where own id ids there true same = sym there ∙ ap (has ids) (same_as own id same)
back_where own id ids there false differs = refl

pub back_again : (own : ℕ) (ids : List ℕ) → IsRising ids → has ids own ≡ true → with_id own (without_id own ids) ≡ ids
back_again own ids rise there =
    same_rising (with_id own (without_id own ids)) ids (with_id-rise own (without_id own ids) (without_id-rise own ids rise)) rise
    (λ id. has-with_id own (without_id own ids) id ∙ ap (λ b. nat_eq own id || b) (has-without_id own ids id)
    ∙ back_where own id ids there (nat_eq own id) refl)

-- ids in their order
in_order_from-rise : (ids done : List ℕ) → IsRising done → IsRising (fold (λ rest id. with_id id rest) done ids)
in_order_from-rise [] done rise = rise
in_order_from-rise (id ∷ ids) done rise = in_order_from-rise ids (with_id id done) (with_id-rise id done rise)

turned_round : (a b c : Bool) → (a || (b || c)) ≡ ((b || a) || c)
turned_round true true c = refl
turned_round true false c = refl
turned_round false true c = refl
turned_round false false c = refl

has-in_order_from : (ids done : List ℕ) (id : ℕ) → has (fold (λ rest id. with_id id rest) done ids) id ≡ (has ids id || has done id)
has-in_order_from [] done id = refl
has-in_order_from (first ∷ ids) done id =
    has-in_order_from ids (with_id first done) id ∙ ap (λ b. has ids id || b) (has-with_id first done id)
    ∙ turned_round (has ids id) (nat_eq first id) (has done id)

or_none : (b : Bool) → (b || false) ≡ b
or_none true = refl
or_none false = refl

pub has-in_order : (ids : List ℕ) (id : ℕ) → has (in_order ids) id ≡ has ids id
has-in_order ids id = has-in_order_from ids [] id ∙ or_none (has ids id)

pub in_order-rise : (ids : List ℕ) → IsRising (in_order ids)
unfolding IsStrictlySortedBy
in_order-rise ids = in_order_from-rise ids [] tt

pub in_order-same : (ids others : List ℕ) → ((id : ℕ) → has ids id ≡ has others id) → in_order ids ≡ in_order others
in_order-same ids others same =
    same_rising (in_order ids) (in_order others) (in_order-rise ids) (in_order-rise others)
    (λ id. has-in_order ids id ∙ same id ∙ sym (has-in_order others id))
