-- Lists that are put one after another, in the order of what is listed.
use Rattle.std.proofs.Common.{◌≡◌, ◌≢◌, ◌<◌, ◌≤◌, ℕ, Bool, true, false, ◌&&◌, ◌||◌, List, [], ◌∷◌, ◌++◌, length, suc, ◌==◌, Option, Some}
use Rattle.std.proofs.Common.{None, refl, sym, ap, subst, ◌∙◌, arith, nat_eq}
use Rattle.std.specs.List.{AllByRecursion}
use Rattle.std.specs.List.Sorted.{IsPermutation}
use Rattle.std.specs.Option.{unwrap_or}
use Rattle.std.specs.FinMap as finite
use Rattle.std.specs.Ordering.{nat_cmp}
use Rattle.std.proofs.lemmas.Bool.{eqb-true}
use Rattle.std.proofs.lemmas.Bool.Decides.{nat_tests}
use Rattle.std.proofs.lemmas.List.Folds.{list_any-append}
use Rattle.std.proofs.lemmas.List.Sorted.{list_any-IsPermutation}
use Rattle.osm_base.specs.values.Ids.{AreRisingIds, IsRising, has}
use Rattle.osm_base.specs.values.Key.{IsId}
use Rattle.object_fold.proofs.SortedIds.{same_rising}
use Rattle.object_fold.specs.Listing.{ListingOf, listers}
use Rattle.bucket_records.specs.Records.{BucketMap}
use Rattle.value_bytes.specs.Maps.{Decodes, HoldsMap}
use Rattle.store_maps.specs.Asked.{May}
use Rattle.store_maps.specs.Maps.{unless_empty}
use Rattle.store_maps.specs.Turns.{IsListing, Told}
use Rattle.store_maps.proofs.IdLists.{same_as, tied_self}
use Rattle.back_index.specs.Filling.{AreIds, AreKept, ByIds, IsKeptAt, IsVoid, MayTold, MentionRuns, is_told, mentions_tell}
use Rattle.back_index.specs.Ids.{ids_bytes, AreListed}
use Rattle.back_index.specs.Relisting.{kept_list}
use Rattle.back_index.specs.declared.mentions.Mention.{Mention}
use Rattle.back_index.proofs.Held.{kept_decodes, no_ids}

-- ids are ids of objects where each that is among them is
first_has : (first x : ℕ) (rest : List ℕ) → has rest x ≡ true → has (first ∷ rest) x ≡ true
first_has first x rest there = elim (nat_eq first x) as (λ b. (b || has rest x) ≡ true) [ true ↦ refl | false ↦ there ]

all_ids : (ids : List ℕ) → AreIds ids → AllByRecursion IsId ids
all_ids [] are = tt
all_ids (first ∷ rest) are = (
  are first (ap (λ b. b || has rest first) (tied_self first)),
  all_ids rest (λ id there. are id (first_has first id rest there)),
)

pub rising_ids : (list ids : List ℕ) → IsRising list → ((id : ℕ) → has list id ≡ has ids id) → AreIds ids → AreRisingIds list
rising_ids list ids rise same are = (rise, all_ids list (λ id there. are id (sym (same id) ∙ there)))

one_has : (ids : List ℕ) (own id : ℕ) → has (ids ++ own ∷ []) id ≡ (has ids id || (nat_eq own id || false))
one_has ids own id = list_any-append (λ other. nat_eq other id) ids (own ∷ [])

id_more : (own id : ℕ) (before there : Bool) → (before ≡ true → IsId id) → (there ≡ true → IsId id) → (before || (there || false)) ≡ true
    → IsId id
id_more own id true there first second is = first refl
id_more own id false true first second is = second refl
id_more own id false false first second is = absurd (cc)

pub ids_more : (ids : List ℕ) (own : ℕ) → AreIds ids → IsId own → AreIds (ids ++ own ∷ [])
ids_more ids own are is id there =
    id_more own id (has ids id) (nat_eq own id) (are id) (λ same. subst IsId (same_as own id same) is) (sym (one_has ids own id) ∙ there)

-- what is told, and one more
pub tell_more : (done : List Mention) (mention : Mention) (id by : ℕ)
    → mentions_tell (done ++ mention ∷ []) id by ≡ (mentions_tell done id by || (is_told mention id by || false))
tell_more done mention id by = list_any-append (λ (own : Mention). is_told own id by) done (mention ∷ [])

or_none : (b : Bool) → (b || false) ≡ b
or_none true = refl
or_none false = refl

apart_not : (one other : ℕ) → one ≢ other → nat_eq one other ≡ false
apart_not one other apart = grind (arith, nat_tests)

-- of another id nothing more is told
tell_beside : (done : List Mention) (mention : Mention) (id by : ℕ) → id ≢ mention.id
    → mentions_tell (done ++ mention ∷ []) id by ≡ mentions_tell done id by
tell_beside done mention id by apart =
    tell_more done mention id by
    ∙ ap (λ b. mentions_tell done id by || ((b && nat_eq mention.own by) || false)) (apart_not mention.id id (λ same. apart (sym same)))
    ∙ or_none (mentions_tell done id by)

all_more : {X : Type 0} (P : X → Type 0) (xs : List X) (x : X) → AllByRecursion P xs → P x → AllByRecursion P (xs ++ x ∷ [])
all_more P [] x all one = (one, tt)
all_more P (first ∷ xs) x all one = (all.0, all_more P xs x all.1 one)

all_wider : {X : Type 0} (P Q : X → Type 0) (xs : List X) → ((x : X) → P x → Q x) → AllByRecursion P xs → AllByRecursion Q xs
all_wider P Q [] wider all = tt
all_wider P Q (first ∷ xs) wider all = (wider first all.0, all_wider P Q xs wider all.1)

-- nothing is told of what lies above
none_above : (done : List Mention) (at next by : ℕ) → at < next → AllByRecursion (λ (mention : Mention). mention.id ≤ at) done
    → mentions_tell done next by ≡ false
none_above [] at next by lt below = refl
none_above (mention ∷ done) at next by lt below =
    (λ i. (apart_not mention.id next (λ same. absurd (omega (arith, same, lt, below.0))) i && nat_eq mention.own by) || none_above done at
    next by lt below.1 i)

-- nothing is told yet
pub runs_none : (at : ℕ) (kept : BucketMap) → IsVoid kept → MentionRuns [] at [] kept
runs_none at kept void = record {
  beside = λ id apart. record { ids = []; rising = no_ids; same = λ by. refl; list = void id };
  here = λ by. refl;
  below = tt;
}

-- one more of the list that is not put yet
pub runs_more : (done : List Mention) (at : ℕ) (ids : List ℕ) (kept : BucketMap) (mention : Mention) → mention.id ≡ at
    → MentionRuns done at ids kept
    → MentionRuns (done ++ mention ∷ []) at (ids ++ mention.own ∷ []) kept
runs_more done at ids kept mention is runs = record {
  beside = λ id apart.
      let was = runs.beside id apart in
      record {
        ids = was.ids;
        rising = was.rising;
        same = λ by. was.same by ∙ sym (tell_beside done mention id by (λ same. apart (same ∙ is)));
        list = was.list;
      };
  here = λ by.
      one_has ids mention.own by
      ∙ (λ i. runs.here by i || (nat_eq mention.own by || false))
      ∙ ap (λ b. mentions_tell done at by || ((b && nat_eq mention.own by) || false)) (sym (ap (λ own. nat_eq own at) is ∙ tied_self at))
      ∙ sym (tell_more done mention at by);
  below = all_more (λ (own : Mention). own.id ≤ at) done mention runs.below (omega (arith, is));
}

-- the list that was not put yet is put
pub runs_kept : (done : List Mention) (at : ℕ) (ids list : List ℕ) (kept after : BucketMap) → MentionRuns done at ids kept → AreRisingIds list
    → ((id : ℕ) → has list id ≡ has ids id) → finite.get after at ≡ kept_list list
    → ((id : ℕ) → id ≢ at → finite.get after id ≡ finite.get kept id)
    → AreKept (mentions_tell done) after
runs_kept done at ids list kept after runs rising same here beside id =
    elim (nat_eq id at) as (λ b. nat_eq id at ≡ b → IsKeptAt (mentions_tell done) after id) [
      | true ↦ λ is.
          subst (λ own. IsKeptAt (mentions_tell done) after own) (sym (same_as id at is))
          (record { ids = list; rising = rising; same = λ by. same by ∙ runs.here by; list = here })
      | false ↦ λ not.
          let apart : id ≢ at = λ is. absurd (told_not (sym (ap (λ own. nat_eq own at) is ∙ tied_self at) ∙ not)) in
          let was = runs.beside id apart in
          record { ids = was.ids; rising = was.rising; same = was.same; list = beside id apart ∙ was.list }
    ] refl
  where
    told_not : true ≡ false → ⊥
    told_not e = absurd (cc)

-- and another one begins
pub runs_next : (done : List Mention) (at next : ℕ) (ids : List ℕ) (kept after : BucketMap) → MentionRuns done at ids kept → at < next
    → AreKept (mentions_tell done) after
    → MentionRuns done next [] after
runs_next done at next ids kept after runs lt are = record {
  beside = λ id apart. are id;
  here = λ by. sym (none_above done at next by lt runs.below);
  below = all_wider (λ (own : Mention). own.id ≤ at) (λ (own : Mention). own.id ≤ next) done (λ own le. omega (arith, le, lt)) runs.below;
}

-- told otherwise, in the same way
pub kept_as : (told other : Told) (kept : BucketMap) → ((id by : ℕ) → told id by ≡ other id by) → AreKept told kept → AreKept other kept
kept_as told other kept same are id =
    let was = are id in
    record { ids = was.ids; rising = was.rising; same = λ by. was.same by ∙ same id by; list = was.list }

pub told_permuted : (mentions others : List Mention) → IsPermutation mentions others → (id by : ℕ)
    → mentions_tell others id by ≡ mentions_tell mentions id by
told_permuted mentions others moves id by = sym (list_any-IsPermutation (λ (own : Mention). is_told own id by) mentions others moves)

pub by_ids_as : (told other : Told) → ((id by : ℕ) → other id by ≡ told id by) → ByIds told → ByIds other
by_ids_as told other same are id by is = are id by (sym (same id by) ∙ is)

-- the lists that are kept are those of the listing that keeps what is told
is_list : (found : Option (List ℕ)) → found ≢ Some [] → unless_empty (unwrap_or found []) ≡ found
is_list None some = refl
is_list (Some []) some = absurd (some refl)
is_list (Some (id ∷ ids)) some = refl

pub told_held : (told : Told) (kept : BucketMap) (listing : ListingOf) → AreKept told kept → IsListing listing told
    → HoldsMap ids_bytes AreListed kept listing
told_held told kept listing are is id =
    let own = are id in
    let same : own.ids ≡ listers listing id =
    same_rising own.ids (listers listing id) own.rising.0 (is.rising id) (λ by. own.same by ∙ sym (is.answers id by)) in
    subst (λ (o : Option (List ℕ)). Decodes ids_bytes AreListed o (finite.get listing id)) (sym own.list)
    (subst (λ (o : Option (List ℕ)). Decodes ids_bytes AreListed (kept_list own.ids) o)
    (ap unless_empty same ∙ is_list (finite.get listing id) (is.some id))
    (kept_decodes own.ids own.rising))

-- and where no list is in the listing, none is kept
undecoded : (found value : Option (List ℕ)) → value ≡ None → Decodes ids_bytes AreListed found value → found ≡ None
undecoded None value none is = refl
undecoded (Some bytes) None none is = absurd is
undecoded (Some bytes) (Some ids) none is = absurd (cc)

pub void_held : (kept : BucketMap) (listing : ListingOf) → HoldsMap ids_bytes AreListed kept listing → listing ≡ finite.empty → IsVoid kept
void_held kept listing held none id =
    undecoded (finite.get kept id) (finite.get listing id) (ap (λ (own : ListingOf). finite.get own id) none ∙ finite.get-empty nat_cmp id)
    (held id)

pub no_ids_there : AreIds []
no_ids_there id there = absurd (cc)

abbrev pub no_mention : Mention
no_mention = record { id = 0; own = 0 }

-- what is not empty has at least one
pub some_left : (items others : List Mention) → length others ≡ length items → items ≢ [] → 1 ≤ length others
some_left [] others same some = absurd (some refl)
some_left (item ∷ items) others same some = omega (arith, same)

pub nothing : (items : List Mention) → true ≡ (length items == 0) → items ≡ []
nothing [] same = refl
nothing (item ∷ items) same = absurd (omega (arith, eqb-true (suc (length items)) 0 (sym same)))

-- a map may be asked what is told otherwise in the same way
pub may_as : (may : May) (which : ℕ) (told other : Told) → ((id by : ℕ) → told id by ≡ other id by) → MayTold may which other
    → MayTold may which told
may_as may which told other same all id by is = all id by (sym (same id by) ∙ is)
