-- The lists of a map, those that are kept and those that are lacking.
use Rattle.std.proofs.Common.{◌≡◌, ◌≢◌, ◌⊎◌, inl, inr, ◌<◌, ◌+◌, ◌%◌, ◌∙◌, ℕ, Bool, true, false, ◌&&◌, ◌||◌, cond, List, [], ◌∷◌}
use Rattle.std.proofs.Common.{◌++◌, Bor, length, take, get_or, Option, Some, None, nat_eq, refl, sym, ap, subst, arith}
use Rattle.std.specs.Prelude.{◌==◌, T, IsSome, MatchOption, is_some}
use Rattle.std.specs.Cmp.{Equal-is}
use Rattle.std.specs.FinMap as finite
use Rattle.std.specs.FinMap.{nat_cmp-IsAntisymmetric}
use Rattle.std.specs.FinMap.Entries.{below_all, find, is_sorted}
use Rattle.std.specs.List.{AllByRecursion, list_any}
use Rattle.std.specs.Ordering.{is_eq, is_lt, nat_cmp}
use Rattle.std.specs.declared.cmp.Ordering.{Ordering}
use Rattle.std.proofs.lemmas.Bool.{false_from_ne_true}
use Rattle.std.proofs.lemmas.Bool.Decides.{nat_tests}
use Rattle.std.proofs.lemmas.List.{take_more}
use Rattle.std.proofs.lemmas.List.Folds.{list_any-append, list_any_at}
use Rattle.osm_base.specs.values.Ids.{has}
use Rattle.object_fold.proofs.SortedIds.{none-rise}
use Rattle.bucket_records.specs.Records.{BucketMap}
use Rattle.bucket_records.proofs.MapLaws.{apart_of, equal_of}
use Rattle.bucket_store.specs.Image.{Image, IsBucketOf}
use Rattle.bucket_store.proofs.Images.{part_gives}
use Rattle.store_maps.specs.Turns.{Told}
use Rattle.row_store.specs.Loading.{Among}
use Rattle.back_index.specs.Filling.{IsKeptAt, is_told, mentions_tell}
use Rattle.back_index.specs.Relisting.{kept_list}
use Rattle.back_index.specs.declared.mentions.Mention.{Mention}
use Rattle.store_check.specs.Lists.{IsLacking}
use Rattle.store_check.specs.Least.{lesser_of}
use Rattle.store_check.specs.Wrong.{IsLeast, IsLeastOf}
use Rattle.store_check.proofs.LeastOfTwo.{least_both}

decide : (b : Bool) → (b ≡ true) ⊎ (b ≡ false)
decide true = inl refl
decide false = inr refl

-- each record of a bucket is of its map
left : (a b : Bool) → T (a && b) → T a
left true b p = tt
left false b p = p

right : (a b : Bool) → T (a && b) → T b
right true b p = p
right false b p = absurd p

later : (a b : ℕ) → T (is_lt (nat_cmp a b)) → b ≢ a
later a b less same = absurd (subst (λ (r : Ordering). T (is_lt r)) (equal_of a b (sym same)) less)

shifted : (x : ℕ × List ℕ) (all es : List (ℕ × List ℕ)) → T (below_all nat_cmp x.0 es)
    → AllByRecursion (λ e. find nat_cmp e.0 all ≡ Some e.1) es
    → AllByRecursion (λ e. find nat_cmp e.0 (x ∷ all) ≡ Some e.1) es
shifted x all [] low each = tt
shifted x all (e ∷ es) low each = (
  ap (λ (b : Bool). cond b (Some x.1) (find nat_cmp e.0 all))
      (apart_of e.0 x.0 (later x.0 e.0 (left (is_lt (nat_cmp x.0 e.0)) (below_all nat_cmp x.0 es) low))) ∙ each.0,
  shifted x all es (right (is_lt (nat_cmp x.0 e.0)) (below_all nat_cmp x.0 es) low) each.1,
)

entries_found : (es : List (ℕ × List ℕ)) → T (is_sorted nat_cmp es) → AllByRecursion (λ e. find nat_cmp e.0 es ≡ Some e.1) es
entries_found [] sorted = tt
entries_found (x ∷ es) sorted = (
  ap (λ (r : Ordering). cond (is_eq r) (Some x.1) (find nat_cmp x.0 es)) (equal_of x.0 x.0 refl),
  shifted x es es (left (below_all nat_cmp x.0 es) (is_sorted nat_cmp es) sorted)
      (entries_found es (right (below_all nat_cmp x.0 es) (is_sorted nat_cmp es) sorted)),
)

nothing : (bytes : List ℕ) → None ≡ Some bytes → ⊥
nothing bytes e = cc

found_among : (es : List (ℕ × List ℕ)) (n : ℕ) (bytes : List ℕ) → find nat_cmp n es ≡ Some bytes → Among es n
found_among [] n bytes same = absurd (nothing bytes same)
found_among (e ∷ es) n bytes same = elim (decide (is_eq (nat_cmp n e.0))) [
  | inl mine ↦ inl (sym (nat_cmp-IsAntisymmetric n e.0 ((Equal-is (nat_cmp n e.0)).0 mine)))
  | inr other ↦ inr (found_among es n bytes (sym (ap (λ (b : Bool). cond b (Some e.1) (find nat_cmp n es)) other) ∙ same))
]

each_so : (One Two : ℕ × List ℕ → Type 0) (es : List (ℕ × List ℕ)) → ((e : ℕ × List ℕ) → One e → Two e) → AllByRecursion One es
    → AllByRecursion Two es
each_so One Two [] leads each = tt
each_so One Two (e ∷ es) leads each = (leads e each.0, each_so One Two es leads each.1)

there_in : (o : Option (List ℕ)) → IsSome o → (bytes : List ℕ) × (o ≡ Some bytes)
there_in None some = absurd (cc)
there_in (Some bytes) some = (bytes, refl)

module _ (which : ℕ) (now : Image) (bucket : ℕ) (records : List (ℕ × List ℕ)) (are : IsBucketOf now which bucket records) where
  in_map : (n : ℕ) (bytes : List ℕ) → finite.get are.own n ≡ Some bytes → finite.get (now.maps which) n ≡ Some bytes
  in_map n bytes same = elim (decide (n % now.root.buckets == bucket)) [
    | inl mine ↦ sym (are.part.each n ∙ ap (λ (b : Bool). cond b (finite.get (now.maps which) n) None) mine) ∙ same
    | inr other ↦ absurd (nothing bytes
        (sym (are.part.each n ∙ ap (λ (b : Bool). cond b (finite.get (now.maps which) n) None) other) ∙ same))
  ]

  pub records_kept : AllByRecursion (λ (one : ℕ × List ℕ). finite.get (now.maps which) one.0 ≡ Some one.1) records
  records_kept =
      subst (λ (l : List (ℕ × List ℕ)). AllByRecursion (λ one. finite.get (now.maps which) one.0 ≡ Some one.1) l) (sym are.are)
      (each_so (λ e. find nat_cmp e.0 (finite.entries are.own) ≡ Some e.1) (λ one. finite.get (now.maps which) one.0 ≡ Some one.1)
      (finite.entries are.own)
      (λ e found. in_map e.0 e.1 (finite.get-entries are.own e.0 ∙ found))
      (entries_found (finite.entries are.own) (finite.entries_sorted are.own)))

  pub kept_among : (n : ℕ) → IsSome (finite.get (now.maps which) n) × (n % now.root.buckets ≡ bucket) → Among records n
  kept_among n part =
      let there = there_in (finite.get (now.maps which) n) part.0 in
      subst (λ (l : List (ℕ × List ℕ)). Among l n) (sym are.are)
      (found_among (finite.entries are.own) n there.0
      (sym (finite.get-entries are.own n) ∙ part_gives now.root.buckets bucket (now.maps which) are.own n are.part part.1 ∙ there.1))

-- ids that are named
abbrev pub is_named : List Mention → ℕ → Bool
is_named mentions id = list_any (λ (mention : Mention). nat_eq mention.id id) mentions

same_id : (one other : ℕ) → nat_eq one other ≡ true → one ≡ other
same_id one other same = grind (arith, nat_tests)

tied_self : (id : ℕ) → nat_eq id id ≡ true
tied_self id = grind (arith, nat_tests)

one_or : (a b : Bool) → (a || (b || false)) ≡ true → (a ≡ true) ⊎ (b ≡ true)
one_or true b is = inl refl
one_or false true is = inr refl
one_or false false is = absurd (cc)

pub named_more : (mentions : List Mention) (at id : ℕ) (own : Mention) → at < length mentions → own ≡ get_or mentions at own
    → is_named (take (at + 1) mentions) id ≡ true
    → (is_named (take at mentions) id ≡ true) ⊎ (id ≡ own.id)
named_more mentions at id own within there named =
    let parts = sym (ap (λ (l : List Mention). is_named l id)
    (take_more mentions at own within ∙ ap (λ (m : Mention). take at mentions ++ m ∷ []) (sym there))
    ∙ list_any-append (λ (other : Mention). nat_eq other.id id) (take at mentions) (own ∷ [])) ∙ named in
    elim (one_or (is_named (take at mentions) id) (nat_eq own.id id) parts) [
      | inl before ↦ inl before
      | inr same ↦ inr (sym (same_id own.id id same))
    ]

or_later : (a b : Bool) → b ≡ true → (a || b) ≡ true
or_later true b is = refl
or_later false b is = is

first_named : (mention : Mention) (rest : List Mention) (id by : ℕ) → (mentions_tell rest id by ≡ true → is_named rest id ≡ true)
    → (same told : Bool) → nat_eq mention.id id ≡ same → ((same && told) || mentions_tell rest id by) ≡ true
    → is_named (mention ∷ rest) id ≡ true
first_named mention rest id by later true told is tells = ap (λ (b : Bool). b || is_named rest id) is
first_named mention rest id by later false told is tells = or_later (nat_eq mention.id id) (is_named rest id) (later tells)

pub named_told : (mentions : List Mention) (id by : ℕ) → mentions_tell mentions id by ≡ true → is_named mentions id ≡ true
named_told [] id by told = absurd (cc)
named_told (mention ∷ rest) id by told =
    first_named mention rest id by (named_told rest id by) (nat_eq mention.id id) (nat_eq mention.own by) refl told

pub told_here : (mentions : List Mention) (at : ℕ) (own : Mention) → at < length mentions → own ≡ get_or mentions at own
    → mentions_tell mentions own.id own.own ≡ true
told_here mentions at own within is =
    list_any_at (λ (other : Mention). is_told other own.id own.own) mentions at own within
    (subst (λ (other : Mention). is_told other own.id own.own ≡ true) is (λ i. tied_self own.id i && tied_self own.own i))

none_there : (o : Option (List ℕ)) → is_some o ≡ false → o ≡ None
none_there None none = refl
none_there (Some bytes) none = absurd (cc)

some_there : (o : Option (List ℕ)) → is_some o ≡ true → o ≡ None → ⊥
some_there None some none = absurd (cc)
some_there (Some bytes) some none = absurd (cc)

pub is_there : (found : Option (Bor (List ℕ))) (o : Option (List ℕ)) → MatchOption found (o ≡ None) (λ value. o ≡ Some value.now)
    → is_some found ≡ is_some o
is_there None o is = sym (ap is_some is)
is_there (Some value) o is = sym (ap is_some is)

module _ (told : Told) (kept : BucketMap) where
  pub not_lacking : (id : ℕ) → is_some (finite.get kept id) ≡ true → ¬ IsLacking told kept id
  not_lacking id some lacks = some_there (finite.get kept id) some lacks.none

  pub lacks_it : (id by : ℕ) → told id by ≡ true → is_some (finite.get kept id) ≡ false → IsLacking told kept id
  lacks_it id by is none = record { by = by; is_told = is; none = none_there (finite.get kept id) none }

  -- a list that is lacking is not right, and where none is, having no list is right
  void_list : (ids : List ℕ) (by : ℕ) → kept_list ids ≡ None → has ids by ≡ true → ⊥
  void_list [] by none is = absurd (cc)
  void_list (first ∷ rest) by none is = absurd (cc)

  not_kept : (id : ℕ) → IsLacking told kept id → ¬ IsKeptAt told kept id
  not_kept id lacks own = void_list own.ids lacks.by (sym own.list ∙ lacks.none) (own.same lacks.by ∙ lacks.is_told)

  void_kept : (id : ℕ) → finite.get kept id ≡ None → ¬ IsLacking told kept id → IsKeptAt told kept id
  void_kept id none fine = record {
    ids = [];
    rising = (none-rise, tt);
    same = λ by. sym (false_from_ne_true (told id by) (λ is. fine (record { by = by; is_told = is; none = none })));
    list = none;
  }

  lacking_wrong : (found : Option ℕ) → IsLeast (λ id. ¬ IsLacking told kept id) found
      → IsLeastOf (λ id. finite.get kept id ≡ None) (IsKeptAt told kept) found
  lacking_wrong None least = λ id none. void_kept id none (least id tt)
  lacking_wrong (Some key) least =
      (λ own. least.0 (λ lacks. not_kept key lacks own), λ id less none. void_kept id none (least.1 id less tt))

  some_or_none : (o : Option (List ℕ)) → IsSome o ⊎ (o ≡ None)
  some_or_none None = inr refl
  some_or_none (Some bytes) = inl refl

  pub all_judged : (found other : Option ℕ) → IsLeastOf (λ id. IsSome (finite.get kept id)) (IsKeptAt told kept) found
      → IsLeast (λ id. ¬ IsLacking told kept id) other
      → IsLeast (IsKeptAt told kept) (lesser_of found other)
  all_judged found other judged lacking =
      least_both (IsKeptAt told kept) (λ id. IsSome (finite.get kept id)) (λ id. finite.get kept id ≡ None) (λ id. Unit {0})
      (λ id all. some_or_none (finite.get kept id)) found other judged (lacking_wrong other lacking)

-- all that are told are named
pub all_named : (mentions : List Mention) (kept : BucketMap) (found : Option ℕ)
    → IsLeastOf (λ id. is_named mentions id ≡ true) (λ id. ¬ IsLacking (mentions_tell mentions) kept id) found
    → IsLeast (λ id. ¬ IsLacking (mentions_tell mentions) kept id) found
all_named mentions kept None least = λ id all lacks. least id (named_told mentions id lacks.by lacks.is_told) lacks
all_named mentions kept (Some key) least =
    (least.0, λ id less all lacks. least.1 id less (named_told mentions id lacks.by lacks.is_told) lacks)
