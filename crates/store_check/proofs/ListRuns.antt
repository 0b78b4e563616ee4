-- The mentions of an id stand together, and a list is compared with what they tell.
use Rattle.std.proofs.Common.{◌≡◌, ◌≢◌, ◌<◌, ◌≤◌, ◌+◌, ◌⊎◌, inl, inr, ◌∙◌, ℕ, zero, suc, Bool, true, false, ◌&&◌, ◌||◌, List, [], ◌∷◌, ◌++◌, length}
use Rattle.std.proofs.Common.{take, drop, get_or, Some, nat_eq, refl, sym, ap, subst, arith}
use Rattle.std.specs.Prelude.{nat_lt}
use Rattle.std.specs.FinMap as finite
use Rattle.std.specs.List.Sorted.{IsNonDecreasingBy}
use Rattle.std.proofs.lemmas.Bool.Decides.{nat_tests}
use Rattle.std.proofs.lemmas.List.{take_more, take-append-drop}
use Rattle.std.proofs.lemmas.List.Folds.{list_any-append}
use Rattle.osm_base.specs.values.Ids.{AreRisingIds, IsRising, has}
use Rattle.object_fold.proofs.SortedIds.{same_rising}
use Rattle.bucket_records.specs.Records.{BucketMap}
use Rattle.value_bytes.specs.Forms.{IsNoValue, Spells}
use Rattle.store_maps.specs.Turns.{Told}
use Rattle.back_index.specs.Filling.{IsKeptAt, id_of, is_told, mentions_tell}
use Rattle.back_index.specs.Ids.{AreListed, ids_bytes}
use Rattle.back_index.specs.Relisting.{kept_list}
use Rattle.back_index.specs.declared.mentions.Mention.{Mention}

pub is_less : (a b : ℕ) → nat_lt a b ≡ true → a < b
is_less a b is = grind (arith, nat_tests)

pub not_less : (a b : ℕ) → nat_lt a b ≡ false → b ≤ a
not_less a b is = grind (arith, nat_tests)

apart_not : (one other : ℕ) → one ≢ other → nat_eq one other ≡ false
apart_not one other apart = grind (arith, nat_tests)

itself : (one other : ℕ) → one ≡ other → nat_eq one other ≡ true
itself one other same = grind (arith, nat_tests)

pub turned_or : (Before : Type 0) (one key : ℕ) → Before ⊎ (one ≡ key) → Before ⊎ (key ≡ one)
turned_or Before one key part = elim part [ inl before ↦ inl before | inr same ↦ inr (sym same) ]

-- of other ids nothing is told
one_not : (first : Mention) (rest : Bool) (id by : ℕ) → first.id ≢ id → rest ≡ false → (is_told first id by || rest) ≡ false
one_not first rest id by apart none = λ i. (apart_not first.id id apart i && nat_eq first.own by) || none i

pub none_before : (mentions : List Mention) (at id by : ℕ) → ((place : ℕ) (own : Mention) → place < at → (get_or mentions place own).id < id)
    → at ≤ length mentions
    → mentions_tell (take at mentions) id by ≡ false
none_before [] zero id by before within = refl
none_before [] (suc at) id by before within = refl
none_before (first ∷ rest) zero id by before within = refl
none_before (first ∷ rest) (suc at) id by before within =
    one_not first (mentions_tell (take at rest) id by) id by
    (λ same. let less = before 0 first (omega arith) in omega (arith, less, same))
    (none_before rest at id by (λ place own less. before (suc place) own (omega (arith, less))) (omega (arith, within)))

none_behind : (mentions : List Mention) (at id by : ℕ)
    → ((place : ℕ) (own : Mention) → at ≤ place → place < length mentions → id < (get_or mentions place own).id)
    → mentions_tell (drop at mentions) id by ≡ false
none_behind [] zero id by behind = refl
none_behind [] (suc at) id by behind = refl
none_behind (first ∷ rest) zero id by behind =
    one_not first (mentions_tell rest id by) id by
    (λ same. let less = behind 0 first (omega arith) (omega arith) in omega (arith, less, same))
    (none_behind rest zero id by (λ place own past within. behind (suc place) own (omega arith) (omega (arith, within))))
none_behind (first ∷ rest) (suc at) id by behind =
    none_behind rest at id by (λ place own past within. behind (suc place) own (omega (arith, past)) (omega (arith, within)))

or_none : (a b : Bool) → b ≡ false → (a || b) ≡ a
or_none true b none = refl
or_none false b none = none

and_same : (a b c : Bool) → a ≡ true → (c || ((a && b) || false)) ≡ (c || (b || false))
and_same a b c same = ap (λ (x : Bool). c || ((x && b) || false)) same

-- one more of those of an id
pub run_more : (mentions : List Mention) (at id : ℕ) (own : Mention) (ids : List ℕ) → at < length mentions → own ≡ get_or mentions at own
    → own.id ≡ id
    → ((by : ℕ) → has ids by ≡ mentions_tell (take at mentions) id by)
    → (by : ℕ) → has (ids ++ own.own ∷ []) by ≡ mentions_tell (take (at + 1) mentions) id by
run_more mentions at id own ids within there is same by =
    list_any-append (λ other. nat_eq other by) ids (own.own ∷ [])
    ∙ ap (λ (b : Bool). b || (nat_eq own.own by || false)) (same by)
    ∙ sym (and_same (nat_eq own.id id) (nat_eq own.own by) (mentions_tell (take at mentions) id by) (itself own.id id is))
    ∙ sym (list_any-append (λ (other : Mention). is_told other id by) (take at mentions) (own ∷ []))
    ∙ sym (ap (λ (l : List Mention). mentions_tell l id by)
    (take_more mentions at own within ∙ ap (λ (m : Mention). take at mentions ++ m ∷ []) (sym there)))

-- behind them nothing more is told of it
pub run_ends : (mentions : List Mention) (at id : ℕ) → IsNonDecreasingBy id_of mentions
    → ((own : Mention) → at < length mentions → id < (get_or mentions at own).id)
    → (by : ℕ) → mentions_tell (take at mentions) id by ≡ mentions_tell mentions id by
run_ends mentions at id order ends by =
    sym (ap (λ (l : List Mention). mentions_tell l id by) (sym (take-append-drop at mentions))
    ∙ list_any-append (λ (other : Mention). is_told other id by) (take at mentions) (drop at mentions)
    ∙ or_none (mentions_tell (take at mentions) id by) (mentions_tell (drop at mentions) id by)
    (none_behind mentions at id by
    (λ place own past within.
    let first = ends own (omega (arith, past, within)) in
    let rises = order at place own past within in
    omega (arith, first, rises))))

-- a list that is kept has one spelling
same_some : (one other : List ℕ) → Some one ≡ Some other → one ≡ other
same_some one other e = cc

kept_is : (list : List ℕ) → AreListed list → kept_list list ≡ Some (ids_bytes list)
kept_is [] listed = absurd (let some = listed.some in omega (arith, some))
kept_is (first ∷ rest) listed = refl

module _ (told : Told) (kept : BucketMap) (id : ℕ) (bytes : List ℕ) (there : finite.get kept id ≡ Some bytes) where
  record IsListed (ids : List ℕ) : Type 0 where
    listed : AreListed ids
    bytes_are : bytes ≡ ids_bytes ids

  kept_listed : (own : IsKeptAt told kept id) → (ids : List ℕ) → ids ≡ own.ids → IsListed ids
  kept_listed own [] is = absurd (let none : Some bytes ≡ kept_list [] = sym there ∙ own.list ∙ ap kept_list (sym is) in cc)
  kept_listed own (first ∷ rest) is = record {
    listed = record { some = omega arith; rising = subst AreRisingIds (sym is) own.rising };
    bytes_are = same_some bytes (ids_bytes (first ∷ rest)) (sym there ∙ own.list ∙ ap kept_list (sym is));
  }

  pub unlisted : IsNoValue ids_bytes AreListed bytes → ¬ IsKeptAt told kept id
  unlisted none own = let is = kept_listed own own.ids refl in none own.ids is.listed is.bytes_are

  module _ (list mine : List ℕ) (spells : Spells ids_bytes AreListed bytes list) (rise : IsRising mine)
      (same : (by : ℕ) → has mine by ≡ told id by) where
    pub is_kept : mine ≡ list → IsKeptAt told kept id
    is_kept is = record {
      ids = list;
      rising = spells.is.rising;
      same = λ by. ap (λ (l : List ℕ). has l by) (sym is) ∙ same by;
      list = there ∙ ap (λ (b : List ℕ). Some b) spells.bytes_are ∙ sym (kept_is list spells.is);
    }

    pub kept_same : IsKeptAt told kept id → mine ≡ list
    kept_same own =
        let is = kept_listed own own.ids refl in
        same_rising mine own.ids rise own.rising.0 (λ by. same by ∙ sym (own.same by))
        ∙ spells.alone own.ids is.listed is.bytes_are
