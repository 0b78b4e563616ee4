-- Rising records with rising changes made to them.
use Rattle.std.proofs.Common.{◌≡◌, ◌≢◌, ℕ, zero, suc, ◌+◌, ◌-◌, ◌<◌, ◌≤◌, max, Bool, cond, List, [], ◌∷◌, ◌++◌, length, get_or, take, drop}
use Rattle.std.proofs.Common.{Option, Some, None, Vec, refl, sym, ap, subst, ◌∙◌, arith, inl, inr, eq-eqb, append_assoc, slice_get}
use Rattle.std.proofs.lemmas.Bool.{ne_eqb, cases_lt, cases_order, lt-ltb, le-ltb}
use Rattle.std.proofs.lemmas.List.{drop_more, drop_all, get_or-drop, drop-drop, length-drop, take_rest}
use Rattle.std.specs.Option.{option_map}
use Rattle.std.specs.Ordering.{nat_cmp, is_eq}
use Rattle.std.specs.declared.cmp.Ordering.{Ordering}
use Rattle.std.specs.declared.cmp.Ordering.TheVariants.{Less}
use Rattle.std.specs.declared.alloc.Global.{Global}
use Rattle.std.specs.Cmp.{nat_cmp_total}
use Rattle.std.specs.BTreeMap.{is_at}
use Rattle.std.specs.Map.{lookup, keys_of}
use Rattle.std.specs.List.{AllByRecursion}
use Rattle.std.specs.List.Sorted.{IsStrictlySortedBy}
use Rattle.std.specs.FinMap as map
use Rattle.std.specs.FinMap.{find}
use Rattle.std.specs.FinMap.Entries.{same_entries}
use Rattle.bucket_records.specs.Records.{AreRecords, records_bytes}
use Rattle.bucket_records.specs.Places.{key_of, IsPlaceOf}
use Rattle.bucket_records.specs.Changes.{ChangeList, changed, map_of, below, from, behind, made, merged}
use Rattle.bucket_records.proofs.RecordLists.{AreRecords-less, records_bytes-append}
use Rattle.bucket_records.proofs.MapLaws.{less_of, equal_of, greater_of, apart_of, sorted_rise, get-map_of, picked, get-changed}

-- the records behind the first, where it has the key
behind_head : (key : ℕ) (one : ℕ × List ℕ) (records : List (ℕ × List ℕ)) → one.0 ≡ key → behind key (one ∷ records) ≡ records
unfolding behind
behind_head key one records same = ap (λ (b : Bool). cond b records (one ∷ records)) (eq-eqb one.0 key same)

behind_other : (key : ℕ) (one : ℕ × List ℕ) (records : List (ℕ × List ℕ)) → one.0 ≢ key → behind key (one ∷ records) ≡ one ∷ records
unfolding behind
behind_other key one records other = ap (λ (b : Bool). cond b records (one ∷ records)) (ne_eqb one.0 key other)

behind_none : (key : ℕ) → behind key [] ≡ []
unfolding behind
behind_none key = refl

pub behind_end : (records : List (ℕ × List ℕ)) (key place : ℕ) → length records ≤ place
    → drop place records ≡ behind key (drop place records)
behind_end records key place past =
    let none = drop_all place records past in
    none ∙ sym (behind_none key) ∙ ap (λ (l : List (ℕ × List ℕ)). behind key l) (sym none)

pub behind_here : (records : List (ℕ × List ℕ)) (key place : ℕ) → place < length records → key_of records place ≡ key
    → drop (place + 1) records ≡ behind key (drop place records)
behind_here records key place inside same =
    sym (ap (λ (l : List (ℕ × List ℕ)). behind key l) (drop_more records place (0, []) inside)
    ∙ behind_head key (get_or records place (0, [])) (drop (place + 1) records) same)

pub behind_apart : (records : List (ℕ × List ℕ)) (key place : ℕ) → place < length records → key_of records place ≢ key
    → drop place records ≡ behind key (drop place records)
behind_apart records key place inside other =
    let whole = drop_more records place (0, []) inside in
    whole ∙ sym (ap (λ (l : List (ℕ × List ℕ)). behind key l) whole
    ∙ behind_other key (get_or records place (0, [])) (drop (place + 1) records) other)

-- so many records at the front are below the key, and the one behind them is not
below_take : (records : List (ℕ × List ℕ)) (key n : ℕ) → n ≤ length records → ((k : ℕ) → k < n → key_of records k < key)
    → (n < length records → key ≤ key_of records n) → below key records ≡ take n records
unfolding below
below_take [] key zero within low high = refl
below_take [] key (suc n) within low high = absurd (omega arith)
below_take (one ∷ records) key zero within low high =
    let above : key ≤ one.0 = high (omega arith) in
    ap (λ (b : Bool). cond b (one ∷ below key records) []) (le-ltb one.0 key above)
below_take (one ∷ records) key (suc n) within low high =
    ap (λ (b : Bool). cond b (one ∷ below key records) []) (lt-ltb one.0 key (low zero (omega arith)))
    ∙ ap (λ (l : List (ℕ × List ℕ)). one ∷ l)
    (below_take records key n (omega arith) (λ k inside. low (suc k) (omega arith)) (λ inside. high (omega arith)))

from_drop : (records : List (ℕ × List ℕ)) (key n : ℕ) → n ≤ length records → ((k : ℕ) → k < n → key_of records k < key)
    → (n < length records → key ≤ key_of records n) → from key records ≡ drop n records
unfolding from
from_drop [] key zero within low high = refl
from_drop [] key (suc n) within low high = absurd (omega arith)
from_drop (one ∷ records) key zero within low high =
    let above : key ≤ one.0 = high (omega arith) in
    ap (λ (b : Bool). cond b (from key records) (one ∷ records)) (le-ltb one.0 key above)
from_drop (one ∷ records) key (suc n) within low high =
    ap (λ (b : Bool). cond b (from key records) (one ∷ records)) (lt-ltb one.0 key (low zero (omega arith)))
    ∙ from_drop records key n (omega arith) (λ k inside. low (suc k) (omega arith)) (λ inside. high (omega arith))

key_behind : (records : List (ℕ × List ℕ)) (at k : ℕ) → key_of (drop at records) k ≡ key_of records (at + k)
key_behind records at k = ap (λ (one : ℕ × List ℕ). one.0) (get_or-drop at records k (0, []))

-- the place of a key among the records from a number on
abbrev Apart : List (ℕ × List ℕ) → ℕ → ℕ → Type 0
Apart records key n = (n ≤ length records) × ((k : ℕ) → k < n → key_of records k < key) × (n < length records → key ≤ key_of records n)

apart_behind : (records : List (ℕ × List ℕ)) (key place at : ℕ) → IsPlaceOf records key place → at ≤ length records
    → Apart (drop at records) key (place - at)
apart_behind records key place at is within =
    let long = length-drop at records in
    let behind-at = key_behind records at in (
      omega (arith, long, is.within),
      λ k inside. let low = is.below (at + k) (omega arith) in omega (arith, low, behind-at k),
      λ inside.
          let high = is.from (at + (place - at)) (omega arith) (omega (arith, inside, long, is.within)) in
          omega (arith, high, behind-at (place - at)),
    )

pub below_between : (records : List (ℕ × List ℕ)) (key place at to : ℕ) → IsPlaceOf records key place → at ≤ length records
    → to ≡ max place at
    → below key (drop at records) ≡ take (to - at) (drop at records)
below_between records key place at to is within to-is =
    let apart = apart_behind records key place at is within in
    let many : place - at ≡ to - at = grind (arith, to-is) in
    below_take (drop at records) key (place - at) apart.0 apart.1 apart.2 ∙ ap (λ (n : ℕ). take n (drop at records)) many

pub from_place : (records : List (ℕ × List ℕ)) (key place at to : ℕ) → IsPlaceOf records key place → at ≤ length records → to ≡ max place at
    → from key (drop at records) ≡ drop to records
from_place records key place at to is within to-is =
    let apart = apart_behind records key place at is within in
    let there : at + (place - at) ≡ to = grind (arith, to-is) in
    from_drop (drop at records) key (place - at) apart.0 apart.1 apart.2
    ∙ drop-drop (place - at) at records ∙ ap (λ (n : ℕ). drop n records) there

-- the changes' keys rise, from this one on
pub RiseFrom : ℕ → ChangeList → Type 0
RiseFrom least [] = Unit {0}
RiseFrom least (one ∷ changes) = (least ≤ one.0) × RiseFrom (one.0 + 1) changes

-- the first of changes that are none
abbrev pub no_change : ℕ × Option (Vec ℕ Global)
no_change = (0, None)

-- what each of these changes makes is a record
abbrev pub AreMade : ChangeList → ℕ → Type 0
AreMade changes count = (k : ℕ) → k < count
    → AreRecords (get_or changes k no_change).0 (made (get_or changes k no_change).0 (get_or changes k no_change).1)

-- records below a key, and then records from it on
rise_below : (least key : ℕ) (records more : List (ℕ × List ℕ)) → least ≤ key → AreRecords least records → AreRecords key more
    → AreRecords least (below key records ++ more)
unfolding AreRecords below
rise_below least key [] more low are are-more = AreRecords-less key least more low are-more
rise_below least key (one ∷ records) more low are are-more = elim (cases_lt one.0 key) [
  | inl under ↦
      subst (λ (b : Bool). AreRecords least (cond b (one ∷ below key records) [] ++ more)) (sym (lt-ltb one.0 key under))
      (are.0, are.1, rise_below (one.0 + 1) key records more (omega arith) are.2 are-more)
  | inr over ↦
      subst (λ (b : Bool). AreRecords least (cond b (one ∷ below key records) [] ++ more)) (sym (le-ltb one.0 key over))
      (AreRecords-less key least more low are-more)
]

-- the records from a key on, and those behind it
rise_from : (least key : ℕ) (records : List (ℕ × List ℕ)) → AreRecords least records → AreRecords key (from key records)
unfolding AreRecords from
rise_from least key [] are = tt
rise_from least key (one ∷ records) are = elim (cases_lt one.0 key) [
  | inl under ↦
      subst (λ (b : Bool). AreRecords key (cond b (from key records) (one ∷ records))) (sym (lt-ltb one.0 key under))
      (rise_from (one.0 + 1) key records are.2)
  | inr over ↦
      subst (λ (b : Bool). AreRecords key (cond b (from key records) (one ∷ records))) (sym (le-ltb one.0 key over)) (over, are.1, are.2)
]

rise_behind : (key : ℕ) (records : List (ℕ × List ℕ)) → AreRecords key records → AreRecords (key + 1) (behind key records)
unfolding AreRecords behind
rise_behind key [] are = tt
rise_behind key (one ∷ records) are = elim (cases_order one.0 key) [
  | inl same ↦
      subst (λ (b : Bool). AreRecords (key + 1) (cond b records (one ∷ records))) (sym (eq-eqb one.0 key same))
      (subst (λ (n : ℕ). AreRecords (n + 1) records) same are.2)
  | inr (inl under) ↦ absurd (omega (arith, are.0))
  | inr (inr over) ↦
      subst (λ (b : Bool). AreRecords (key + 1) (cond b records (one ∷ records)))
      (sym (ne_eqb one.0 key (λ same. omega (arith, same)))) (omega arith, are.1, are.2)
]

rise_made : (key : ℕ) (own : Option (Vec ℕ Global)) (more : List (ℕ × List ℕ)) → AreRecords key (made key own) → AreRecords (key + 1) more
    → AreRecords key (made key own ++ more)
unfolding AreRecords
rise_made key None more is are = AreRecords-less (key + 1) key more (omega arith) are
rise_made key (Some own) more is are = (is.0, is.1, are)

-- what is merged of them rises
rise_later : (least : ℕ) (records : List (ℕ × List ℕ)) (changes : ChangeList) → AreRecords least records → RiseFrom least changes
    → AreMade changes (length changes) → AreRecords least (merged records changes)
unfolding merged RiseFrom
rise_later least records [] are rise is = are
rise_later least records (one ∷ changes) are rise is =
    rise_below least one.0 records (made one.0 one.1 ++ merged (behind one.0 (from one.0 records)) changes) rise.0 are
    (rise_made one.0 one.1 (merged (behind one.0 (from one.0 records)) changes) (is zero (omega arith))
    (rise_later (one.0 + 1) (behind one.0 (from one.0 records)) changes
    (rise_behind one.0 (from one.0 records) (rise_from least one.0 records are)) rise.1 (λ k inside. is (suc k) (omega arith))))

pub merged_rise : (records : List (ℕ × List ℕ)) (changes : ChangeList) → AreRecords 0 records → RiseFrom 0 changes
    → AreMade changes (length changes)
    → AreRecords 0 (merged records changes)
merged_rise records changes are rise is = rise_later 0 records changes are rise is

-- a key below all records is not among them
find_low : (least key : ℕ) (records : List (ℕ × List ℕ)) → AreRecords least records → key < least → find nat_cmp key records ≡ None
unfolding AreRecords
find_low least key [] are low = refl
find_low least key (one ∷ records) are low =
    ap (λ (r : Ordering). cond (is_eq r) (Some one.1) (find nat_cmp key records)) (less_of key one.0 (omega (arith, are.0)))
    ∙ find_low (one.0 + 1) key records are.2 (omega (arith, are.0))

lookup_low : (least key : ℕ) (changes : ChangeList) → RiseFrom least changes → key < least → lookup (is_at (nat_cmp key)) changes ≡ None
unfolding RiseFrom
lookup_low least key [] rise low = refl
lookup_low least key (one ∷ changes) rise low =
    ap (λ (r : Ordering). cond (is_eq r) (Some one.1) (lookup (is_at (nat_cmp key)) changes)) (less_of key one.0 (omega (arith, rise.0)))
    ∙ lookup_low (one.0 + 1) key changes rise.1 (omega (arith, rise.0))

-- a key below another is found among the records below that, or not at all
find_under : (least q key : ℕ) (records more : List (ℕ × List ℕ)) → AreRecords least records → q < key → find nat_cmp q more ≡ None
    → find nat_cmp q (below key records ++ more) ≡ find nat_cmp q records
unfolding AreRecords below
find_under least q key [] more are under none = none
find_under least q key (one ∷ records) more are under none = elim (cases_lt one.0 key) [
  | inl inside ↦
      ap (λ (b : Bool). find nat_cmp q (cond b (one ∷ below key records) [] ++ more)) (lt-ltb one.0 key inside)
      ∙ ap (λ (o : Option (List ℕ)). cond (is_eq (nat_cmp q one.0)) (Some one.1) o)
      (find_under (one.0 + 1) q key records more are.2 under none)
  | inr over ↦
      ap (λ (b : Bool). find nat_cmp q (cond b (one ∷ below key records) [] ++ more)) (le-ltb one.0 key over)
      ∙ none ∙ sym (find_low one.0 q (one ∷ records) (omega arith, are.1, are.2) (omega arith))
]

-- a key that is not below it is not among those
find_over : (q key : ℕ) (records more : List (ℕ × List ℕ)) → key ≤ q → find nat_cmp q (below key records ++ more) ≡ find nat_cmp q more
unfolding below
find_over q key [] more over = refl
find_over q key (one ∷ records) more over = elim (cases_lt one.0 key) [
  | inl inside ↦
      ap (λ (b : Bool). find nat_cmp q (cond b (one ∷ below key records) [] ++ more)) (lt-ltb one.0 key inside)
      ∙ ap (λ (r : Ordering). cond (is_eq r) (Some one.1) (find nat_cmp q (below key records ++ more))) (greater_of q one.0 (omega arith))
      ∙ find_over q key records more over
  | inr above ↦ ap (λ (b : Bool). find nat_cmp q (cond b (one ∷ below key records) [] ++ more)) (le-ltb one.0 key above)
]

-- and a key above it is among those behind it, if at all
find_from : (q key : ℕ) (records : List (ℕ × List ℕ)) → key ≤ q → find nat_cmp q (from key records) ≡ find nat_cmp q records
unfolding from
find_from q key [] over = refl
find_from q key (one ∷ records) over = elim (cases_lt one.0 key) [
  | inl inside ↦
      ap (λ (b : Bool). find nat_cmp q (cond b (from key records) (one ∷ records))) (lt-ltb one.0 key inside)
      ∙ find_from q key records over
      ∙ sym (ap (λ (r : Ordering). cond (is_eq r) (Some one.1) (find nat_cmp q records)) (greater_of q one.0 (omega arith)))
  | inr above ↦ ap (λ (b : Bool). find nat_cmp q (cond b (from key records) (one ∷ records))) (le-ltb one.0 key above)
]

find_behind : (q key : ℕ) (records : List (ℕ × List ℕ)) → key < q → find nat_cmp q (behind key records) ≡ find nat_cmp q records
unfolding behind
find_behind q key [] over = refl
find_behind q key (one ∷ records) over = elim (cases_order one.0 key) [
  | inl same ↦
      ap (λ (b : Bool). find nat_cmp q (cond b records (one ∷ records))) (eq-eqb one.0 key same)
      ∙ sym (ap (λ (r : Ordering). cond (is_eq r) (Some one.1) (find nat_cmp q records)) (greater_of q one.0 (omega (arith, same))))
  | inr (inl under) ↦ ap (λ (b : Bool). find nat_cmp q (cond b records (one ∷ records))) (ne_eqb one.0 key (λ same. omega (arith, same)))
  | inr (inr above) ↦ ap (λ (b : Bool). find nat_cmp q (cond b records (one ∷ records))) (ne_eqb one.0 key (λ same. omega (arith, same)))
]

find_made_here : (key : ℕ) (own : Option (Vec ℕ Global)) (more : List (ℕ × List ℕ)) → find nat_cmp key more ≡ None
    → find nat_cmp key (made key own ++ more) ≡ option_map (λ (v : Vec ℕ Global). v.items) own
find_made_here key None more none = none
find_made_here key (Some own) more none =
    ap (λ (r : Ordering). cond (is_eq r) (Some own.items) (find nat_cmp key more)) (equal_of key key refl)

find_made_apart : (q key : ℕ) (own : Option (Vec ℕ Global)) (more : List (ℕ × List ℕ)) → q ≢ key
    → find nat_cmp q (made key own ++ more) ≡ find nat_cmp q more
find_made_apart q key None more apart = refl
find_made_apart q key (Some own) more apart =
    ap (λ (b : Bool). cond b (Some own.items) (find nat_cmp q more)) (apart_of q key apart)

-- what is merged has what the changes give, and else what the records have
find_merged : (least q : ℕ) (records : List (ℕ × List ℕ)) (changes : ChangeList) → AreRecords least records → RiseFrom least changes
    → AreMade changes (length changes)
    → find nat_cmp q (merged records changes) ≡ picked (lookup (is_at (nat_cmp q)) changes) (find nat_cmp q records)
unfolding merged RiseFrom
find_merged least q records [] are rise is = refl
find_merged least q records (one ∷ changes) are rise is =
    let later = behind one.0 (from one.0 records) in
    let are-later : AreRecords (one.0 + 1) later = rise_behind one.0 (from one.0 records) (rise_from least one.0 records are) in
    let more = merged later changes in
    let is-later : AreMade changes (length changes) = λ k inside. is (suc k) (omega arith) in
    let are-more : AreRecords (one.0 + 1) more = rise_later (one.0 + 1) later changes are-later rise.1 is-later in
    let are-made : AreRecords one.0 (made one.0 one.1 ++ more) = rise_made one.0 one.1 more (is zero (omega arith)) are-more in
    elim (cases_order q one.0) [
      | inl same ↦
          find_over q one.0 records (made one.0 one.1 ++ more) (omega (arith, same))
          ∙ ap (λ (n : ℕ). find nat_cmp n (made one.0 one.1 ++ more)) same
          ∙ find_made_here one.0 one.1 more (find_low (one.0 + 1) one.0 more are-more (omega arith))
          ∙ sym (ap (λ (r : Ordering). picked (cond (is_eq r) (Some one.1) (lookup (is_at (nat_cmp q)) changes)) (find nat_cmp q records))
          (equal_of q one.0 same))
      | inr (inl under) ↦
          find_under least q one.0 records (made one.0 one.1 ++ more) are under (find_low one.0 q (made one.0 one.1 ++ more) are-made under)
          ∙ sym (ap (λ (r : Ordering). picked (cond (is_eq r) (Some one.1) (lookup (is_at (nat_cmp q)) changes)) (find nat_cmp q records))
          (less_of q one.0 under)
          ∙ ap (λ (o : Option (Option (Vec ℕ Global))). picked o (find nat_cmp q records))
          (lookup_low (one.0 + 1) q changes rise.1 (omega arith)))
      | inr (inr over) ↦
          find_over q one.0 records (made one.0 one.1 ++ more) (omega arith)
          ∙ find_made_apart q one.0 one.1 more (λ same. omega (arith, same))
          ∙ find_merged (one.0 + 1) q later changes are-later rise.1 is-later
          ∙ ap (λ (o : Option (List ℕ)). picked (lookup (is_at (nat_cmp q)) changes) o)
          (find_behind q one.0 (from one.0 records) over ∙ find_from q one.0 records (omega arith))
          ∙ sym (ap (λ (r : Ordering). picked (cond (is_eq r) (Some one.1) (lookup (is_at (nat_cmp q)) changes)) (find nat_cmp q records))
          (greater_of q one.0 over))
    ]

-- the map of records with changes has the entries that are merged of them
pub entries_merged : (records : List (ℕ × List ℕ)) (changes : ChangeList) → AreRecords 0 records → RiseFrom 0 changes
    → AreMade changes (length changes) → map.entries (changed (map_of records) changes) ≡ merged records changes
entries_merged records changes are rise is =
    same_entries nat_cmp nat_cmp_total map.nat_cmp-IsAntisymmetric (map.entries (changed (map_of records) changes)) (merged records changes)
    (map.entries_sorted (changed (map_of records) changes))
    (sorted_rise 0 (merged records changes) (merged_rise records changes are rise is))
    (λ q. sym (map.get-entries (changed (map_of records) changes) q) ∙ get-changed (map_of records) changes q
    ∙ ap (λ (o : Option (List ℕ)). picked (lookup (is_at (nat_cmp q)) changes) o) (get-map_of records q are)
    ∙ sym (find_merged 0 q records changes are rise is))

-- the entries of a tree rise
less_is : (a b : ℕ) → nat_cmp a b ≡ Less → a < b
less_is a b less = elim (cases_order a b) [
  | inl same ↦ absurd (let other = equal_of a b same in cc (less, other))
  | inr (inl below) ↦ below
  | inr (inr above) ↦ absurd (let other = greater_of a b above in cc (less, other))
]

rise_above : (key : ℕ) (changes : ChangeList) → AllByRecursion (λ (other : ℕ). nat_cmp key other ≡ Less) (keys_of changes)
    → IsStrictlySortedBy nat_cmp (keys_of changes) → RiseFrom (key + 1) changes
unfolding RiseFrom IsStrictlySortedBy
rise_above key [] above sorted = tt
rise_above key (one ∷ changes) above sorted =
    let low = less_is key one.0 above.0 in (omega (arith, low), rise_above one.0 changes sorted.0 sorted.1)

pub rise_tree : (changes : ChangeList) → IsStrictlySortedBy nat_cmp (keys_of changes) → RiseFrom 0 changes
unfolding RiseFrom IsStrictlySortedBy
rise_tree [] sorted = tt
rise_tree (one ∷ changes) sorted = (omega arith, rise_above one.0 changes sorted.0 sorted.1)

-- what stands at a place of changes
step_here : (changes : ChangeList) (k : ℕ) (one : ℕ × Option (Vec ℕ Global)) → slice_get changes k ≡ Some one
    → (get_or changes k no_change ≡ one) × (drop k changes ≡ one ∷ drop (k + 1) changes)
step_here [] k one is = absurd (cc)
step_here (other ∷ changes) zero one is =
    let same : other ≡ one = cc in (same, ap (λ (o : ℕ × Option (Vec ℕ Global)). o ∷ changes) same)
step_here (other ∷ changes) (suc k) one is =
    let later = step_here changes k one is in
    let next : suc k + 1 ≡ suc (k + 1) = omega arith in
    (later.0, later.1 ∙ ap (λ (n : ℕ). one ∷ drop n (other ∷ changes)) (sym next))

-- a change more
merge_one : (records : List (ℕ × List ℕ)) (one : ℕ × Option (Vec ℕ Global)) (changes : ChangeList)
    → records_bytes (merged records (one ∷ changes)) ≡ records_bytes (below one.0 records) ++ records_bytes (made one.0 one.1)
    ++ records_bytes (merged (behind one.0 (from one.0 records)) changes)
unfolding merged
merge_one records one changes =
    let more = merged (behind one.0 (from one.0 records)) changes in
    records_bytes-append (below one.0 records) (made one.0 one.1 ++ more)
    ∙ ap (λ (l : List ℕ). records_bytes (below one.0 records) ++ l) (records_bytes-append (made one.0 one.1) more)
    ∙ sym (append_assoc (records_bytes (below one.0 records)) (records_bytes (made one.0 one.1)) (records_bytes more))

pub merge_step : (records : List (ℕ × List ℕ)) (changes : ChangeList) (k at next key : ℕ) (own : Option (Vec ℕ Global))
    (out more whole : List ℕ)
    → slice_get changes k ≡ Some (key, own)
    → more ≡ out ++ (records_bytes (below key (drop at records)) ++ records_bytes (made key own))
    → drop next records ≡ behind key (from key (drop at records))
    → out ++ records_bytes (merged (drop at records) (drop k changes)) ≡ whole
    → more ++ records_bytes (merged (drop next records) (drop (k + 1) changes)) ≡ whole
merge_step records changes k at next key own out more whole here more-is next-is so-far =
    let step = step_here changes k (key, own) here in
    let front = records_bytes (below key (drop at records)) ++ records_bytes (made key own) in
    let later = merged (drop next records) (drop (k + 1) changes) in
    ap (λ (l : List ℕ). l ++ records_bytes later) more-is ∙ append_assoc out front (records_bytes later)
    ∙ ap (λ (l : List (ℕ × List ℕ)). out ++ (front ++ records_bytes (merged l (drop (k + 1) changes)))) next-is
    ∙ ap (λ (l : List ℕ). out ++ l) (sym (merge_one (drop at records) (key, own) (drop (k + 1) changes)))
    ∙ ap (λ (l : ChangeList). out ++ records_bytes (merged (drop at records) l)) (sym step.1) ∙ so-far

pub made_step : (changes : ChangeList) (k key : ℕ) (own : Option (Vec ℕ Global)) → slice_get changes k ≡ Some (key, own)
    → AreRecords key (made key own) → AreMade changes k → AreMade changes (k + 1)
made_step changes k key own here is so-far j low = elim (cases_lt j k) [
  | inl under ↦ so-far j under
  | inr over ↦
      let level : j ≡ k = omega arith in
      let same : get_or changes j no_change ≡ (key, own) =
      ap (λ (n : ℕ). get_or changes n no_change) level ∙ (step_here changes k (key, own) here).0 in
      subst (λ (one : ℕ × Option (Vec ℕ Global)). AreRecords one.0 (made one.0 one.1)) (sym same) is
]

pub merge_start : (records : List (ℕ × List ℕ)) (changes : ChangeList) (out : List ℕ) → out ≡ []
    → out ++ records_bytes (merged (drop 0 records) (drop 0 changes)) ≡ records_bytes (merged records changes)
merge_start records changes out none = ap (λ (l : List ℕ). l ++ records_bytes (merged records changes)) none

-- at the end what is left are the records
pub merge_end : (records : List (ℕ × List ℕ)) (changes : ChangeList) (k at many : ℕ) (out last part whole : List ℕ) → length changes ≤ k
    → many ≡ length records → last ≡ out ++ part → part ≡ records_bytes (take (many - at) (drop at records))
    → out ++ records_bytes (merged (drop at records) (drop k changes)) ≡ whole → last ≡ whole
unfolding merged
merge_end records changes k at many out last part whole past many-is last-is part-is so-far =
    let none : drop k changes ≡ [] = drop_all k changes past in
    let rest : take (many - at) (drop at records) ≡ drop at records =
    ap (λ (n : ℕ). take (n - at) (drop at records)) many-is ∙ take_rest records at in
    last-is ∙ ap (λ (l : List ℕ). out ++ l) (part-is ∙ ap records_bytes rest)
    ∙ ap (λ (l : ChangeList). out ++ records_bytes (merged (drop at records) l)) (sym none) ∙ so-far
