-- Rising records and changes as finite maps.
use Rattle.std.proofs.Common.{◌≡◌, ◌≢◌, ℕ, zero, suc, ◌+◌, ◌<◌, ◌≤◌, Bool, true, false, cond, ◌&&◌, T, List, [], ◌∷◌, ◌++◌, length, Option}
use Rattle.std.proofs.Common.{Some, None, Result, Ok, Err, Vec, refl, sym, ap, subst, ◌∙◌, arith, inl, inr}
use Rattle.std.proofs.lemmas.Bool.{cases_order}
use Rattle.std.specs.Option.{option_map, is_some, MatchOption}
use Rattle.std.specs.Result.{IfOk}
use Rattle.std.specs.Ordering.{nat_cmp, is_lt, is_eq}
use Rattle.std.specs.declared.cmp.Ordering.{Ordering}
use Rattle.std.specs.declared.cmp.Ordering.TheVariants.{Less, Equal, Greater}
use Rattle.std.specs.declared.alloc.Global.{Global}
use Rattle.std.specs.Cmp.{nat_cmp_total, nat_cmp_is, eq_by_cmp_equiv}
use Rattle.std.specs.BTreeMap.{is_at}
use Rattle.std.specs.Map.{lookup}
use Rattle.std.specs.FinMap as map
use Rattle.std.specs.FinMap.{find, put}
use Rattle.std.specs.FinMap.Entries.{below_all, by_order}
use Rattle.bucket_records.specs.Records.{BucketMap, AreRecords}
use Rattle.bucket_records.specs.Places.{key_of, value_of, IsPlaceOf}
use Rattle.bucket_records.specs.Changes.{ChangeList, change, changed, map_of}

-- how two numbers compare
pub less_of : (a b : ℕ) → a < b → nat_cmp a b ≡ Less
less_of a b h = sym (nat_cmp_is a b Less h)

pub equal_of : (a b : ℕ) → a ≡ b → nat_cmp a b ≡ Equal
equal_of a b h = sym (nat_cmp_is a b Equal h)

pub greater_of : (a b : ℕ) → b < a → nat_cmp a b ≡ Greater
greater_of a b h = sym (nat_cmp_is a b Greater h)

pub apart_of : (a b : ℕ) → a ≢ b → is_eq (nat_cmp a b) ≡ false
apart_of a b h = elim (cases_order a b) [
  | inl same ↦ absurd (h same)
  | inr (inl below) ↦ ap is_eq (less_of a b below)
  | inr (inr above) ↦ ap is_eq (greater_of a b above)
]

true_is : (b : Bool) → b ≡ true → T b
true_is b e = subst (λ (c : Bool). T c) (sym e) tt

both_true : (a b : Bool) → T a → T b → T (a && b)
both_true true b p q = q
both_true false b p q = absurd p

-- rising records are sorted
below_rise : (key least : ℕ) (records : List (ℕ × List ℕ)) → key < least → AreRecords least records → T (below_all nat_cmp key records)
unfolding AreRecords
below_rise key least [] low are = tt
below_rise key least (one ∷ records) low are =
    both_true (is_lt (nat_cmp key one.0)) (below_all nat_cmp key records)
    (true_is (is_lt (nat_cmp key one.0)) (ap is_lt (less_of key one.0 (omega (arith, are.0)))))
    (below_rise key (one.0 + 1) records (omega (arith, are.0)) are.2)

pub sorted_rise : (least : ℕ) (records : List (ℕ × List ℕ)) → AreRecords least records → T (map.is_sorted nat_cmp records)
unfolding AreRecords
sorted_rise least [] are = tt
sorted_rise least (one ∷ records) are =
    both_true (below_all nat_cmp one.0 records) (map.is_sorted nat_cmp records)
    (below_rise one.0 (one.0 + 1) records (omega arith) are.2) (sorted_rise (one.0 + 1) records are.2)

pub entries-map_of : (records : List (ℕ × List ℕ)) → AreRecords 0 records → map.entries (map_of records) ≡ records
unfolding map_of
entries-map_of records are = map.entries-from_sorted nat_cmp records (sorted_rise 0 records are)

pub get-map_of : (records : List (ℕ × List ℕ)) (key : ℕ) → AreRecords 0 records → map.get (map_of records) key ≡ find nat_cmp key records
unfolding map_of
get-map_of records key are = map.get-from_sorted nat_cmp records key (sorted_rise 0 records are)

-- a key that is none of theirs is not found, and one that is, is
pub find_apart : (records : List (ℕ × List ℕ)) (key : ℕ) → ((k : ℕ) → k < length records → key_of records k ≢ key)
    → find nat_cmp key records ≡ None
find_apart [] key apart = refl
find_apart (one ∷ records) key apart =
    ap (λ (b : Bool). cond b (Some one.1) (find nat_cmp key records)) (apart_of key one.0 (λ e. apart zero (omega arith) (sym e)))
    ∙ find_apart records key (λ k inside. apart (suc k) (omega arith))

pub find_here : (records : List (ℕ × List ℕ)) (key place : ℕ) → place < length records → key_of records place ≡ key
    → ((k : ℕ) → k < place → key_of records k ≢ key) → find nat_cmp key records ≡ Some (value_of records place)
find_here [] key place inside here apart = absurd (omega arith)
find_here (one ∷ records) key zero inside here apart =
    ap (λ (r : Ordering). cond (is_eq r) (Some one.1) (find nat_cmp key records)) (equal_of key one.0 (sym here))
find_here (one ∷ records) key (suc place) inside here apart =
    ap (λ (b : Bool). cond b (Some one.1) (find nat_cmp key records)) (apart_of key one.0 (λ e. apart zero (omega arith) (sym e)))
    ∙ find_here records key place (omega arith) here (λ k low. apart (suc k) (omega arith))

-- keys rise
pub least_key : (least : ℕ) (records : List (ℕ × List ℕ)) (k : ℕ) → AreRecords least records → k < length records → least ≤ key_of records k
unfolding AreRecords
least_key least [] k are inside = absurd (omega arith)
least_key least (one ∷ records) zero are inside = are.0
least_key least (one ∷ records) (suc k) are inside =
    let later = least_key (one.0 + 1) records k are.2 (omega arith) in omega (arith, later, are.0)

pub keys_rise : (least : ℕ) (records : List (ℕ × List ℕ)) (i j : ℕ) → AreRecords least records → i < j → j < length records
    → key_of records i < key_of records j
unfolding AreRecords
keys_rise least [] i j are order inside = absurd (omega arith)
keys_rise least (one ∷ records) zero zero are order inside = absurd (omega arith)
keys_rise least (one ∷ records) zero (suc j) are order inside =
    let later = least_key (one.0 + 1) records j are.2 (omega arith) in omega (arith, later)
keys_rise least (one ∷ records) (suc i) zero are order inside = absurd (omega arith)
keys_rise least (one ∷ records) (suc i) (suc j) are order inside = keys_rise (one.0 + 1) records i j are.2 (omega arith) (omega arith)

-- what is at the place of a key
pub place_past : (records : List (ℕ × List ℕ)) (key place : ℕ) → IsPlaceOf records key place → length records ≤ place
    → find nat_cmp key records ≡ None
place_past records key place is past =
    find_apart records key (λ k inside same. let low = is.below k (omega (arith, past, inside)) in omega (arith, low, same))

pub place_there : (records : List (ℕ × List ℕ)) (key place : ℕ) → IsPlaceOf records key place → place < length records
    → key_of records place ≡ key
    → find nat_cmp key records ≡ Some (value_of records place)
place_there records key place is inside here =
    find_here records key place inside here (λ k low same. let below = is.below k low in omega (arith, below, same))

pub place_apart : (records : List (ℕ × List ℕ)) (key place : ℕ) → AreRecords 0 records → IsPlaceOf records key place
    → place < length records
    → key_of records place ≢ key → find nat_cmp key records ≡ None
place_apart records key place are is inside other =
    find_apart records key (λ k within same. elim (cases_order k place) [
      | inl level ↦ other (ap (λ (n : ℕ). key_of records n) (sym level) ∙ same)
      | inr (inl low) ↦ let below = is.below k low in omega (arith, below, same)
      | inr (inr high) ↦
          let from = is.from place (omega arith) inside in
          let rise = keys_rise 0 records place k are high within in omega (arith, from, rise, same)
    ])

-- a record above the others
put_last : (least : ℕ) (records : List (ℕ × List ℕ)) (key : ℕ) (value : List ℕ) → AreRecords least records
    → ((k : ℕ) → k < length records → key_of records k < key) → put nat_cmp key value records ≡ records ++ (key, value) ∷ []
unfolding AreRecords
put_last least [] key value are above = refl
put_last least (one ∷ records) key value are above =
    ap (λ (r : Ordering). by_order r ((key, value) ∷ one ∷ records) ((one.0, value) ∷ records) (one ∷ put nat_cmp key value records))
    (greater_of key one.0 (above zero (omega arith)))
    ∙ ap (λ (l : List (ℕ × List ℕ)). one ∷ l) (put_last (one.0 + 1) records key value are.2 (λ k inside. above (suc k) (omega arith)))

pub map_of-push : (records : List (ℕ × List ℕ)) (key : ℕ) (value : List ℕ) → AreRecords 0 records
    → AreRecords 0 (records ++ (key, value) ∷ [])
    → ((k : ℕ) → k < length records → key_of records k < key)
    → map_of (records ++ (key, value) ∷ []) ≡ map.insert (map_of records) key value
map_of-push records key value are more above =
    map.same_entries_map (map_of (records ++ (key, value) ∷ [])) (map.insert (map_of records) key value)
    (entries-map_of (records ++ (key, value) ∷ []) more ∙ sym (map.entries-insert nat_cmp_total (map_of records) key value
    ∙ ap (λ (l : List (ℕ × List ℕ)). put nat_cmp key value l) (entries-map_of records are) ∙ put_last 0 records key value are above))

-- what a change gives for a key
abbrev pub picked : Option (Option (Vec ℕ Global)) → Option (List ℕ) → Option (List ℕ)
picked None other = other
picked (Some own) other = option_map (λ (v : Vec ℕ Global). v.items) own

get-change : (values : BucketMap) (key : ℕ) (own : Option (Vec ℕ Global)) (q : ℕ)
    → map.get (change values key own) q ≡ cond (is_eq (nat_cmp q key)) (option_map (λ (v : Vec ℕ Global). v.items) own) (map.get values q)
get-change values key None q = map.get-remove nat_cmp_total values key q
get-change values key (Some own) q = map.get-insert nat_cmp_total values key own.items q

cond_picked : (b : Bool) (own : Option (Vec ℕ Global)) (later : Option (Option (Vec ℕ Global))) (other : Option (List ℕ))
    → cond b (option_map (λ (v : Vec ℕ Global). v.items) own) (picked later other) ≡ picked (cond b (Some own) later) other
cond_picked true own later other = refl
cond_picked false own later other = refl

pub get-changed : (values : BucketMap) (changes : ChangeList) (q : ℕ)
    → map.get (changed values changes) q ≡ picked (lookup (is_at (nat_cmp q)) changes) (map.get values q)
unfolding changed
get-changed values [] q = refl
get-changed values (one ∷ changes) q =
    get-change (changed values changes) one.0 one.1 q
    ∙ ap (λ (o : Option (List ℕ)). cond (is_eq (nat_cmp q one.0)) (option_map (λ (v : Vec ℕ Global). v.items) one.1) o)
    (get-changed values changes q)
    ∙ cond_picked (is_eq (nat_cmp q one.0)) one.1 (lookup (is_at (nat_cmp q)) changes) (map.get values q)

-- changes with one more
pub changed_more : (values : BucketMap) (old new : ChangeList) (key : ℕ) (own : Option (Vec ℕ Global))
    → ((q : ℕ) → lookup (is_at (nat_cmp q)) new ≡ cond (is_eq (nat_cmp key q)) (Some own) (lookup (is_at (nat_cmp q)) old))
    → changed values new ≡ change (changed values old) key own
changed_more values old new key own updates =
    map.same_map nat_cmp_total map.nat_cmp-IsAntisymmetric (changed values new) (change (changed values old) key own) (λ q.
    get-changed values new q ∙ ap (λ (o : Option (Option (Vec ℕ Global))). picked o (map.get values q)) (updates q
    ∙ ap (λ (b : Bool). cond b (Some own) (lookup (is_at (nat_cmp q)) old)) ((eq_by_cmp_equiv nat_cmp_total).symm key q))
    ∙ sym (get-change (changed values old) key own q
    ∙ ap (λ (o : Option (List ℕ)). cond (is_eq (nat_cmp q key)) (option_map (λ (v : Vec ℕ Global). v.items) own) o)
    (get-changed values old q)
    ∙ cond_picked (is_eq (nat_cmp q key)) own (lookup (is_at (nat_cmp q)) old) (map.get values q)))

pub changed-nil : (values : BucketMap) → changed values [] ≡ values
unfolding changed
changed-nil values = refl

pub no_changes : (changes : ChangeList) → length changes ≡ 0 → changes ≡ []
no_changes [] none = refl
no_changes (one ∷ changes) none = absurd (omega arith)

-- to take out a key that is not there changes nothing
pub remove_absent : (values : BucketMap) (key : ℕ) → map.get values key ≡ None → values ≡ map.remove values key
remove_absent values key none =
    map.same_map nat_cmp_total map.nat_cmp-IsAntisymmetric values (map.remove values key) (λ q.
    elim (cases_order q key) [
      | inl same ↦
          ap (λ (n : ℕ). map.get values n) same ∙ none
          ∙ sym (map.get-remove nat_cmp_total values key q
          ∙ ap (λ (r : Ordering). cond (is_eq r) None (map.get values q)) (equal_of q key same))
      | inr (inl low) ↦
          sym (map.get-remove nat_cmp_total values key q
          ∙ ap (λ (r : Ordering). cond (is_eq r) None (map.get values q)) (less_of q key low))
      | inr (inr high) ↦
          sym (map.get-remove nat_cmp_total values key q
          ∙ ap (λ (r : Ordering). cond (is_eq r) None (map.get values q)) (greater_of q key high))
    ])

-- the records up to one below a key are below it, and those from one that is not on are not
pub keys_below : (records : List (ℕ × List ℕ)) (key middle : ℕ) → AreRecords 0 records → middle < length records
    → key_of records middle < key
    → (k : ℕ) → k < middle + 1 → key_of records k < key
keys_below records key middle are inside below k low = elim (cases_order k middle) [
  | inl level ↦ let same = ap (λ (n : ℕ). key_of records n) level in omega (arith, same, below)
  | inr (inl under) ↦ let rise = keys_rise 0 records k middle are under inside in omega (arith, rise, below)
  | inr (inr over) ↦ absurd (omega arith)
]

pub keys_from : (records : List (ℕ × List ℕ)) (key middle : ℕ) → AreRecords 0 records → key ≤ key_of records middle
    → (k : ℕ) → middle ≤ k → k < length records → key ≤ key_of records k
keys_from records key middle are above k high inside = elim (cases_order k middle) [
  | inl level ↦ let same = ap (λ (n : ℕ). key_of records n) level in omega (arith, same, above)
  | inr (inl under) ↦ absurd (omega arith)
  | inr (inr over) ↦ let rise = keys_rise 0 records middle k are over inside in omega (arith, rise, above)
]

pub got_map : (values : BucketMap) (changes : ChangeList) (seen : BucketMap) (key : ℕ) → changed values changes ≡ seen
    → (found : Option (Option (Vec ℕ Global))) → lookup (is_at (nat_cmp key)) changes ≡ found
    → map.get seen key ≡ picked found (map.get values key)
got_map values changes seen key is found there =
    ap (λ (m : BucketMap). map.get m key) (sym is) ∙ get-changed values changes key
    ∙ ap (λ (o : Option (Option (Vec ℕ Global))). picked o (map.get values key)) there

-- what holds where there is no value
pub none_holds : {X : Type 0} (P : Type 0) (Q : X → Type 0) (o : Option X) → MatchOption o P Q → is_some o ≡ false → P
none_holds P Q None holds none = holds
none_holds P Q (Some x) holds none = absurd (cc)

-- what holds of a result leads to another fact
pub if_ok : {T E : Type 0} (r : Result T E) (P Q : T → Type 0) → IfOk r P → ((x : T) → P x → Q x) → IfOk r Q
if_ok (Ok x) P Q holds leads = leads x holds
if_ok (Err e) P Q holds leads = tt
