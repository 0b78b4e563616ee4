-- The buckets of a transaction as a finite map.
use Rattle.std.proofs.Common.{◌≡◌, ◌≢◌, ◌⊎◌, ◌-◌, ◌<◌, ℕ, Bool, true, cond, Option, Some, None, Result, Ok, Err, sym, ap, ◌∙◌}
use Rattle.std.proofs.Common.{arith, inl, inr}
use Rattle.std.proofs.lemmas.Bool.{cases_order}
use Rattle.std.specs.declared.cmp.Ordering.{Ordering}
use Rattle.bucket_records.proofs.MapLaws.{less_of, equal_of, greater_of}
use Rattle.std.proofs.lemmas.Option.{same_Some}
use Rattle.std.specs.Result.{IfOk, OnOk, OnErr}
use Rattle.std.specs.Bool.{IsTrue}
use Rattle.std.specs.Option.{IfSome, IsSome, OnSome, is_some}
use Rattle.std.specs.Ordering.{nat_cmp, is_eq}
use Rattle.std.specs.Cmp.{nat_cmp_total}
use Rattle.std.specs.FinMap as map
use Rattle.std.specs.FinMap.{nat_cmp-IsAntisymmetric}
use Rattle.bucket_store.specs.Cache.{CacheMap}
use Rattle.bucket_store.specs.declared.cache.Cached.{Cached}

pub true_is_some : (b : Bool) (o : Option Cached) → b ≡ is_some o → IsTrue b → IsSome o
true_is_some b None same is = absurd (cc)
true_is_some b (Some own) same is = cc

pub some_is_true : (b : Bool) (o : Option Cached) → b ≡ is_some o → IsSome o → IsTrue b
some_is_true b None same some = absurd (cc)
some_is_true b (Some own) same some = cc

pub not_none : IsSome {T = Cached} None → ⊥
not_none some = absurd (cc)

pub none_own : (own : Cached) → None ≡ Some own → ⊥
none_own own same = absurd (cc)

pub some_there : (own : Cached) → IsSome (Some own)
some_there own = cc

-- facts that follow at one outcome
pub on_ok : {T E : Type 0} (r : Result T E) (P Q : Type 0) → OnOk r P → (P → Q) → OnOk r Q
on_ok (Ok x) P Q holds leads = leads holds
on_ok (Err e) P Q holds leads = tt

pub on_err : {T E : Type 0} (r : Result T E) (P Q : Type 0) → OnErr r P → (P → Q) → OnErr r Q
on_err (Ok x) P Q holds leads = tt
on_err (Err e) P Q holds leads = leads holds

pub at_err : {T E : Type 0} (r : Result T E) (P : Type 0) → P → OnErr r P
at_err (Ok x) P holds = tt
at_err (Err e) P holds = holds

pub if_ok : {T E : Type 0} (r : Result T E) (P Q : T → Type 0) → IfOk r P → ((x : T) → P x → Q x) → IfOk r Q
if_ok (Ok x) P Q holds leads = leads x holds
if_ok (Err e) P Q holds leads = tt

-- to put back what is there changes nothing
pub insert_same : (seen : CacheMap) (n : ℕ) (own : Cached) → map.get seen n ≡ Some own → map.insert seen n own ≡ seen
insert_same seen n own here =
    map.same_map nat_cmp_total nat_cmp-IsAntisymmetric (map.insert seen n own) seen (λ q.
    map.get-insert nat_cmp_total seen n own q ∙ elim (cases_order q n) [
      | inl same ↦
          ap (λ (r : Ordering). cond (is_eq r) (Some own) (map.get seen q)) (equal_of q n same) ∙ sym here
          ∙ ap (λ (k : ℕ). map.get seen k) (sym same)
      | inr (inl low) ↦ ap (λ (r : Ordering). cond (is_eq r) (Some own) (map.get seen q)) (less_of q n low)
      | inr (inr high) ↦ ap (λ (r : Ordering). cond (is_eq r) (Some own) (map.get seen q)) (greater_of q n high)
    ])

pub nothing : (seen : CacheMap) (n : ℕ) (own : Cached) → seen ≡ map.empty → map.get seen n ≡ Some own → ⊥
nothing seen n own none there =
    let absent : map.get seen n ≡ None = ap (λ (m : CacheMap). map.get m n) none ∙ map.get-empty nat_cmp n in
    absurd (cc (absent, there))

-- as many buckets as entries
pub on_some : {T : Type 0} (o : Option T) (P Q : Type 0) → OnSome o P → (P → Q) → OnSome o Q
on_some None P Q holds leads = tt
on_some (Some x) P Q holds leads = leads holds

pub if_some : {T : Type 0} (o : Option T) (P Q : T → Type 0) → IfSome o P → ((x : T) → P x → Q x) → IfSome o Q
if_some None P Q holds leads = tt
if_some (Some x) P Q holds leads = leads x holds

-- a bucket less
pub fewer : (old new : CacheMap) (n : ℕ) (own : Cached) → map.get old n ≡ Some own → new ≡ map.remove old n → map.len new < map.len old
fewer old new n own there is =
    let has : map.contains_key old n ≡ true = ap (λ (o : Option Cached). is_some o) there in
    let less : map.len new ≡ map.len old - 1 =
    ap (λ (m : CacheMap). map.len m) is ∙ map.len-remove nat_cmp_total old n
    ∙ ap (λ (b : Bool). cond b (map.len old - 1) (map.len old)) has in
    let some : map.len old ≢ 0 = λ zero. nothing old n own (map.empty_of_len old zero) there in
    grind (arith, less, some)

pub get_less : (old new : CacheMap) (n k : ℕ) → new ≡ map.remove old n → map.get new k ≡ cond (is_eq (nat_cmp k n)) None (map.get old k)
get_less old new n k is = ap (λ (m : CacheMap). map.get m k) is ∙ map.get-remove nat_cmp_total old n k

-- what holds of the buckets that were taken out holds of one more
pub rise_less : (old new : CacheMap) (n : ℕ) (out : Cached) (k : ℕ) (own : Cached) (P : Type 0) → map.get old n ≡ Some out
    → new ≡ map.remove old n
    → (out ≡ own → P) → (map.get old k ≡ Some own) ⊎ P → (map.get new k ≡ Some own) ⊎ P
rise_less old new n out k own P there is leads (inr has) = inr has
rise_less old new n out k own P there is leads (inl here) = elim (cases_order k n) [
  | inl same ↦ inr (leads (same_Some out own (sym there ∙ ap (λ (j : ℕ). map.get old j) (sym same) ∙ here)))
  | inr (inl low) ↦
      inl (get_less old new n k is ∙ ap (λ (r : Ordering). cond (is_eq r) None (map.get old k)) (less_of k n low) ∙ here)
  | inr (inr high) ↦
      inl (get_less old new n k is ∙ ap (λ (r : Ordering). cond (is_eq r) None (map.get old k)) (greater_of k n high) ∙ here)
]

pub rise_end : (left : CacheMap) (k : ℕ) (own : Cached) (P : Type 0) → left ≡ map.empty → (map.get left k ≡ Some own) ⊎ P → P
rise_end left k own P none (inl here) = absurd (nothing left k own none here)
rise_end left k own P none (inr has) = has
