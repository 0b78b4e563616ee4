-- A store of which all chains were read, and all pages found in one, means something.
use Rattle.std.proofs.Common.{◌≡◌, ◌≢◌, ◌⊎◌, inl, inr, ℕ, zero, suc, ◌+◌, ◌*◌, ◌%◌, ◌<◌, ◌≤◌, ◌==◌, Bool, true, false, cond}
use Rattle.std.proofs.Common.{if◌then◌else◌, nat_lt, List, [], ◌∷◌, length, Option, Some, None, refl, sym, ap, subst, ◌∙◌, arith, ⊎_elim}
use Rattle.std.specs.Cmp.{nat_cmp_total}
use Rattle.std.specs.FinMap as map
use Rattle.std.specs.FinMap.{find}
use Rattle.std.specs.Ordering.{eq_by_cmp, nat_cmp}
use Rattle.std.proofs.lemmas.Bool.{eqb-true}
use Rattle.std.proofs.lemmas.Bool.Decides.{nat_tests}
use Rattle.bucket_records.specs.Records.{AreOf, BucketMap, IsBucket}
use Rattle.bucket_store.specs.Image.{Image, IsPart, Spells, bucket_chain}
use Rattle.bucket_store.specs.Whole.{with_records}
use Rattle.chain_store.specs.Chain.{HasPages, Holds}
use Rattle.chain_store.specs.Directories.{IsChain, IsCount, directory_first, first_in, root_in}
use Rattle.chain_store.specs.Links.{page_in}
use Rattle.chain_store.specs.State.{IsIn, IsOwner, IsState}
use Rattle.chain_store.specs.declared.layout.TheConstants.{CHAIN_END, FREE}
use Rattle.chain_store.specs.declared.root.Root.{Root}
use Rattle.store_check.proofs.Exist.{same}

pub below : (n k : ℕ) → nat_lt n k ≡ true → n < k
below n k is = grind (arith, nat_tests)

pub not_below : (n k : ℕ) → nat_lt n k ≡ false → n < k → ⊥
not_below n k is low = grind (arith, nat_tests)

pub level_or_apart : (n k : ℕ) → (n ≡ k) ⊎ (n ≢ k)
level_or_apart n k = elim (n == k) as (λ b. (n == k) ≡ b → (n ≡ k) ⊎ (n ≢ k)) [
  | true ↦ λ is. inl (eqb-true n k is)
  | false ↦ λ is. inr (λ level. grind (arith, nat_tests))
] refl

-- one found, or else another
or_else : Option (List ℕ) → Option (List ℕ) → Option (List ℕ)
or_else None other = other
or_else (Some own) other = Some own

none_else : (other : Option (List ℕ)) → or_else None other ≡ other
unfolding or_else
none_else other = refl

else_none : (own : Option (List ℕ)) → or_else own None ≡ own
unfolding or_else
else_none None = refl
else_none (Some own) = refl

cond_else : (b : Bool) (own : List ℕ) (later other : Option (List ℕ))
    → cond b (Some own) (or_else later other) ≡ or_else (cond b (Some own) later) other
unfolding or_else
cond_else true own later other = refl
cond_else false own later other = refl

put_get : (records : List (ℕ × List ℕ)) (whole : BucketMap) (key : ℕ)
    → map.get (with_records records whole) key ≡ or_else (find nat_cmp key records) (map.get whole key)
put_get [] whole key = sym (none_else (map.get whole key))
put_get (one ∷ records) whole key =
    map.get-insert nat_cmp_total (with_records records whole) one.0 one.1 key
    ∙ ap (λ found. cond (eq_by_cmp nat_cmp key one.0) (Some one.1) found) (put_get records whole key)
    ∙ cond_else (eq_by_cmp nat_cmp key one.0) one.1 (find nat_cmp key records) (map.get whole key)

-- a bucket has only its keys
not_of : (buckets bucket key : ℕ) (records : List (ℕ × List ℕ)) → AreOf buckets bucket records → key % buckets ≢ bucket
    → find nat_cmp key records ≡ None
unfolding AreOf
not_of buckets bucket key [] are other = refl
not_of buckets bucket key (one ∷ records) are other =
    elim (eq_by_cmp nat_cmp key one.0) as (λ b. eq_by_cmp nat_cmp key one.0 ≡ b → cond b (Some one.1) (find nat_cmp key records) ≡ None) [
      | true ↦ λ tied. absurd (other (ap (λ (own : ℕ). own % buckets) (same key one.0 tied) ∙ are.0))
      | false ↦ λ apart. not_of buckets bucket key records are.1 other
    ] refl

module _ (pages : List (List ℕ)) (root : Root) (directory : ℕ → List ℕ) where
  abbrev page : ℕ → List ℕ
  page = page_in pages

  abbrev home : ℕ
  home = length pages + 1

  abbrev first : ℕ → ℕ
  first = first_in (page_in pages 1) directory

  abbrev AllLoaded : Type 0
  AllLoaded = (n : ℕ) → IsChain n → (bytes : List ℕ) × Holds page home n (first n) bytes

  module _ (loaded : AllLoaded) where
    pick : (n : ℕ) (b : Bool) → nat_lt n CHAIN_END ≡ b → List ℕ
    pick n true is = (loaded n (below n CHAIN_END is)).0
    pick n false is = []

    -- the bytes of each chain
    pub strings : ℕ → List ℕ
    strings n = pick n (nat_lt n CHAIN_END) refl

    pick_holds : (n : ℕ) (b : Bool) (is : nat_lt n CHAIN_END ≡ b) → IsChain n → Holds page home n (first n) (pick n b is)
    unfolding pick
    pick_holds n true is chain = (loaded n (below n CHAIN_END is)).1
    pick_holds n false is chain = absurd (not_below n CHAIN_END is chain)

    pub holds : (n : ℕ) → IsChain n → Holds page home n (first n) (strings n)
    unfolding strings
    holds n chain = pick_holds n (nat_lt n CHAIN_END) refl chain

    module _ (owns : ℕ → ℕ → BucketMap)
        (spelled : (m bucket : ℕ) → m < 8 → bucket < root.buckets
        → IsBucket root.buckets bucket (strings (bucket_chain m bucket)) (map.entries (owns m bucket))) where
      pub union : (m count : ℕ) → BucketMap
      union m zero = map.empty
      union m (suc bucket) = with_records (map.entries (owns m bucket)) (union m bucket)

      absent : (m bucket key : ℕ) → m < 8 → bucket < root.buckets → key % root.buckets ≢ bucket → map.get (owns m bucket) key ≡ None
      absent m bucket key low few other = map.get-entries (owns m bucket) key
          ∙ not_of root.buckets bucket key (map.entries (owns m bucket)) (spelled m bucket low few).own other

      more : (m bucket key : ℕ) → map.get (union m (suc bucket)) key ≡ or_else (map.get (owns m bucket) key) (map.get (union m bucket) key)
      unfolding union
      more m bucket key = put_get (map.entries (owns m bucket)) (union m bucket) key
          ∙ ap (λ found. or_else found (map.get (union m bucket) key)) (sym (map.get-entries (owns m bucket) key))

      above : (m count key : ℕ) → m < 8 → count ≤ root.buckets → count ≤ key % root.buckets → map.get (union m count) key ≡ None
      unfolding union
      above m zero key low few high = map.get-empty nat_cmp key
      above m (suc bucket) key low few high =
          more m bucket key ∙ ap (λ found. or_else found (map.get (union m bucket) key))
          (absent m bucket key low (omega (arith, few)) (λ level. absurd (omega (arith, level, high))))
          ∙ none_else (map.get (union m bucket) key) ∙ above m bucket key low (omega (arith, few)) (omega (arith, high))

      found_at : (m count key : ℕ) → m < 8 → count ≤ root.buckets → key % root.buckets < count
          → map.get (union m count) key ≡ map.get (owns m (key % root.buckets)) key
      found_at m zero key low few under = absurd (omega (arith, under))
      found_at m (suc bucket) key low few under = ⊎_elim
          (λ level. more m bucket key ∙ ap (λ found. or_else (map.get (owns m bucket) key) found)
          (above m bucket key low (omega (arith, few)) (omega (arith, level)))
          ∙ else_none (map.get (owns m bucket) key) ∙ ap (λ (own : ℕ). map.get (owns m own) key) (sym level))
          (λ apart. more m bucket key ∙ ap (λ found. or_else found (map.get (union m bucket) key))
          (absent m bucket key low (omega (arith, few)) apart)
          ∙ none_else (map.get (union m bucket) key) ∙ found_at m bucket key low (omega (arith, few)) (omega (arith, under, apart)))
          (level_or_apart (key % root.buckets) bucket)

      part : (m bucket : ℕ) → m < 8 → bucket < root.buckets → IsPart root.buckets bucket (union m root.buckets) (owns m bucket)
      part m bucket low few = record {
        each = λ key. elim (key % root.buckets == bucket) as
            (λ b. (key % root.buckets == bucket) ≡ b → map.get (owns m bucket) key
            ≡ (if b then map.get (union m root.buckets) key else None)) [
              | true ↦ λ is. let level = eqb-true (key % root.buckets) bucket is in
                  sym (found_at m root.buckets key low (omega arith) (omega (arith, level, few))
                  ∙ ap (λ (own : ℕ). map.get (owns m own) key) level)
              | false ↦ λ is. absent m bucket key low few (λ level. grind (arith, nat_tests))
            ] refl;
      }

      -- what the store means
      unfoldable pub image : Image
      image = record { root = root; texts = strings; maps = λ m. union m root.buckets }

      pub spells : Spells image strings
      unfolding image union
      spells = record {
        texts = λ n low. refl;
        parts = λ m bucket low few. (owns m bucket, part m bucket low few, spelled m bucket low few);
        none = λ none m low. ap (union m) none;
      }

    module _ (some : 1 ≤ length pages) (fields : root_in (page_in pages 1) ≡ root) (count : IsCount root.buckets)
        (directories : (m : ℕ) → m < 8 → Holds page home (8 + m) (directory_first (page_in pages 1) m) (directory m))
        (long : (m : ℕ) → m < 8 → length (directory m) ≡ 8 * root.buckets)
        (free : (ns : List ℕ) × HasPages page home FREE (first FREE) ns)
        (owned : (p : ℕ) → 2 ≤ p → p < home → (n : ℕ) × IsOwner n × IsIn page home first n p) where
      chain_pages : (n : ℕ) → IsOwner n → (ns : List ℕ) × HasPages page home n (first n) ns
      chain_pages n owner = ⊎_elim
          (λ (is : n ≡ FREE). subst (λ (own : ℕ). (ns : List ℕ) × HasPages page home own (first own) ns) (sym is) free)
          (λ (chain : IsChain n). let own = holds n chain in (own.ns, own.has)) owner

      -- and these are its fields and its strings
      pub surveyed : IsState root strings pages
      surveyed = record {
        some = some;
        fields = fields;
        count = count;
        directory = directory;
        directories = directories;
        long = long;
        sound = record { chains = chain_pages; owned = owned };
        each = λ n which chain. holds n chain;
      }
