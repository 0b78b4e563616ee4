-- A store without buckets is given some.
use Rattle.std.proofs.Common.{◌≡◌, ◌≢◌, inl, inr, ℕ, ◌-◌, ◌*◌, ◌/◌, ◌%◌, ◌<◌, ◌≤◌, ◌==◌, Bool, cond, List, [], ◌∷◌, length, Option, Some}
use Rattle.std.proofs.Common.{None, IsTrue, refl, sym, ap, subst, ◌∙◌, arith}
use Rattle.std.proofs.lemmas.Bool.{cases_Bool}
use Rattle.std.proofs.lemmas.Nat.{ones_le_self}
use Rattle.std.specs.Prelude.{count_ones}
use Rattle.std.specs.Int.{is_power_of_two}
use Rattle.std.specs.Option.{MatchOption}
use Rattle.std.specs.Ordering.{is_eq, nat_cmp}
use Rattle.std.specs.declared.cmp.Ordering.{Ordering}
use Rattle.std.specs.FinMap as map
use Rattle.std.specs.FinMap.{find}
use Rattle.outside.specs.declared.disk.Disk.{Ghosts}
use Rattle.page_journal.specs.Journal.{is_broken}
use Rattle.chain_store.specs.declared.chains.Chains.{Chains}
use Rattle.chain_store.specs.declared.kept.Kept.{Kept}
use Rattle.chain_store.specs.declared.root.Root.{Root}
use Rattle.chain_store.specs.Chains.{IsEmptyString, LoadedIs, first_of, journal_of, kept_of, root_of, written_of}
use Rattle.chain_store.specs.Directories.{IsChain}
use Rattle.chain_store.specs.Kept.{buckets_in, bytes_at}
use Rattle.chain_store.specs.Known.{Lists, own_or}
use Rattle.chain_store.specs.Store.{kept_first}
use Rattle.chain_store.proofs.FirstLaws.{first_in-bucket}
use Rattle.chain_store.proofs.NumberLaws.{number-beyond}
use Rattle.chain_store.proofs.Times.{same_or}
use Rattle.bucket_records.specs.Records.{AreOf, AreRecords, BucketMap, IsBucket, records_bytes}
use Rattle.bucket_records.proofs.MapLaws.{equal_of}
use Rattle.bucket_store.specs.Buckets.{Stored, bucket_count, bucket_in}
use Rattle.bucket_store.specs.Cache.{CacheMap}
use Rattle.bucket_store.specs.Image.{Has, Image, IsPart, bucket_chain, with_buckets, with_root}
use Rattle.bucket_store.specs.Transaction.{IsOpenStore, cached_of, chains_of}
use Rattle.bucket_store.specs.declared.buckets.Buckets.{Buckets}
use Rattle.bucket_store.specs.declared.cache.Cached.{Cached}
use Rattle.bucket_store.proofs.Holding.{bucket_above, bucket_is_chain}
use Rattle.bucket_store.proofs.Openings.{none_content}

no_power : IsTrue (is_power_of_two 0) → ⊥
no_power is = let zero : count_ones 0 ≡ 0 = omega (arith, ones_le_self 0) in absurd (cc (is, ap (λ (n : ℕ). n == 1) zero))

none_or : (bytes : List ℕ) → (bytes ≢ [] → ⊥) → bytes ≡ []
none_or [] not = refl
none_or (b ∷ bytes) not = absurd (not (λ same. absurd (cc same)))

empty_written : (o : Option (List ℕ)) (first : ℕ) → first ≡ 0 → ((bytes : List ℕ) → o ≡ Some bytes → bytes ≡ [])
    → MatchOption o (first ≡ 0) (λ own. own ≡ [])
empty_written None first none own = none
empty_written (Some bytes) first none own = own bytes refl

pub loaded_none : (o : Option (List ℕ)) (pages : List (List ℕ)) (n first : ℕ) → MatchOption o (first ≡ 0) (λ own. own ≡ [])
    → LoadedIs pages n first o []
loaded_none None pages n first is = record { ns = []; has = record { path = is; few = omega arith }; held = refl }
loaded_none (Some own) pages n first is = sym is

-- a map without keys has no entries
none_found : (records : List (ℕ × List ℕ)) → ((key : ℕ) → find nat_cmp key records ≡ None) → records ≡ []
none_found [] none = refl
none_found (one ∷ records) none =
    let here = ap (λ (r : Ordering). cond (is_eq r) (Some one.1) (find nat_cmp one.0 records)) (equal_of one.0 one.0 refl) in
    absurd (cc (here, none one.0))

pub no_entries : (values : BucketMap) → values ≡ map.empty → map.entries values ≡ []
no_entries values none = none_found (map.entries values) (λ key.
    sym (map.get-entries values key) ∙ ap (λ (m : BucketMap). map.get m key) none ∙ map.get-empty nat_cmp key)

empty_records : (buckets bucket : ℕ) → IsBucket buckets bucket [] []
unfolding AreRecords AreOf records_bytes
empty_records buckets bucket = record { rise = tt; own = tt; bytes_are = refl }

pub empty_bucket : (buckets bucket : ℕ) (values : BucketMap) → values ≡ map.empty → IsBucket buckets bucket [] (map.entries values)
empty_bucket buckets bucket values none =
    subst (λ (l : List (ℕ × List ℕ)). IsBucket buckets bucket [] l) (sym (no_entries values none)) (empty_records buckets bucket)

empty_part : (buckets bucket : ℕ) (whole : BucketMap) → whole ≡ map.empty → IsPart buckets bucket whole map.empty
empty_part buckets bucket whole none = record {
  each = λ key.
      let gone : map.get whole key ≡ None = ap (λ (m : BucketMap). map.get m key) none ∙ map.get-empty _ key in
      map.get-empty _ key ∙ elim (cases_Bool (key % buckets == bucket)) [
        | inl yes-here ↦ sym (ap (λ (b : Bool). cond b (map.get whole key) None) yes-here ∙ gone)
        | inr other ↦ sym (ap (λ (b : Bool). cond b (map.get whole key) None) other)
      ];
}

none_cached : (o : Option Cached) → ((own : Cached) → o ≡ Some own → ⊥) → o ≡ None
none_cached None not = refl
none_cached (Some own) not = absurd (not own refl)

module _ {D : Type 0} {g : Ghosts D} where
  -- no bucket's chain is in the store, and none was written but with no bytes
  pub all_empty : (chains : Chains D g) → bucket_count chains ≡ 0 → (n : ℕ) → 16 ≤ n → IsChain n → IsEmptyString chains n
  all_empty chains none n above chain =
      let kept = kept_of chains in
      let none_kept : buckets_in kept.front.items ≡ 0 = elim (same_or (bucket_count chains) (buckets_in kept.front.items)) [
        | inl same ↦ sym same ∙ none
        | inr other ↦ absurd (no_power (subst (λ (k : ℕ). IsTrue (is_power_of_two k)) none (chains.count other)))
      ] in
      let m = (n - 16) / 65536 in
      let below : m < 8 = omega (arith, above, chain) in
      let short : length (bytes_at kept.directories.items m) ≡ 0 = kept.long m below ∙ ap (λ (k : ℕ). 8 * k) none_kept in
      let first : first_of chains n ≡ 0 =
      first_in-bucket kept.front.items (bytes_at kept.directories.items) n above chain
      ∙ number-beyond (bytes_at kept.directories.items m) (8 * ((n - 16) % 65536)) (omega (arith, short)) in
      empty_written (map.get (written_of chains) n) (first_of chains n) first (λ bytes there.
      let stored = chains.stored n bytes there in
      none_or bytes (λ some. absurd (omega (arith, stored.3 above some, none))))

  -- and each of the buckets is empty then
  pub has_buckets : (rest now : Image) (old new : Buckets D g) (buckets : ℕ) → bucket_count (chains_of old) ≡ 0 → buckets ≤ 65536
      → journal_of (chains_of new) ≡ journal_of (chains_of old) → kept_of (chains_of new) ≡ kept_of (chains_of old)
      → written_of (chains_of new) ≡ written_of (chains_of old) → cached_of new ≡ cached_of old
      → root_of (chains_of new) ≡ with_buckets buckets (root_of (chains_of old))
      → ((pages : List (List ℕ)) → IsOpenStore pages old → IsOpenStore pages new)
      → Has rest now old → Has rest (with_root (with_buckets buckets now.root) now) new
  unfolding with_root
  has_buckets rest now old new buckets none few journal kept written cached root opens has =
      let zero : now.root.buckets ≡ 0 = sym (ap (λ (r : Root). r.buckets) has.root) ∙ none in
      record {
        pages = has.pages;
        opens = opens has.pages has.opens;
        strings = has.strings;
        state = has.state;
        spells = has.spells;
        whole = ap (λ j. is_broken j) journal ∙ has.whole;
        root = root ∙ ap (λ (r : Root). with_buckets buckets r) has.root;
        texts = λ n below. ap (λ (l : Lists). own_or (map.get l n) (has.strings n)) written ∙ has.texts n below;
        parts = λ m bucket below low.
            let n = bucket_chain m bucket in
            let bucket_few : bucket < 65536 = omega (arith, low, few) in
            let gone = all_empty (chains_of old) none n (bucket_above m bucket) (bucket_is_chain m bucket below bucket_few) in
            let stored : Stored has.pages (chains_of new) n map.empty = record {
              bytes = [];
              loaded = subst (λ (k : Kept). LoadedIs has.pages n (kept_first k n) (map.get (written_of (chains_of new)) n) []) (sym kept)
                  (subst (λ (l : Lists). LoadedIs has.pages n (first_of (chains_of old) n) (map.get l n) []) (sym written)
                  (loaded_none (map.get (written_of (chains_of old)) n) has.pages n (first_of (chains_of old) n) gone));
              spells = empty_bucket (bucket_count (chains_of new)) (bucket_in n) map.empty refl;
            } in
            let absent : map.get (cached_of new) n ≡ None = ap (λ (c : CacheMap). map.get c n) cached
            ∙ none_cached (map.get (cached_of old) n) (λ own there. absurd (omega (arith, (old.own n own there).0.2, none))) in (
              map.empty,
              empty_part buckets bucket (now.maps m) (has.none zero m below),
              none_content (map.get (cached_of new) n) has.pages (chains_of new) n map.empty absent stored,
            );
        none = λ is m below. has.none zero m below;
      }
