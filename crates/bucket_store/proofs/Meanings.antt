-- What a store means once a transaction is made to stand, and with one text or its fields changed.
use Rattle.std.proofs.Common.{◌≡◌, ◌⊎◌, inl, inr, ℕ, ◌<◌, ◌≤◌, Bool, false, cond, List, Option, Some, None, IsTrue, refl, sym, ap, subst}
use Rattle.std.proofs.Common.{◌∙◌, arith}
use Rattle.std.proofs.lemmas.Bool.{cases_Bool}
use Rattle.std.specs.Option.{IsSome, MatchOption}
use Rattle.std.specs.Ordering.{is_eq}
use Rattle.std.specs.Cmp.{nat_cmp_total}
use Rattle.std.specs.FinMap as map
use Rattle.outside.specs.Disk.{Crashes, Goes}
use Rattle.outside.specs.declared.disk.Disk.{Ghosts}
use Rattle.page_journal.specs.Journal.{is_broken}
use Rattle.page_journal.proofs.Moments.{goes_weaker}
use Rattle.chain_store.specs.declared.chains.Chains.{Chains}
use Rattle.chain_store.specs.declared.root.Root.{Root}
use Rattle.chain_store.specs.Chains.{IsOpen, journal_of, kept_of, root_of, written_of}
use Rattle.chain_store.specs.Directories.{IsChain}
use Rattle.chain_store.specs.Known.{Lists, own_or}
use Rattle.chain_store.specs.State.{HasState, IsState}
use Rattle.bucket_records.specs.Records.{AreRecords, BucketMap, IsBucket, records_bytes}
use Rattle.bucket_records.proofs.MapLaws.{equal_of, apart_of}
use Rattle.chain_store.proofs.Times.{same_or}
use Rattle.bucket_store.specs.Buckets.{HasKeysOf, Stored, bucket_count, bucket_in}
use Rattle.bucket_store.specs.Committing.{after, given}
use Rattle.bucket_store.specs.Image.{Has, HasImage, Image, IsPart, Spells, bucket_chain, with_root, with_text}
use Rattle.bucket_store.specs.Transaction.{Content, IsOpenStore, cached_of, chains_of}
use Rattle.bucket_store.specs.declared.buckets.Buckets.{Buckets}
use Rattle.bucket_store.specs.declared.cache.Cached.{Cached}
use Rattle.bucket_store.proofs.BucketLaws.{of_keys}
use Rattle.bucket_store.proofs.Holding.{bucket_above, bucket_is_chain, bucket_of_chain, loaded_string}
use Rattle.bucket_store.proofs.Images.{texts_beside, texts_here}

-- a bucket whose keys are its own, written out
written_bucket : (buckets bucket : ℕ) (values : BucketMap) → AreRecords 0 (map.entries values) → HasKeysOf buckets bucket values
    → IsBucket buckets bucket (records_bytes (map.entries values)) (map.entries values)
written_bucket buckets bucket values rise keys = record {
  rise = rise;
  own = of_keys 0 buckets bucket (map.entries values) rise (λ key there.
      keys key (let P : Option (List ℕ) → Type 0 = λ o. IsSome o in subst P (sym (map.get-entries values key)) there));
  bytes_are = refl;
}

no_some : (own : Cached) → None ≡ Some own → ⊥
no_some own same = absurd (cc)

module _ {D : Type 0} {g : Ghosts D} where
  -- what the chain of a bucket is given spells the bucket
  given_bucket : (o : Option Cached) (pages : List (List ℕ)) (chains : Chains D g) (strings : ℕ → List ℕ) (root : Root) (n : ℕ)
      (own : BucketMap)
      → IsOpen pages chains → IsState root strings pages → 16 ≤ n → IsChain n
      → ((it : Cached) → o ≡ Some it → it.changed ≡ false → Stored pages chains n it.bucket.values)
      → ((it : Cached) → o ≡ Some it → IsTrue it.changed → AreRecords 0 (map.entries it.bucket.values))
      → ((it : Cached) → o ≡ Some it → HasKeysOf (bucket_count chains) (bucket_in n) it.bucket.values)
      → MatchOption o (Stored pages chains n own) (λ it. it.bucket.values ≡ own)
      → IsBucket (bucket_count chains) (bucket_in n) (own_or (after o (map.get (written_of chains) n)) (strings n)) (map.entries own)
  given_bucket None pages chains strings root n own opens state above chain had rise keys content =
      subst (λ (l : List ℕ). IsBucket (bucket_count chains) (bucket_in n) l (map.entries own))
      (loaded_string pages (kept_of chains) root strings opens.keeps state n (map.get (written_of chains) n) content.bytes
      (inr above) chain content.loaded)
      content.spells
  given_bucket (Some it) pages chains strings root n own opens state above chain had rise keys content = elim (cases_Bool it.changed) [
    | inl yes-changed ↦
        let bucket = written_bucket (bucket_count chains) (bucket_in n) it.bucket.values (rise it refl (cc yes-changed)) (keys it refl) in
        subst (λ (b : Bool). IsBucket (bucket_count chains) (bucket_in n)
        (own_or (cond b (Some (records_bytes (map.entries it.bucket.values))) (map.get (written_of chains) n)) (strings n))
        (map.entries own))
        (sym yes-changed)
        (subst (λ (m : BucketMap). IsBucket (bucket_count chains) (bucket_in n) (records_bytes (map.entries it.bucket.values))
        (map.entries m)) content bucket)
    | inr unchanged ↦
        let stored = had it refl unchanged in
        subst (λ (b : Bool). IsBucket (bucket_count chains) (bucket_in n)
        (own_or (cond b (Some (records_bytes (map.entries it.bucket.values))) (map.get (written_of chains) n)) (strings n))
        (map.entries own))
        (sym unchanged)
        (subst (λ (m : BucketMap). IsBucket (bucket_count chains) (bucket_in n) (own_or (map.get (written_of chains) n) (strings n))
        (map.entries m)) content
        (subst (λ (l : List ℕ). IsBucket (bucket_count chains) (bucket_in n) l (map.entries it.bucket.values))
        (loaded_string pages (kept_of chains) root strings opens.keeps state n (map.get (written_of chains) n) stored.bytes
        (inr above) chain stored.loaded)
        stored.spells))
  ]

  -- a string below the buckets is in no bucket
  low_cached : (buckets : Buckets D g) (n : ℕ) → n < 8 → map.get (cached_of buckets) n ≡ None
  low_cached buckets n below = none_low (map.get (cached_of buckets) n)
      (λ own there. absurd (omega (arith, below, (buckets.own n own there).0.0)))
    where
      none_low : (o : Option Cached) → ((own : Cached) → o ≡ Some own → ⊥) → o ≡ None
      none_low None not = refl
      none_low (Some own) not = absurd (not own refl)

  -- what a commit gives the chains spells what the transaction has
  pub spells_given : (rest now : Image) (buckets : Buckets D g) → (has : Has rest now buckets)
      → ((n : ℕ) (own : Cached) → map.get (cached_of buckets) n ≡ Some own → IsTrue own.changed
      → AreRecords 0 (map.entries own.bucket.values))
      → Spells now (given has.strings (cached_of buckets) (written_of (chains_of buckets)))
  spells_given rest now buckets has rise =
      let chains = chains_of buckets in
      let count : bucket_count chains ≡ now.root.buckets = ap (λ (r : Root). r.buckets) has.root in
      record {
        texts = λ n below.
            ap (λ (o : Option Cached). own_or (after o (map.get (written_of chains) n)) (has.strings n)) (low_cached buckets n below)
            ∙ has.texts n below;
        parts = λ m bucket below low.
            let had = has.parts m bucket below low in
            let few : bucket < 65536 = omega (arith, low, chains.few, count) in
            let n = bucket_chain m bucket in
            let whole = given_bucket (map.get (cached_of buckets) n) has.pages chains has.strings rest.root n had.0 has.opens.open_chains
            has.state
            (bucket_above m bucket) (bucket_is_chain m bucket below few)
            (λ it there same. has.opens.had n it there same) (λ it there changed. rise n it there changed)
            (λ it there. (buckets.own n it there).1) had.2 in (
              had.0,
              had.1,
              subst (λ (k : ℕ). IsBucket k bucket (given has.strings (cached_of buckets) (written_of chains) n) (map.entries had.0)) count
                  (subst (λ (k : ℕ). IsBucket (bucket_count chains) k (given has.strings (cached_of buckets) (written_of chains) n)
                  (map.entries had.0))
                  (bucket_of_chain m bucket few) whole),
            );
        none = has.none;
      }

  -- another text
  pub has_text : (rest now : Image) (old new : Buckets D g) (n : ℕ) (bytes : List ℕ) → n < 8
      → root_of (chains_of new) ≡ root_of (chains_of old) → written_of (chains_of new) ≡ map.insert (written_of (chains_of old)) n bytes
      → is_broken (journal_of (chains_of new)) ≡ false
      → ((pages : List (List ℕ)) → IsOpenStore pages old → IsOpenStore pages new)
      → ((pages : List (List ℕ)) → IsOpenStore pages old → (other : ℕ) (values : BucketMap) → 16 ≤ other → Content pages old other values
      → Content pages new other values)
      → Has rest now old → Has rest (with_text n bytes now) new
  unfolding with_text
  has_text rest now old new n bytes below root written whole opens content has = record {
    pages = has.pages;
    opens = opens has.pages has.opens;
    strings = has.strings;
    state = has.state;
    spells = has.spells;
    whole = whole;
    root = root ∙ has.root;
    texts = λ k low.
        let found = ap (λ (l : Lists). own_or (map.get l k) (has.strings k)) written
        ∙ ap (λ (o : Option (List ℕ)). own_or o (has.strings k)) (map.get-insert nat_cmp_total (written_of (chains_of old)) n bytes k) in
        elim (same_or k n) [
          | inl same ↦
              found ∙ ap (λ r. own_or (cond (is_eq r) (Some bytes) (map.get (written_of (chains_of old)) k)) (has.strings k))
              (equal_of k n same)
              ∙ sym (texts_here n bytes now k same)
          | inr apart ↦
              found ∙ ap (λ (b : Bool). own_or (cond b (Some bytes) (map.get (written_of (chains_of old)) k)) (has.strings k))
              (apart_of k n apart)
              ∙ has.texts k low ∙ sym (texts_beside n bytes now k apart)
        ];
    parts = λ m bucket low inside.
        let had = has.parts m bucket low inside in
        (had.0, had.1, content has.pages has.opens (bucket_chain m bucket) had.0 (bucket_above m bucket) had.2);
    none = has.none;
  }

  -- other fields, with as many buckets
  pub has_root : (rest now : Image) (old new : Buckets D g) (root : Root) → root.buckets ≡ bucket_count (chains_of old)
      → root_of (chains_of new) ≡ root → journal_of (chains_of new) ≡ journal_of (chains_of old)
      → written_of (chains_of new) ≡ written_of (chains_of old)
      → ((pages : List (List ℕ)) → IsOpenStore pages old → IsOpenStore pages new)
      → ((pages : List (List ℕ)) (other : ℕ) (values : BucketMap) → Content pages old other values → Content pages new other values)
      → Has rest now old → Has rest (with_root root now) new
  unfolding with_root
  has_root rest now old new root count is journal written opens content has =
      let same : now.root.buckets ≡ root.buckets = sym (ap (λ (r : Root). r.buckets) has.root) ∙ sym count in
      record {
        pages = has.pages;
        opens = opens has.pages has.opens;
        strings = has.strings;
        state = has.state;
        spells = has.spells;
        whole = ap (λ j. is_broken j) journal ∙ has.whole;
        root = is;
        texts = λ n low. ap (λ (l : Lists). own_or (map.get l n) (has.strings n)) written ∙ has.texts n low;
        parts = λ m bucket low inside.
            let had = has.parts m bucket low (omega (arith, inside, same)) in (
              had.0,
              subst (λ (k : ℕ). IsPart k bucket (now.maps m) had.0) same had.1,
              content has.pages (bucket_chain m bucket) had.0 had.2,
            );
        none = λ zero m low. has.none (same ∙ zero) m low;
      }

-- a crash leaves one store or the other
pub goes_images : (rest now : Image) (one other : ℕ → List ℕ) (root : Root) (old new : Crashes) → Spells rest one → Spells now other
    → root ≡ now.root
    → Goes (λ left. HasState rest.root one left ⊎ HasState root other left) old new
    → Goes (λ left. HasImage rest left ⊎ HasImage now left) old new
goes_images rest now one other root old new before after same goes =
    goes_weaker (λ left. HasState rest.root one left ⊎ HasState root other left)
    (λ left. HasImage rest left ⊎ HasImage now left) old new goes
    (λ left state. elim state [
      | inl was ↦ inl (record { strings = one; state = was; spells = before })
      | inr later ↦ inr (record { strings = other; state = subst (λ (r : Root). HasState r other left) same later; spells = after })
    ])
