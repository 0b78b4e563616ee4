-- What a call that gets a value does, once its bucket was brought.
use Rattle.std.proofs.Common.{◌≡◌, ◌||◌, ℕ, Bool, false, List, Option, None, Some, Result, Ok, Err, refl, sym, ap, subst, ◌∙◌, inr}
use Rattle.std.proofs.Common.{option_map}
use Rattle.std.specs.Option.{MatchOption}
use Rattle.std.specs.Ordering.{nat_cmp}
use Rattle.std.specs.FinMap as map
use Rattle.outside.specs.declared.disk.Disk.{Ghosts}
use Rattle.page_journal.specs.Answers.{answers_disk_fault}
use Rattle.page_journal.specs.Journal.{is_broken}
use Rattle.page_journal.specs.declared.fault.StoreFault.{StoreFault}
use Rattle.page_journal.specs.declared.fault.StoreFault.TheVariants as refusals
use Rattle.page_journal.specs.declared.fault.StoreFault.TheVariants.{NotFormatted, NotEmpty, BadStore, DiskFault, StoreFull, Broken}
use Rattle.chain_store.specs.Answers.{Looked}
use Rattle.chain_store.specs.Chains.{OnlyRead, first_of, journal_of, root_of, written_of, kept_of}
use Rattle.chain_store.specs.declared.chains.Chains.{Chains}
use Rattle.chain_store.specs.declared.kept.Kept.{Kept}
use Rattle.chain_store.specs.declared.root.Root.{Root}
use Rattle.chain_store.specs.Store.{kept_first}
use Rattle.chain_store.proofs.Looks.{looked_same}
use Rattle.bucket_records.specs.Records.{BucketMap}
use Rattle.bucket_store.specs.Buckets.{Stored, chain_at}
use Rattle.bucket_store.specs.Cache.{CacheMap}
use Rattle.bucket_store.specs.Calls.{BringsThere}
use Rattle.bucket_store.specs.Image.{Has, Image, IsSoundAnswer, with_value}
use Rattle.bucket_store.specs.Transaction.{Content, IsOpenStore, IsOpenWith, bucket_at, cached_of, chains_of}
use Rattle.bucket_store.specs.Typed.{Gets, GetsValue, ReadsAs, refusal_of}
use Rattle.bucket_store.specs.declared.buckets.Buckets.{Buckets}
use Rattle.bucket_store.proofs.Holding.{has_later}
use Rattle.bucket_store.proofs.Images.{maps_here, maps_beside}
use Rattle.value_bytes.specs.Maps.{Decodes, HoldsMap, ReadAs}
use Rattle.value_bytes.specs.declared.fault.ValueFault.{ValueFault}
use Rattle.value_bytes.specs.declared.fault.ValueFault.TheVariants.{NotSpelled, OutOfMemory}
use Rattle.value_bytes.proofs.MapLaws.{held_insert, held_remove, never_refused, read_one}

-- what was looked up
seen : {A : Type 0} (look : A → List ℕ) (found : Option A) (own : Option (List ℕ))
    → MatchOption found (own ≡ None) (λ value. own ≡ Some (look value))
    → own ≡ option_map look found
seen look None own is = is
seen look (Some value) own is = is

-- an answer of one call is one of another
sound_of : (T U : Type 0) (fault : StoreFault) → IsSoundAnswer {T = T} (Err fault) → IsSoundAnswer {T = U} (Err fault)
sound_of T U NotFormatted is = is
sound_of T U NotEmpty is = is
sound_of T U (BadStore page) is = is
sound_of T U DiskFault is = is
sound_of T U (StoreFull pages) is = is
sound_of T U Broken is = is
sound_of T U refusals.OutOfMemory is = is

module _ {D : Type 0} {g : Ghosts D} where
  -- the same chains and the same buckets are the same store
  pub opens_same : (old new : Buckets D g) → chains_of new ≡ chains_of old → cached_of new ≡ cached_of old
      → (pages : List (List ℕ)) → IsOpenStore pages old → IsOpenStore pages new
  opens_same old new chains cached pages opens =
      subst (λ (c : Chains D g). IsOpenWith pages c (cached_of new)) (sym chains)
      (subst (λ (m : CacheMap). IsOpenWith pages (chains_of old) m) (sym cached) opens)

  pub content_kept : (old new : Buckets D g) → chains_of new ≡ chains_of old → cached_of new ≡ cached_of old
      → (pages : List (List ℕ)) (other : ℕ) (values : BucketMap) → Content pages old other values → Content pages new other values
  content_kept old new chains cached pages other values has =
      subst (λ (c : Chains D g). MatchOption (map.get (cached_of new) other) (Stored pages c other values)
      (λ own. own.bucket.values ≡ values)) (sym chains)
      (subst (λ (m : CacheMap). MatchOption (map.get m other) (Stored pages (chains_of old) other values)
      (λ own. own.bucket.values ≡ values)) (sym cached) has)

  pub read_same : (old new : Buckets D g) → chains_of new ≡ chains_of old → OnlyRead (chains_of old) (chains_of new)
  read_same old new chains = record {
    looked = subst (λ (c : Chains D g). Looked (journal_of (chains_of old)) (journal_of c)) (sym chains)
        (looked_same (journal_of (chains_of old)));
    kept = ap (λ (c : Chains D g). kept_of c) chains;
    root = ap (λ (c : Chains D g). root_of c) chains;
    written = ap (λ (c : Chains D g). written_of c) chains;
  }

  pub has_same : (old new : Buckets D g) → chains_of new ≡ chains_of old → cached_of new ≡ cached_of old
      → (rest now : Image) → Has rest now old → Has rest now new
  has_same old new chains cached rest now has =
      has_later rest now old new (read_same old new chains) (ap (λ (c : Chains D g). is_broken (journal_of c)) chains ∙ has.whole)
      (opens_same old new chains cached) (λ pages opens. content_kept old new chains cached pages) has

  -- a store that was read, and no fault of the disk met
  pub has_read : {T : Type 0} (old new : Buckets D g) (result : Result T StoreFault) → OnlyRead (chains_of old) (chains_of new)
      → is_broken (journal_of (chains_of new)) ≡ (is_broken (journal_of (chains_of old)) || answers_disk_fault result)
      → ((pages : List (List ℕ)) → IsOpenStore pages old → IsOpenStore pages new)
      → ((pages : List (List ℕ)) → IsOpenStore pages old → (other : ℕ) (values : BucketMap) → Content pages old other values
      → Content pages new other values)
      → answers_disk_fault result ≡ false → (rest now : Image) → Has rest now old → Has rest now new
  has_read old new result stays broken opens content none rest now has =
      has_later rest now old new stays (broken ∙ ap (λ (b : Bool). b || answers_disk_fault result) has.whole ∙ none) opens content has

  -- the bucket of a key stays where it is
  pub at_same : (old new : Buckets D g) (which key : ℕ) → OnlyRead (chains_of old) (chains_of new)
      → bucket_at new which key ≡ bucket_at old which key
  at_same old new which key stays = ap (λ (r : Root). chain_at r.buckets which key) stays.root

  pub first_same : (old new : Buckets D g) (which key : ℕ) → OnlyRead (chains_of old) (chains_of new)
      → first_of (chains_of new) (bucket_at new which key) ≡ first_of (chains_of old) (bucket_at old which key)
  first_same old new which key stays =
      ap (λ (n : ℕ). first_of (chains_of new) n) (at_same old new which key stays)
      ∙ ap (λ (k : Kept). kept_first k (bucket_at old which key)) stays.kept

  -- a bucket was not brought
  pub value_unbrought : {V : Type 0} (spell : V → List ℕ) (Is : V → Type 0) (which key : ℕ) (old new : Buckets D g) (fault : StoreFault)
      → BringsThere which key old new (Err fault) → GetsValue spell Is which key old new (Err fault)
  value_unbrought {V} spell Is which key old new fault brings = record {
    bytes = tt;
    value = tt;
    sound = λ rest now values has held. sound_of (Unit {0}) (Option V) fault (brings.sound rest now has);
    keeps = record { content = brings.keeps.content; has = brings.keeps.has };
  }

  -- values are read out of a bucket that was brought
  module _ {V A : Type 0} (spell : V → List ℕ) (Is : V → Type 0) (look : A → List ℕ) (which key : ℕ) (old mid : Buckets D g)
      (bytes : Option A)
      {done : Unit {0}} (brings : BringsThere which key old mid (Ok done)) where
    there : OnlyRead (chains_of old) (chains_of mid) → (pages : List (List ℕ)) → IsOpenStore pages old → (values : BucketMap)
        → Content pages old (bucket_at old which key) values → Content pages mid (bucket_at mid which key) values
    there stays pages opens values has =
        subst (λ (n : ℕ). Content pages mid n values) (sym (at_same old mid which key stays))
        (brings.keeps.content pages opens (bucket_at old which key) values has)

    unread : OnlyRead (chains_of old) (chains_of mid)
        → ((pages : List (List ℕ)) (values : BucketMap) → Content pages mid (bucket_at mid which key) values
        → MatchOption bytes (map.get values key ≡ None) (λ value. map.get values key ≡ Some (look value)))
        → (fault : ValueFault) → ReadsAs {V = V} spell Is (option_map look bytes) (Err fault) → (pages : List (List ℕ))
        → IsOpenStore pages old
        → Gets spell Is pages old which key (Err (refusal_of fault (first_of (chains_of mid) (bucket_at mid which key))))
    unread stays value NotSpelled read pages opens =
        let here = brings.had pages opens in
        inr (record {
          values = here.0;
          content = here.1;
          bytes = read.0;
          there = seen look bytes (map.get here.0 key) (value pages here.0 (there stays pages opens here.0 here.1)) ∙ read.1;
          none = read.2;
          begins = first_same old mid which key stays;
        })
    unread stays value OutOfMemory read pages opens = tt

    pub gets_refused : OnlyRead (chains_of old) (chains_of mid)
        → ((pages : List (List ℕ)) (values : BucketMap) → Content pages mid (bucket_at mid which key) values
        → MatchOption bytes (map.get values key ≡ None) (λ value. map.get values key ≡ Some (look value)))
        → (fault : ValueFault) → ReadsAs {V = V} spell Is (option_map look bytes) (Err fault)
        → (refusal : StoreFault) → refusal ≡ refusal_of fault (first_of (chains_of mid) (bucket_at mid which key))
        → (pages : List (List ℕ)) → IsOpenStore pages old → Gets spell Is pages old which key (Err refusal)
    gets_refused stays value fault read refusal is pages opens =
        subst (λ (r : StoreFault). Gets spell Is pages old which key (Err r)) (sym is) (unread stays value fault read pages opens)

    pub value_found : ((rest now : Image) → Has rest now mid
        → MatchOption bytes (map.get (now.maps which) key ≡ None) (λ value. map.get (now.maps which) key ≡ Some (look value)))
        → (found : Option V) → ReadAs spell Is (option_map look bytes) found → GetsValue spell Is which key old mid (Ok found)
    value_found value found read =
        let same : (rest now : Image) → Has rest now old → ReadAs spell Is (map.get (now.maps which) key) found =
        λ rest now had. subst (λ (o : Option (List ℕ)). ReadAs spell Is o found)
        (sym (seen look bytes (map.get (now.maps which) key) (value rest now (brings.keeps.has refl rest now had)))) read in
        record {
          bytes = same;
          value = λ rest now values had held. read_one spell Is (map.get (now.maps which) key) found (map.get values key)
              (same rest now had) (held key);
          sound = λ rest now values had held. tt;
          keeps = record { content = brings.keeps.content; has = λ none. brings.keeps.has refl };
        }

    sound_refusal : (own : Option (List ℕ)) (value : Option V) (fault : ValueFault) (page : ℕ) → ReadsAs {V = V} spell Is own (Err fault)
        → Decodes spell Is own value → IsSoundAnswer {T = Option V} (Err (refusal_of fault page))
    sound_refusal own value NotSpelled page read is =
        absurd (never_refused spell Is read.0 value read.2 (subst (λ (o : Option (List ℕ)). Decodes spell Is o value) read.1 is))
    sound_refusal own value OutOfMemory page read is = tt

    pub value_refused : (new : Buckets D g) → chains_of new ≡ chains_of mid → cached_of new ≡ cached_of mid
        → ((rest now : Image) → Has rest now mid
        → MatchOption bytes (map.get (now.maps which) key ≡ None) (λ value. map.get (now.maps which) key ≡ Some (look value)))
        → (fault : ValueFault) → ReadsAs {V = V} spell Is (option_map look bytes) (Err fault)
        → (refusal : StoreFault) (page : ℕ) → refusal ≡ refusal_of fault page → GetsValue spell Is which key old new (Err refusal)
    value_refused new chains cached value fault read refusal page is = record {
      bytes = tt;
      value = tt;
      sound = λ rest now values had held.
          subst (λ (r : StoreFault). IsSoundAnswer {T = Option V} (Err r)) (sym is)
          (sound_refusal (map.get (now.maps which) key) (map.get values key) fault page
          (subst (λ (o : Option (List ℕ)). ReadsAs {V = V} spell Is o (Err fault))
          (sym (seen look bytes (map.get (now.maps which) key) (value rest now (brings.keeps.has refl rest now had)))) read)
          (held key));
      keeps = record {
        content = λ pages opens other values had.
            content_kept mid new chains cached pages other values (brings.keeps.content pages opens other values had);
        has = λ none rest now had. has_same mid new chains cached rest now (brings.keeps.has refl rest now had);
      };
    }

-- a store with one value more or fewer holds so many values more or fewer
module _ {V : Type 0} (spell : V → List ℕ) (Is : V → Type 0) (now : Image) (which key : ℕ) (values : map.FinMap nat_cmp V) where
  pub held_with : (value : V) → HoldsMap spell Is (now.maps which) values → Is value
      → HoldsMap spell Is ((with_value which key (Some (spell value)) now).maps which) (map.insert values key value)
  held_with value held is =
      subst (λ (m : BucketMap). HoldsMap spell Is m (map.insert values key value))
      (sym (maps_here which key (Some (spell value)) now which refl))
      (held_insert spell Is (now.maps which) values key value held is)

  pub held_without : HoldsMap spell Is (now.maps which) values
      → HoldsMap spell Is ((with_value which key None now).maps which) (map.remove values key)
  held_without held =
      subst (λ (m : BucketMap). HoldsMap spell Is m (map.remove values key)) (sym (maps_here which key None now which refl))
      (held_remove spell Is (now.maps which) values key held)

  pub held_beside : (change : Option (List ℕ)) (other : ℕ) → (other ≡ which → ⊥) → HoldsMap spell Is (now.maps other) values
      → HoldsMap spell Is ((with_value which key change now).maps other) values
  held_beside change other apart held =
      subst (λ (m : BucketMap). HoldsMap spell Is m values) (sym (maps_beside which key change now other apart)) held
