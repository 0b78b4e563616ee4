-- What a transaction has of a store, call by call.
use Rattle.std.proofs.Common.{◌≡◌, ◌≢◌, ◌⊎◌, inl, inr, ℕ, ◌+◌, ◌%◌, ◌<◌, ◌≤◌, false, List, length, Option, Some, None, refl, sym, ap, subst}
use Rattle.std.proofs.Common.{◌∙◌, arith, mod-lt}
use Rattle.std.specs.Option.{MatchOption}
use Rattle.std.specs.FinMap as map
use Rattle.outside.specs.declared.disk.Disk.{Ghosts}
use Rattle.page_journal.specs.Journal.{is_broken}
use Rattle.chain_store.specs.declared.kept.Kept.{Kept}
use Rattle.chain_store.specs.declared.root.Root.{Root}
use Rattle.chain_store.specs.Chain.{HasPages}
use Rattle.chain_store.specs.Chains.{LoadedIs, OnlyRead, first_of, journal_of, kept_of, root_of, written_of}
use Rattle.chain_store.specs.Directories.{IsChain, directory_first, first_in}
use Rattle.chain_store.specs.State.{IsOwner}
use Rattle.chain_store.specs.Store.{IsRefused}
use Rattle.chain_store.proofs.Unique.{not_refused}
use Rattle.chain_store.specs.Kept.{bytes_at, pages_at}
use Rattle.chain_store.specs.Known.{Lists, own_or}
use Rattle.chain_store.specs.Links.{page_in}
use Rattle.chain_store.specs.State.{IsState}
use Rattle.chain_store.specs.Store.{HasBytes, Keeps, kept_first}
use Rattle.chain_store.proofs.NewStore.{first_same}
use Rattle.chain_store.proofs.Looks.{looked_same, looked_then, rests_looked}
use Rattle.chain_store.proofs.Times.{same_or}
use Rattle.chain_store.proofs.Unique.{bytes_one}
use Rattle.bucket_records.specs.Records.{BucketMap, IsBucket}
use Rattle.bucket_store.specs.Buckets.{Stored, bucket_count, bucket_in, chain_at}
use Rattle.bucket_store.specs.Cache.{CacheMap}
use Rattle.bucket_store.specs.Image.{Has, Image, IsPart, OnlyLooks, RestsAt, Spells, bucket_chain, with_entry, with_value}
use Rattle.bucket_store.specs.Transaction.{Content, IsOpenStore, IsThere, bucket_at, cached_of, chains_of}
use Rattle.bucket_store.specs.declared.buckets.Buckets.{Buckets}
use Rattle.bucket_store.proofs.Openings.{bucket_some, none_content, there_own}
use Rattle.bucket_store.proofs.Images.{maps_beside, maps_here, part_changed, part_gives, part_stays, same_bucket, same_chain}

-- what is kept of a store tells its chains
module _ (pages : List (List ℕ)) (kept : Kept) (root : Root) (strings : ℕ → List ℕ) (keeps : Keeps pages kept)
    (state : IsState root strings pages) where
  directory_same : (m : ℕ) → m < 8 → state.directory m ≡ bytes_at kept.directories.items m
  directory_same m below =
      bytes_one (page_in pages) (length pages + 1) (8 + m) (directory_first (page_in pages 1) m) (state.directory m)
      (bytes_at kept.directories.items m)
      (state.directories m below)
      (record {
        ns = pages_at kept.directories.items m;
        has = subst (λ (l : List ℕ). HasPages (page_in pages) (length pages + 1) (8 + m) (directory_first l m)
            (pages_at kept.directories.items m)) keeps.front (keeps.has m below);
        held = keeps.held m below;
      })

  first_is : (n : ℕ) → IsOwner n → kept_first kept n ≡ first_in (page_in pages 1) state.directory n
  first_is n owner =
      ap (λ (l : List ℕ). first_in l (bytes_at kept.directories.items) n) keeps.front
      ∙ first_same (page_in pages 1) (bytes_at kept.directories.items) state.directory (λ m below. sym (directory_same m below)) n owner

  pub kept_holds : (n : ℕ) → (n < 8) ⊎ (16 ≤ n) → IsChain n → HasBytes pages n (kept_first kept n) (strings n)
  kept_holds n seen chain = subst (λ (k : ℕ). HasBytes pages n k (strings n)) (sym (first_is n (inr chain))) (state.each n seen chain)

  -- no chain of it is refused
  pub none_refused : (n at : ℕ) → IsOwner n → IsRefused pages n (kept_first kept n) at → ⊥
  none_refused n at owner refused =
      let has = state.sound.chains n owner in
      not_refused (page_in pages) (length pages + 1) n (kept_first kept n) has.0 at
      (subst (λ (k : ℕ). HasPages (page_in pages) (length pages + 1) n k has.0) (sym (first_is n owner)) has.1) refused

  -- what a chain has is what was written, or else its string
  pub loaded_string : (n : ℕ) (own : Option (List ℕ)) (bytes : List ℕ) → (n < 8) ⊎ (16 ≤ n) → IsChain n
      → LoadedIs pages n (kept_first kept n) own bytes → bytes ≡ own_or own (strings n)
  loaded_string n None bytes seen chain is =
      bytes_one (page_in pages) (length pages + 1) n (kept_first kept n) bytes (strings n) is (kept_holds n seen chain)
  loaded_string n (Some own) bytes seen chain is = is

pub bucket_is_chain : (m bucket : ℕ) → m < 8 → bucket < 65536 → IsChain (bucket_chain m bucket)
bucket_is_chain m bucket below low = omega (arith, below, low)

pub bucket_above : (m bucket : ℕ) → 16 ≤ bucket_chain m bucket
bucket_above m bucket = omega arith

pub bucket_of_chain : (m bucket : ℕ) → bucket < 65536 → bucket_in (bucket_chain m bucket) ≡ bucket
bucket_of_chain m bucket low = omega (arith, low)

-- what is found in the bucket of a key is what the map has
pub found_value : {V : Type 0} (o : Option V) (bytes : V → List ℕ) (own whole : Option (List ℕ)) → own ≡ whole
    → MatchOption o (own ≡ None) (λ value. own ≡ Some (bytes value)) → MatchOption o (whole ≡ None) (λ value. whole ≡ Some (bytes value))
found_value None bytes own whole same is = sym same ∙ is
found_value (Some value) bytes own whole same is = sym same ∙ is

module _ {D : Type 0} {g : Ghosts D} where
  -- looks after looks
  pub looks_same : (buckets : Buckets D g) → OnlyLooks buckets buckets
  looks_same buckets = record { looked = looked_same (journal_of (chains_of buckets)); kept = refl; later = omega arith }

  pub looks_then : (old mid new : Buckets D g) → OnlyLooks old mid → OnlyLooks mid new → OnlyLooks old new
  looks_then old mid new first second = record {
    looked = looked_then (journal_of (chains_of old)) (journal_of (chains_of mid)) (journal_of (chains_of new)) first.looked second.looked;
    kept = second.kept ∙ first.kept;
    later = omega (arith, first.later, second.later);
  }

  -- a store that is only looked at stays at rest
  pub rests_later : (image : Image) (old new : Buckets D g) → OnlyLooks old new → RestsAt image old → RestsAt image new
  rests_later image old new looks rests = record {
    pages = rests.pages;
    rests = rests_looked rests.pages (journal_of (chains_of old)) (journal_of (chains_of new)) rests.rests looks.looked;
    keeps = subst (λ (k : Kept). Keeps rests.pages k) (sym looks.kept) rests.keeps;
    strings = rests.strings;
    state = rests.state;
    spells = rests.spells;
  }

  pub rests_under : (rest now : Image) (buckets : Buckets D g) → Has rest now buckets → RestsAt rest buckets
  rests_under rest now buckets has = record {
    pages = has.pages;
    rests = has.opens.open_chains.rests;
    keeps = has.opens.open_chains.keeps;
    strings = has.strings;
    state = has.state;
    spells = has.spells;
  }

  -- a transaction that has nothing yet has what is at rest
  pub has_anew : (image : Image) (buckets : Buckets D g) (pages : List (List ℕ)) (strings : ℕ → List ℕ) → IsOpenStore pages buckets
      → IsState image.root strings pages → Spells image strings → is_broken (journal_of (chains_of buckets)) ≡ false
      → root_of (chains_of buckets) ≡ image.root → written_of (chains_of buckets) ≡ map.empty → cached_of buckets ≡ map.empty
      → Has image image buckets
  has_anew image buckets pages strings opens state spells whole root written cached =
      let chains = chains_of buckets in
      let none : (n : ℕ) → map.get (written_of chains) n ≡ None = λ n. ap (λ (l : Lists). map.get l n) written ∙ map.get-empty _ n in
      record {
        pages = pages;
        opens = opens;
        strings = strings;
        state = state;
        spells = spells;
        whole = whole;
        root = root;
        texts = λ n below. ap (λ (o : Option (List ℕ)). own_or o (strings n)) (none n) ∙ spells.texts n below;
        parts = λ m bucket below low.
            let had = spells.parts m bucket below low in
            let few : bucket < 65536 = omega (arith, low, chains.few, ap (λ (r : Root). r.buckets) root) in
            let n = bucket_chain m bucket in
            let stored : Stored pages chains n had.0 = record {
              bytes = strings n;
              loaded = subst (λ (o : Option (List ℕ)). LoadedIs pages n (first_of chains n) o (strings n)) (sym (none n))
                  (kept_holds pages (kept_of chains) image.root strings opens.open_chains.keeps state n (inr (bucket_above m bucket))
                  (bucket_is_chain m bucket below few));
              spells = subst (λ (k : ℕ). IsBucket k (bucket_in n) (strings n) (map.entries had.0)) (sym (ap (λ (r : Root). r.buckets) root))
                  (subst (λ (k : ℕ). IsBucket image.root.buckets k (strings n) (map.entries had.0))
                  (sym (bucket_of_chain m bucket few)) had.2);
            } in (
              had.0,
              had.1,
              none_content (map.get (cached_of buckets) n) pages chains n had.0
                  (ap (λ (c : CacheMap). map.get c n) cached ∙ map.get-empty _ n) stored,
            );
        none = spells.none;
      }

  -- buckets that were read change nothing
  pub has_later : (rest now : Image) (old new : Buckets D g) → OnlyRead (chains_of old) (chains_of new)
      → is_broken (journal_of (chains_of new)) ≡ false
      → ((pages : List (List ℕ)) → IsOpenStore pages old → IsOpenStore pages new)
      → ((pages : List (List ℕ)) → IsOpenStore pages old → (other : ℕ) (values : BucketMap) → Content pages old other values
      → Content pages new other values)
      → Has rest now old → Has rest now new
  has_later rest now old new stays whole opens content has = record {
    pages = has.pages;
    opens = opens has.pages has.opens;
    strings = has.strings;
    state = has.state;
    spells = has.spells;
    whole = whole;
    root = stays.root ∙ has.root;
    texts = λ n below. ap (λ (l : Lists). own_or (map.get l n) (has.strings n)) stays.written ∙ has.texts n below;
    parts = λ m bucket below low.
        let had = has.parts m bucket below low in
        (had.0, had.1, content has.pages has.opens (bucket_chain m bucket) had.0 had.2);
    none = has.none;
  }

  -- where the bucket of a key is there, the store has buckets
  pub some_at : (buckets : Buckets D g) (which key : ℕ) → IsThere buckets which key → 1 ≤ bucket_count (chains_of buckets)
  some_at buckets which key there =
      let at = bucket_at buckets which key in
      let found = there_own (map.get (cached_of buckets) at) there in
      bucket_some (bucket_count (chains_of buckets)) at (buckets.own at found.0 found.1).0

  -- the bucket of a key, as the transaction has it
  pub has_bucket : (rest now : Image) (buckets : Buckets D g) (which key : ℕ) → which < 8 → 1 ≤ bucket_count (chains_of buckets)
      → (has : Has rest now buckets)
      → (own : BucketMap) × Content has.pages buckets (chain_at (bucket_count (chains_of buckets)) which key) own
      × (map.get own key ≡ map.get (now.maps which) key)
  has_bucket rest now buckets which key below some has =
      let count : bucket_count (chains_of buckets) ≡ now.root.buckets = ap (λ (r : Root). r.buckets) has.root in
      let low : key % now.root.buckets < now.root.buckets = mod-lt key (omega (arith, some, count)) in
      let had = has.parts which (key % now.root.buckets) below low in (
        had.0,
        subst (λ (k : ℕ). Content has.pages buckets (chain_at k which key) had.0) (sym count) had.2,
        part_gives now.root.buckets (key % now.root.buckets) (now.maps which) had.0 key had.1 refl,
      )

  -- and all of it
  pub has_part : (rest now : Image) (buckets : Buckets D g) (which key : ℕ) → which < 8 → 1 ≤ bucket_count (chains_of buckets)
      → (has : Has rest now buckets)
      → (own : BucketMap) × Content has.pages buckets (chain_at (bucket_count (chains_of buckets)) which key) own
      × IsPart now.root.buckets (key % now.root.buckets) (now.maps which) own
  has_part rest now buckets which key below some has =
      let count : bucket_count (chains_of buckets) ≡ now.root.buckets = ap (λ (r : Root). r.buckets) has.root in
      let low : key % now.root.buckets < now.root.buckets = mod-lt key (omega (arith, some, count)) in
      let had = has.parts which (key % now.root.buckets) below low in
      (had.0, subst (λ (k : ℕ). Content has.pages buckets (chain_at k which key) had.0) (sym count) had.2, had.1)

  -- one key's value changes
  pub has_changed : (rest now : Image) (old new : Buckets D g) (which key : ℕ) (change : Option (List ℕ)) → which < 8
      → 1 ≤ bucket_count (chains_of old)
      → root_of (chains_of new) ≡ root_of (chains_of old) → written_of (chains_of new) ≡ written_of (chains_of old)
      → is_broken (journal_of (chains_of new)) ≡ false
      → ((pages : List (List ℕ)) → IsOpenStore pages old → IsOpenStore pages new)
      → ((pages : List (List ℕ)) → IsOpenStore pages old → (values : BucketMap)
      → Content pages old (chain_at (bucket_count (chains_of old)) which key) values
      → Content pages new (chain_at (bucket_count (chains_of old)) which key) (with_entry key change values))
      → ((pages : List (List ℕ)) → IsOpenStore pages old → (other : ℕ) (values : BucketMap)
      → other ≢ chain_at (bucket_count (chains_of old)) which key
      → Content pages old other values → Content pages new other values)
      → Has rest now old → Has rest (with_value which key change now) new
  unfolding with_value
  has_changed rest now old new which key change below some root written whole opens here others has =
      let count : bucket_count (chains_of old) ≡ now.root.buckets = ap (λ (r : Root). r.buckets) has.root in
      let small : now.root.buckets ≤ 65536 = omega (arith, count, (chains_of old).few) in
      let own_bucket : key % now.root.buckets < now.root.buckets = mod-lt key (omega (arith, some, count)) in
      let at : chain_at (bucket_count (chains_of old)) which key ≡ bucket_chain which (key % now.root.buckets) =
      ap (λ (k : ℕ). chain_at k which key) count in
      record {
        pages = has.pages;
        opens = opens has.pages has.opens;
        strings = has.strings;
        state = has.state;
        spells = has.spells;
        whole = whole;
        root = root ∙ has.root;
        texts = λ n low. ap (λ (l : Lists). own_or (map.get l n) (has.strings n)) written ∙ has.texts n low;
        parts = λ m bucket low inside.
            let had = has.parts m bucket low inside in
            let few : bucket < 65536 = omega (arith, inside, small) in
            let key_few : key % now.root.buckets < 65536 = omega (arith, own_bucket, small) in
            elim (same_or m which) [
              | inl same ↦ elim (same_or bucket (key % now.root.buckets)) [
                | inl mine ↦
                    let place : chain_at (bucket_count (chains_of old)) which key ≡ bucket_chain m bucket =
                    at ∙ ap (λ (k : ℕ). bucket_chain which k) (sym mine) ∙ ap (λ (k : ℕ). bucket_chain k bucket) (sym same) in (
                      with_entry key change had.0,
                      subst (λ (whole : BucketMap). IsPart now.root.buckets bucket whole (with_entry key change had.0))
                          (sym (maps_here which key change now m same))
                          (part_changed now.root.buckets bucket (now.maps m) had.0 key change had.1 (sym mine)),
                      subst (λ (k : ℕ). Content has.pages new k (with_entry key change had.0)) place
                          (here has.pages has.opens had.0 (subst (λ (k : ℕ). Content has.pages old k had.0) (sym place) had.2)),
                    )
                | inr other ↦ (
                  had.0,
                  subst (λ (whole : BucketMap). IsPart now.root.buckets bucket whole had.0) (sym (maps_here which key change now m same))
                      (part_stays now.root.buckets bucket (now.maps m) had.0 key change had.1 (λ is. other (sym is))),
                  others has.pages has.opens (bucket_chain m bucket) had.0
                      (λ is. other (same_bucket m which bucket (key % now.root.buckets) few key_few (is ∙ at))) had.2,
                )
              ]
              | inr apart ↦ (
                had.0,
                subst (λ (whole : BucketMap). IsPart now.root.buckets bucket whole had.0)
                    (sym (maps_beside which key change now m apart)) had.1,
                others has.pages has.opens (bucket_chain m bucket) had.0
                    (λ is. apart (same_chain m which bucket (key % now.root.buckets) few key_few (is ∙ at))) had.2,
              )
            ];
        none = λ zero. absurd (omega (arith, zero, some, count));
      }
