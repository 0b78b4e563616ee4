-- Of a store that means something each chain is loaded, and each page is in one of them; so one that a survey refuses means nothing.
use Rattle.std.proofs.Common.{◌≡◌, inl, inr, ℕ, zero, suc, ◌+◌, ◌<◌, ◌≤◌, List, [], ◌∷◌, ◌++◌, flat_map, length, map}
use Rattle.std.proofs.Common.{Err, refl, sym, ap, subst, ◌∙◌, arith, ⊎_elim}
use Rattle.std.specs.FinMap as finite
use Rattle.std.specs.List.{AllByRecursion, range_with_len}
use Rattle.bucket_records.specs.Records.{IsBucket}
use Rattle.bucket_store.specs.Buckets.{bucket_in}
use Rattle.bucket_store.specs.Image.{Image, Spells, bucket_chain}
use Rattle.page_journal.specs.declared.fault.StoreFault.TheVariants.{BadStore}
use Rattle.chain_store.specs.Chain.{HasPages, Holds, data_in}
use Rattle.chain_store.specs.Directories.{IsChain, directory_first, first_in}
use Rattle.chain_store.specs.Kept.{bytes_at, pages_at}
use Rattle.chain_store.specs.Links.{page_in}
use Rattle.chain_store.specs.State.{IsOwner, IsSound, IsState}
use Rattle.chain_store.specs.Store.{Keeps, kept_first}
use Rattle.chain_store.specs.declared.kept.Kept.{Kept}
use Rattle.chain_store.specs.declared.root.Root.{Root}
use Rattle.chain_store.specs.declared.layout.TheConstants.{FREE}
use Rattle.chain_store.proofs.NewStore.{first_same, sound_agree}
use Rattle.chain_store.proofs.Unique.{bytes_one, not_refused}
use Rattle.value_bytes.proofs.ListLaws.{each_append}
use Rattle.store_check.specs.BadPage.{AreLoaded, AreOwned, IsFirstRefused, IsLoaded, IsRefusedAt, Surveys, buckets_told, chains_in}
use Rattle.store_check.proofs.Loads.{back_all, count_few}

-- what holds of each number, and of each list

all_range : (P : ℕ → Type 0) (start count : ℕ) → ((k : ℕ) → k < start + count → P k) → AllByRecursion P (range_with_len start count)
all_range P start zero each = tt
all_range P start (suc count) each = (
  each start (omega arith),
  all_range P (start + 1) count (λ k low. each k (omega (arith, low))),
)

all_mapped : (P : ℕ → Type 0) (turn : ℕ → ℕ) (xs : List ℕ) → AllByRecursion (λ x. P (turn x)) xs → AllByRecursion P (map turn xs)
all_mapped P turn [] all = tt
all_mapped P turn (x ∷ xs) all = (all.0, all_mapped P turn xs all.1)

all_flat : (P : ℕ → Type 0) (turn : ℕ → List ℕ) (xs : List ℕ) → AllByRecursion (λ x. AllByRecursion P (turn x)) xs
    → AllByRecursion P (flat_map turn xs)
all_flat P turn [] all = tt
all_flat P turn (x ∷ xs) all = each_append P (turn x) (flat_map turn xs) all.0 (all_flat P turn xs all.1)

pub bucket_same : {one other bucket place : ℕ} {text bytes : List ℕ} {records : List (ℕ × List ℕ)} → one ≡ other → bucket ≡ place
    → text ≡ bytes → IsBucket one bucket text records → IsBucket other place bytes records
bucket_same {one} {other} {bucket} {place} {text} {bytes} {records} count at same is =
    subst (λ (own : ℕ). IsBucket own place bytes records) count
    (subst (λ (own : ℕ). IsBucket one own bytes records) at
    (subst (λ (own : List ℕ). IsBucket one bucket own records) same is))

module _ (pages : List (List ℕ)) (kept : Kept) (keeps : Keeps pages kept) (own : Image) (strings : ℕ → List ℕ)
    (state : IsState own.root strings pages) (spells : Spells own strings) where
  abbrev page : ℕ → List ℕ
  page = page_in pages

  abbrev home : ℕ
  home = length pages + 1

  abbrev buckets : ℕ
  buckets = buckets_told pages

  directory_same : (m : ℕ) → m < 8 → state.directory m ≡ bytes_at kept.directories.items m
  directory_same m below =
      bytes_one page home (8 + m) (directory_first (page_in pages 1) m) (state.directory m) (bytes_at kept.directories.items m)
      (state.directories m below)
      (record {
        ns = pages_at kept.directories.items m;
        has = subst (λ (front : List ℕ). HasPages page home (8 + m) (directory_first front m) (pages_at kept.directories.items m))
            keeps.front (keeps.has m below);
        held = keeps.held m below;
      })

  first_is : (n : ℕ) → IsOwner n → kept_first kept n ≡ first_in (page_in pages 1) state.directory n
  first_is n owner =
      ap (λ (front : List ℕ). first_in front (bytes_at kept.directories.items) n) keeps.front
      ∙ first_same (page_in pages 1) (bytes_at kept.directories.items) state.directory (λ m below. sym (directory_same m below)) n owner

  kept_sound : IsSound page home (kept_first kept)
  kept_sound = sound_agree page page home (first_in (page_in pages 1) state.directory) (kept_first kept) (λ n above under. refl) first_is
      state.sound

  buckets_are : own.root.buckets ≡ buckets
  buckets_are = ap (λ (root : Root). root.buckets) (sym state.fields)

  has_bytes : (n : ℕ) → 16 ≤ n → IsChain n → Holds page home n (kept_first kept n) (strings n)
  has_bytes n high chain =
      subst (λ (at : ℕ). Holds page home n at (strings n)) (sym (first_is n (inr chain))) (state.each n (inr high) chain)

  bucket_loaded : (m bucket : ℕ) → m < 8 → bucket < buckets → IsLoaded pages kept (bucket_chain m bucket)
  bucket_loaded m bucket low few =
      let n = bucket_chain m bucket in
      let most : buckets ≤ 65536 = subst (λ (own : ℕ). own ≤ 65536) buckets_are (count_few own.root.buckets state.count) in
      let chain : IsChain (bucket_chain m bucket) = omega (arith, low, few, most) in
      let place : bucket ≡ bucket_in (bucket_chain m bucket) = omega (arith, few, most) in
      let found = kept_sound.chains n (inr chain) in
      let within : bucket < own.root.buckets = omega (arith, few, buckets_are) in
      let part = spells.parts m bucket low within in
      let same : strings (bucket_chain m bucket) ≡ data_in page found.0 =
      bytes_one page home n (kept_first kept n) (strings n) (data_in page found.0) (has_bytes n (omega arith) chain)
      (record { ns = found.0; has = found.1; held = refl }) in
      record {
        ns = found.0;
        has = found.1;
        records = λ high within.
            (part.0, bucket_same buckets_are place same part.2);
      }

  text_loaded : (n : ℕ) → n < 16 → IsLoaded pages kept n
  text_loaded n low =
      let chain : IsChain n = omega (arith, low) in
      let found = kept_sound.chains n (inr chain) in
      record { ns = found.0; has = found.1; records = λ high within. absurd (omega (arith, low, high)) }

  free_loaded : IsLoaded pages kept FREE
  free_loaded =
      let found = kept_sound.chains FREE (inl refl) in
      record { ns = found.0; has = found.1; records = λ high within. absurd (omega (arith, within)) }

  maps_loaded : AllByRecursion (IsLoaded pages kept) (flat_map (chains_in buckets) (range_with_len 0 8))
  maps_loaded =
      all_flat (IsLoaded pages kept) (chains_in buckets) (range_with_len 0 8)
      (all_range (λ m. AllByRecursion (IsLoaded pages kept) (chains_in buckets m)) 0 8 (λ m low.
      all_mapped (IsLoaded pages kept) (bucket_chain m) (range_with_len 0 buckets)
      (all_range (λ bucket. IsLoaded pages kept (bucket_chain m bucket)) 0 buckets (λ bucket few.
      bucket_loaded m bucket (omega (arith, low)) (omega (arith, few))))))

  behind : AllByRecursion (IsLoaded pages kept) (flat_map (chains_in buckets) (range_with_len 0 8) ++ FREE ∷ [])
  behind = each_append (IsLoaded pages kept) (flat_map (chains_in buckets) (range_with_len 0 8)) (FREE ∷ []) maps_loaded (free_loaded, tt)

  pub all_loaded : AreLoaded pages kept
  all_loaded = (text_loaded 1 (omega arith), (text_loaded 2 (omega arith), behind))

  pub all_owned : AreOwned pages kept
  all_owned = kept_sound.owned

  one_refused : (n at : ℕ) → IsLoaded pages kept n → IsRefusedAt pages kept n at → ⊥
  one_refused n at loaded refused = ⊎_elim
      (λ bad. not_refused page home n (kept_first kept n) loaded.ns at loaded.has bad)
      (λ none.
      let records = loaded.records none.0 none.1 in
      let same : data_in page loaded.ns ≡ none.2.0 = bytes_one page home n (kept_first kept n) (data_in page loaded.ns) none.2.0
      (record { ns = loaded.ns; has = loaded.has; held = refl }) none.2.1 in
      none.2.2 (finite.entries records.0)
      (subst (λ (text : List ℕ). IsBucket buckets (bucket_in n) text (finite.entries records.0)) same records.1))
      refused

  first_refused : (at : ℕ) → IsFirstRefused pages kept at → ⊥
  first_refused at first =
      let all : AllByRecursion (IsLoaded pages kept) (first.before ++ first.n ∷ first.after) =
      subst (AllByRecursion (IsLoaded pages kept)) first.order all_loaded in
      one_refused first.n at (back_all (IsLoaded pages kept) first.before (first.n ∷ first.after) all).0 first.refused

  pub never_refused : (at : ℕ) → Surveys pages kept (Err (BadStore at)) → ⊥
  never_refused at is = ⊎_elim
      (λ first. first_refused at first)
      (λ left. left.1.none (all_owned at left.1.behind.0 left.1.behind.1)) is
