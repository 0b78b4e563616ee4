-- A store of which each chain was loaded, and each page found in one, means something.
use Rattle.std.proofs.Common.{◌≡◌, ℕ, zero, suc, ◌+◌, ◌-◌, ◌*◌, ◌/◌, ◌%◌, ◌<◌, ◌≤◌, Bool, true, false, nat_lt, List, []}
use Rattle.std.proofs.Common.{◌∷◌, ◌++◌, flat_map, length, map, refl, sym, ap, subst, ◌∙◌, arith, ⊎_elim}
use Rattle.std.proofs.lemmas.Bool.Decides.{nat_tests}
use Rattle.std.specs.FinMap as finite
use Rattle.std.specs.List.{AllByRecursion, range_with_len}
use Rattle.bucket_records.specs.Records.{BucketMap, IsBucket}
use Rattle.bucket_store.specs.Buckets.{bucket_in}
use Rattle.bucket_store.specs.Image.{Image, Spells, bucket_chain}
use Rattle.chain_store.specs.Chain.{HasPages, Holds, data_in}
use Rattle.chain_store.specs.Directories.{IsChain, IsCount, directory_first, first_in, root_in}
use Rattle.chain_store.specs.Kept.{AreLong, bytes_at, pages_at}
use Rattle.chain_store.specs.Links.{page_in}
use Rattle.chain_store.specs.State.{IsIn, IsState}
use Rattle.chain_store.specs.Store.{Keeps, kept_first}
use Rattle.chain_store.specs.declared.kept.Kept.{Kept}
use Rattle.chain_store.specs.declared.root.Root.{Root}
use Rattle.chain_store.specs.declared.layout.TheConstants.{FREE}
use Rattle.chain_store.proofs.FirstLaws.{first_in-bucket, first_in-root}
use Rattle.chain_store.proofs.NumberLaws.{number-beyond}
use Rattle.chain_store.proofs.Unique.{bytes_one}
use Rattle.page_journal.specs.Pages.{number}
use Rattle.store_check.specs.BadPage.{AreChains, AreLoaded, AreOwned, IsLoaded, buckets_told, chains_in}
use Rattle.store_check.proofs.Surveyed.{below, holds, image, level_or_apart, not_below, spells, strings, surveyed}

-- what holds of each in a list

pub each_in : (P : ℕ → Type 0) (start count k : ℕ) → k < count → AllByRecursion P (range_with_len start count) → P (start + k)
each_in P start zero k low all = absurd (omega (arith, low))
each_in P start (suc count) zero low all = let level : start ≡ start + 0 = omega arith in subst P level all.0
each_in P start (suc count) (suc k) low all =
    let level : start + 1 + k ≡ start + suc k = omega arith in
    subst P level (each_in P (start + 1) count k (omega (arith, low)) all.1)

pub each_below : (P : ℕ → Type 0) (count k : ℕ) → k < count → AllByRecursion P (range_with_len 0 count) → P k
each_below P count k low all = let level : 0 + k ≡ k = omega arith in subst P level (each_in P 0 count k low all)

pub each_mapped : (P : ℕ → Type 0) (turn : ℕ → ℕ) (xs : List ℕ) → AllByRecursion P (map turn xs) → AllByRecursion (λ x. P (turn x)) xs
each_mapped P turn [] all = tt
each_mapped P turn (x ∷ xs) all = (all.0, each_mapped P turn xs all.1)

pub front_all : (P : ℕ → Type 0) (xs ys : List ℕ) → AllByRecursion P (xs ++ ys) → AllByRecursion P xs
front_all P [] ys all = tt
front_all P (x ∷ xs) ys all = (all.0, front_all P xs ys all.1)

pub back_all : (P : ℕ → Type 0) (xs ys : List ℕ) → AllByRecursion P (xs ++ ys) → AllByRecursion P ys
back_all P [] ys all = all
back_all P (x ∷ xs) ys all = back_all P xs ys all.1

pub each_flat : (P : ℕ → Type 0) (turn : ℕ → List ℕ) (xs : List ℕ) → AllByRecursion P (flat_map turn xs)
    → AllByRecursion (λ x. AllByRecursion P (turn x)) xs
each_flat P turn [] all = tt
each_flat P turn (x ∷ xs) all =
    (front_all P (turn x) (flat_map turn xs) all, each_flat P turn xs (back_all P (turn x) (flat_map turn xs) all))

pub not_under : (n k : ℕ) → nat_lt n k ≡ false → k ≤ n
not_under n k is = grind (arith, nat_tests)

pub count_few : (buckets : ℕ) → IsCount buckets → buckets ≤ 65536
count_few buckets count = ⊎_elim (λ none. omega (arith, none)) (λ some. some.1) count

module _ (pages : List (List ℕ)) (kept : Kept) (keeps : Keeps pages kept) (count : IsCount (buckets_told pages))
    (long : AreLong kept.directories.items (buckets_told pages)) (all : AreLoaded pages kept) (others : AreChains pages kept) where
  abbrev page : ℕ → List ℕ
  page = page_in pages

  abbrev home : ℕ
  home = length pages + 1

  abbrev root : Root
  root = root_in (page_in pages 1)

  abbrev directory : ℕ → List ℕ
  directory = bytes_at kept.directories.items

  abbrev first : ℕ → ℕ
  first n = first_in (page_in pages 1) directory n

  abbrev rest : AllByRecursion (IsLoaded pages kept) (flat_map (chains_in root.buckets) (range_with_len 0 8) ++ FREE ∷ [])
  rest = all.1.1

  bucket_loaded : (m bucket : ℕ) → m < 8 → bucket < root.buckets → IsLoaded pages kept (bucket_chain m bucket)
  bucket_loaded m bucket low few =
      each_below (λ own. IsLoaded pages kept (bucket_chain m own)) root.buckets bucket few
      (each_mapped (IsLoaded pages kept) (bucket_chain m) (range_with_len 0 root.buckets)
      (each_below (λ own. AllByRecursion (IsLoaded pages kept) (chains_in root.buckets own)) 8 m low
      (each_flat (IsLoaded pages kept) (chains_in root.buckets) (range_with_len 0 8)
      (front_all (IsLoaded pages kept) (flat_map (chains_in root.buckets) (range_with_len 0 8)) (FREE ∷ []) rest))))

  free_loaded : IsLoaded pages kept FREE
  free_loaded = (back_all (IsLoaded pages kept) (flat_map (chains_in root.buckets) (range_with_len 0 8)) (FREE ∷ []) rest).0

  -- the root page that is kept is that of the store

  to_first : (n : ℕ) (bytes : List ℕ) → Holds page home n (kept_first kept n) bytes → Holds page home n (first n) bytes
  to_first n bytes = subst (λ (front : List ℕ). Holds page home n (first_in front directory n) bytes) keeps.front

  loaded_holds : (n : ℕ) (own : IsLoaded pages kept n) → Holds page home n (first n) (data_in page own.ns)
  loaded_holds n own = to_first n (data_in page own.ns) (record { ns = own.ns; has = own.has; held = refl })

  abbrev Held : ℕ → Type 0
  Held n = (bytes : List ℕ) × Holds page home n (first n) bytes

  held_loaded : (n : ℕ) → IsLoaded pages kept n → Held n
  held_loaded n own = (data_in page own.ns, loaded_holds n own)

  held_none : (n : ℕ) → kept_first kept n ≡ 0 → Held n
  held_none n none = ([], to_first n [] (record { ns = []; has = record { path = none; few = omega arith }; held = refl }))

  held_directory : (m : ℕ) → m < 8 → Held (8 + m)
  held_directory m low =
      let within : 8 + m < 16 = omega (arith, low) in
      let place : 48 + 8 * (8 + m) ≡ 112 + 8 * m = omega arith in
      let begins = first_in-root kept.front.items directory (8 + m) within ∙ ap (number kept.front.items) place in
      let ns = pages_at kept.directories.items m in (
        data_in page ns,
        to_first (8 + m) (data_in page ns) (record {
          ns = ns;
          has = subst (λ (own : ℕ). HasPages page home (8 + m) own ns) (sym begins) (keeps.has m low);
          held = refl;
        }),
      )

  held_low : (n : ℕ) → n < 8 → Held n
  held_low n low = ⊎_elim
      (λ level. subst Held (sym level) (held_loaded 1 all.0))
      (λ apart. ⊎_elim
      (λ level. subst Held (sym level) (held_loaded 2 all.1.0))
      (λ other. let own = others n (low, apart, other) in (own.0, to_first n own.0 own.1))
      (level_or_apart n 2))
      (level_or_apart n 1)

  held_middle : (n : ℕ) → 8 ≤ n → n < 16 → Held n
  held_middle n high low =
      let under : n - 8 < 8 = omega (arith, high, low) in
      let level : 8 + (n - 8) ≡ n = omega (arith, high) in
      subst Held level (held_directory (n - 8) under)

  held_high : (n : ℕ) → 16 ≤ n → IsChain n → Held n
  held_high n high chain =
      let m = (n - 16) / 65536 in
      let bucket = (n - 16) % 65536 in
      let low : (n - 16) / 65536 < 8 = omega (arith, high, chain) in
      let level : 16 + 65536 * ((n - 16) / 65536) + (n - 16) % 65536 ≡ n = omega (arith, high) in
      elim (nat_lt ((n - 16) % 65536) root.buckets) as (λ b. nat_lt ((n - 16) % 65536) root.buckets ≡ b → Held n) [
        | true ↦ λ is. subst Held level (held_loaded (bucket_chain m bucket) (bucket_loaded m bucket low (below bucket root.buckets is)))
        | false ↦ λ is.
            let long_so : length (directory ((n - 16) / 65536)) ≡ 8 * root.buckets = long ((n - 16) / 65536) low in
            let beyond : root.buckets ≤ (n - 16) % 65536 = not_under ((n - 16) % 65536) root.buckets is in
            held_none n (first_in-bucket kept.front.items directory n high chain
            ∙ number-beyond (directory m) (8 * bucket) (omega (arith, long_so, beyond)))
      ] refl

  pub loaded : (n : ℕ) → IsChain n → Held n
  loaded n chain = elim (nat_lt n 8) as (λ b. nat_lt n 8 ≡ b → Held n) [
    | true ↦ λ is. held_low n (below n 8 is)
    | false ↦ λ apart. elim (nat_lt n 16) as (λ b. nat_lt n 16 ≡ b → Held n) [
      | true ↦ λ is. held_middle n (not_under n 8 apart) (below n 16 is)
      | false ↦ λ is. held_high n (not_under n 16 is) chain
    ] refl
  ] refl

  abbrev bytes : ℕ → List ℕ
  bytes = strings pages root directory loaded

  -- the records of each bucket

  in_bucket : (m bucket : ℕ) → bucket < root.buckets → bucket_in (bucket_chain m bucket) ≡ bucket
  in_bucket m bucket few =
      let most : root.buckets ≤ 65536 = count_few root.buckets count in
      omega (arith, few, most)

  in_chains : (m bucket : ℕ) → m < 8 → bucket < root.buckets → IsChain (bucket_chain m bucket)
  in_chains m bucket low few =
      let most : root.buckets ≤ 65536 = count_few root.buckets count in
      omega (arith, low, few, most)

  abbrev Recorded : ℕ → ℕ → Type 0
  Recorded m bucket = (values : BucketMap) × IsBucket root.buckets bucket (bytes (bucket_chain m bucket)) (finite.entries values)

  recorded : (m bucket : ℕ) → m < 8 → bucket < root.buckets → Recorded m bucket
  recorded m bucket low few =
      let n = bucket_chain m bucket in
      let own = bucket_loaded m bucket low few in
      let chain = in_chains m bucket low few in
      let found = own.records (omega arith) chain in
      let same : data_in page own.ns ≡ bytes (bucket_chain m bucket) =
      bytes_one page home n (first n) (data_in page own.ns) (bytes n) (loaded_holds n own) (holds pages root directory loaded n chain) in (
        found.0,
        subst (λ (text : List ℕ). IsBucket root.buckets bucket text (finite.entries found.0)) same
            (subst (λ (place : ℕ). IsBucket root.buckets place (data_in page own.ns) (finite.entries found.0))
            (in_bucket m bucket few) found.1),
      )

  pick : (m bucket : ℕ) (b c : Bool) → nat_lt m 8 ≡ b → nat_lt bucket root.buckets ≡ c → BucketMap
  pick m bucket true true low few = (recorded m bucket (below m 8 low) (below bucket root.buckets few)).0
  pick m bucket true false low few = finite.empty
  pick m bucket false c low few = finite.empty

  pick_spelled : (m bucket : ℕ) (b c : Bool) (low : nat_lt m 8 ≡ b) (few : nat_lt bucket root.buckets ≡ c) → m < 8 → bucket < root.buckets
      → IsBucket root.buckets bucket (bytes (bucket_chain m bucket)) (finite.entries (pick m bucket b c low few))
  unfolding pick
  pick_spelled m bucket true true low few under within = (recorded m bucket (below m 8 low) (below bucket root.buckets few)).1
  pick_spelled m bucket true false low few under within = absurd (not_below bucket root.buckets few within)
  pick_spelled m bucket false c low few under within = absurd (not_below m 8 low under)

  owns : ℕ → ℕ → BucketMap
  owns m bucket = pick m bucket (nat_lt m 8) (nat_lt bucket root.buckets) refl refl

  spelled : (m bucket : ℕ) → m < 8 → bucket < root.buckets
      → IsBucket root.buckets bucket (bytes (bucket_chain m bucket)) (finite.entries (owns m bucket))
  unfolding owns
  spelled m bucket under within = pick_spelled m bucket (nat_lt m 8) (nat_lt bucket root.buckets) refl refl under within

  directories : (m : ℕ) → m < 8 → Holds page home (8 + m) (directory_first (page_in pages 1) m) (directory m)
  directories m low = subst (λ (front : List ℕ). Holds page home (8 + m) (directory_first front m) (directory m)) keeps.front
      (record { ns = pages_at kept.directories.items m; has = keeps.has m low; held = keeps.held m low })

  pub surveyed_state : AreOwned pages kept → IsState root bytes pages
  surveyed_state owned = surveyed pages root directory loaded keeps.some refl count directories long (
    free_loaded.ns,
    subst (λ (front : List ℕ). HasPages page home FREE (first_in front directory FREE) free_loaded.ns) keeps.front
        free_loaded.has,
  )
      (λ p above under. let own = owned p above under in
      (own.0, own.1, subst (λ (front : List ℕ). IsIn page home (λ n. first_in front directory n) own.0 p) keeps.front own.2))

  pub surveyed_image : Image
  surveyed_image = image pages root directory loaded owns spelled

  pub surveyed_spells : Spells surveyed_image bytes
  unfolding surveyed_image
  surveyed_spells = spells pages root directory loaded owns spelled

  pub surveyed_means : AreOwned pages kept → (own : Image) × (texts : ℕ → List ℕ) × IsState own.root texts pages × Spells own texts
  unfolding surveyed_image image
  surveyed_means owned = (surveyed_image, bytes, surveyed_state owned, surveyed_spells)
