-- What a survey answers, once all chains were read and their pages marked.
use Rattle.std.proofs.Common.{◌≡◌, inl, inr, ℕ, ◌+◌, ◌-◌, ◌*◌, ◌/◌, ◌%◌, ◌<◌, ◌≤◌, Bool, true, false, nat_lt}
use Rattle.std.proofs.Common.{List, [], ◌∷◌, flat_map, length, Result, Ok, Err, refl, sym, ap, subst, ◌∙◌, arith, ⊎_elim}
use Rattle.std.specs.List.{AllByRecursion, range_with_len}
use Rattle.outside.specs.declared.disk.Disk.{Ghosts}
use Rattle.page_journal.specs.Journal.{home_count, is_broken}
use Rattle.page_journal.specs.declared.fault.StoreFault.{StoreFault}
use Rattle.page_journal.specs.declared.fault.StoreFault.TheVariants as refusals
use Rattle.chain_store.specs.Answers.{IsReadAnswer}
use Rattle.chain_store.specs.Chain.{Path}
use Rattle.chain_store.specs.Chains.{journal_of, kept_of}
use Rattle.chain_store.specs.Directories.{IsChain, root_in}
use Rattle.chain_store.specs.Kept.{bytes_at}
use Rattle.chain_store.specs.Links.{page_in}
use Rattle.chain_store.specs.State.{IsOwner}
use Rattle.chain_store.specs.Store.{Keeps, kept_first}
use Rattle.chain_store.specs.declared.kept.Kept.{Kept}
use Rattle.chain_store.specs.declared.layout.TheConstants.{FREE}
use Rattle.chain_store.specs.declared.root.Root.{Root}
use Rattle.chain_store.proofs.FirstLaws.{first_in-bucket}
use Rattle.chain_store.proofs.NumberLaws.{number-beyond}
use Rattle.bucket_store.specs.Buckets.{bucket_count}
use Rattle.bucket_store.specs.Calls.{IsBegun}
use Rattle.bucket_store.specs.Image.{Has, Image, IsSoundAnswer, bucket_chain}
use Rattle.bucket_store.specs.Transaction.{IsOpenStore, chains_of}
use Rattle.bucket_store.specs.declared.buckets.Buckets.{Buckets}
use Rattle.store_check.specs.BadPage.{AreLoaded, IsFirstRefused, IsLoaded, IsOwned, IsRefusedAt, Surveys, buckets_told, chains_in, loads}
use Rattle.store_check.specs.Marks.{IsFirstLeft, is_marked}
use Rattle.store_check.specs.Surveying.{IsCovered, IsFirstOf, LoadsChains, MarksChains, MarksOthers, ReadsAll}
use Rattle.store_check.proofs.Loads.{back_all, each_below, each_flat, each_in, each_mapped, front_all, not_under}
use Rattle.store_check.proofs.MarkLaws.{covered_all}
use Rattle.store_check.proofs.Meaning.{never_refused}
use Rattle.store_check.proofs.Surveyed.{below, level_or_apart}

-- a chain that begins at no page has none
none_in : (page : ℕ → List ℕ) (home n first place : ℕ) (ns : List ℕ) → first ≡ 0 → Path page home n first ns 0 → place < length ns → ⊥
none_in page home n first place [] none path low = absurd (omega (arith, low))
none_in page home n first place (x ∷ ns) none path low = absurd (omega (arith, none, path.0, path.1.above))

module _ (pages : List (List ℕ)) (kept : Kept) (keeps : Keeps pages kept) (count : ℕ)
    (is : count ≡ (root_in kept.front.items).buckets) where
  told : count ≡ buckets_told pages
  told = is ∙ ap (λ (front : List ℕ). (root_in front).buckets) keeps.front

  module _ (marks : List Bool) (first : AllByRecursion (IsCovered pages kept marks) (loads count))
      (second : AllByRecursion (IsCovered pages kept marks) (0 ∷ range_with_len 3 13)) where
    bucket_covered : (m bucket : ℕ) → m < 8 → bucket < count → IsCovered pages kept marks (bucket_chain m bucket)
    bucket_covered m bucket low few =
        each_below (λ own. IsCovered pages kept marks (bucket_chain m own)) count bucket few
        (each_mapped (IsCovered pages kept marks) (bucket_chain m) (range_with_len 0 count)
        (each_below (λ own. AllByRecursion (IsCovered pages kept marks) (chains_in count own)) 8 m low
        (each_flat (IsCovered pages kept marks) (chains_in count) (range_with_len 0 8)
        (front_all (IsCovered pages kept marks) (flat_map (chains_in count) (range_with_len 0 8)) (FREE ∷ []) first.1.1))))

    free_covered : IsCovered pages kept marks FREE
    free_covered = (back_all (IsCovered pages kept marks) (flat_map (chains_in count) (range_with_len 0 8)) (FREE ∷ []) first.1.1).0

    low_covered : (n : ℕ) → n < 16 → IsCovered pages kept marks n
    low_covered n low = ⊎_elim
        (λ level. subst (IsCovered pages kept marks) (sym level) second.0)
        (λ some. ⊎_elim
        (λ level. subst (IsCovered pages kept marks) (sym level) first.0)
        (λ more. ⊎_elim
        (λ level. subst (IsCovered pages kept marks) (sym level) first.1.0)
        (λ most.
        let place : 3 + (n - 3) ≡ n = omega (arith, some, more, most) in
        subst (IsCovered pages kept marks) place
        (each_in (IsCovered pages kept marks) 3 13 (n - 3) (omega (arith, low, some, more, most)) second.1))
        (level_or_apart n 2))
        (level_or_apart n 1))
        (level_or_apart n 0)

    high_covered : (n : ℕ) → 16 ≤ n → IsChain n → IsCovered pages kept marks n
    high_covered n high chain =
        let m = (n - 16) / 65536 in
        let bucket = (n - 16) % 65536 in
        let low : (n - 16) / 65536 < 8 = omega (arith, high, chain) in
        let level : 16 + 65536 * ((n - 16) / 65536) + (n - 16) % 65536 ≡ n = omega (arith, high) in
        elim (nat_lt ((n - 16) % 65536) count) as (λ b. nat_lt ((n - 16) % 65536) count ≡ b → IsCovered pages kept marks n) [
          | true ↦ λ few. subst (IsCovered pages kept marks) level (bucket_covered m bucket low (below bucket count few))
          | false ↦ λ many.
              let long_so : length (bytes_at kept.directories.items ((n - 16) / 65536)) ≡ 8 * (root_in kept.front.items).buckets =
              kept.long ((n - 16) / 65536) low in
              let beyond : count ≤ (n - 16) % 65536 = not_under ((n - 16) % 65536) count many in
              let none : kept_first kept n ≡ 0 =
              first_in-bucket kept.front.items (bytes_at kept.directories.items) n high chain
              ∙ number-beyond (bytes_at kept.directories.items ((n - 16) / 65536)) (8 * ((n - 16) % 65536))
              (omega (arith, long_so, beyond, is)) in
              λ p under own.
              absurd (none_in (page_in pages) (length pages + 1) n (kept_first kept n) own.place own.ns none own.has.path own.below)
        ] refl

    pub covered : (n : ℕ) → IsOwner n → IsCovered pages kept marks n
    covered n owner = ⊎_elim
        (λ (free : n ≡ FREE). subst (IsCovered pages kept marks) (sym free) free_covered)
        (λ (chain : IsChain n). elim (nat_lt n 16) as (λ b. nat_lt n 16 ≡ b → IsCovered pages kept marks n) [
          | true ↦ λ low. low_covered n (below n 16 low)
          | false ↦ λ high. high_covered n (not_under n 16 high) chain
        ] refl)
        owner

  module _ (start mid last : List Bool) (many : length start ≡ length pages + 1)
      (none : (p : ℕ) → p < length start → is_marked start p ≡ false) (first : MarksChains pages kept (loads count) start mid)
      (second : MarksChains pages kept (0 ∷ range_with_len 3 13) mid last) where
    -- a mark tells that a chain has the page, and each page of a chain has one
    owned : (p : ℕ) → p < length pages + 1 → is_marked last p ≡ true → IsOwned pages kept p
    owned p low marked = ⊎_elim
        (λ (was : is_marked mid p ≡ true). ⊎_elim
        (λ (at_first : is_marked start p ≡ true). absurd (let not = none p (omega (arith, low, many)) in cc (at_first, not)))
        (λ (own : IsOwned pages kept p). own)
        (first.only p (omega (arith, low, many)) was))
        (λ (own : IsOwned pages kept p). own)
        (second.only p (omega (arith, low, many, first.many)) marked)

    marked_so : (p : ℕ) → p < length pages + 1 → IsOwned pages kept p → is_marked last p ≡ true
    marked_so p low own =
        covered last (covered_all pages kept mid last (loads count) second.many second.stay first.all) second.all own.0 own.1 p
        (omega (arith, low, many, first.many, second.many)) own.2

    loaded_so : AllByRecursion (IsLoaded pages kept) (loads count) → AreLoaded pages kept
    loaded_so all = subst (λ (own : ℕ). AllByRecursion (IsLoaded pages kept) (loads own)) told all

    pub all_found : AllByRecursion (IsLoaded pages kept) (loads count)
        → ((p : ℕ) → 2 ≤ p → p < length last → is_marked last p ≡ true) → Surveys pages kept (Ok tt)
    all_found all each = (
      loaded_so all,
      λ p above under. owned p under (each p above (omega (arith, under, many, first.many, second.many))),
    )

    pub one_left : (at : ℕ) → AllByRecursion (IsLoaded pages kept) (loads count) → IsFirstLeft last at
        → Surveys pages kept (Err (refusals.BadStore at))
    one_left at all left =
        let low : at < length pages + 1 = omega (arith, left.there, many, first.many, second.many) in
        inr (
          loaded_so all,
          record {
            behind = (left.behind, low);
            none = λ own. let marked = marked_so at low own in let not = left.unmarked in absurd (cc (marked, not));
            lowest = λ p above under. owned p (omega (arith, under, low)) (left.lowest p above under);
          },
        )

  first_found : (at : ℕ) → IsFirstOf (IsLoaded pages kept) (IsRefusedAt pages kept) (loads count) at → IsFirstRefused pages kept at
  first_found at first = record {
    before = first.before;
    n = first.n;
    after = first.after;
    order = sym (ap (λ (own : ℕ). loads own) told) ∙ first.order;
    accepted = first.accepted;
    refused = first.refused;
  }

  pub load_refused : (start mid : List Bool) (fault : StoreFault)
      → ReadsAll (IsLoaded pages kept) (IsRefusedAt pages kept) pages kept (loads count) start mid (Err fault)
      → Surveys pages kept (Err fault)
  load_refused start mid refusals.NotFormatted reads = tt
  load_refused start mid refusals.NotEmpty reads = tt
  load_refused start mid (refusals.BadStore at) reads = inl (first_found at reads)
  load_refused start mid refusals.DiskFault reads = tt
  load_refused start mid (refusals.StoreFull many) reads = tt
  load_refused start mid refusals.Broken reads = tt
  load_refused start mid refusals.OutOfMemory reads = tt

pub other_refused : (pages : List (List ℕ)) (kept own : Kept) (chains : List ℕ) (start mid : List Bool) (fault : StoreFault)
    → ReadsAll (λ n. Unit {0}) (λ n at. ⊥) pages own chains start mid (Err fault) → Surveys pages kept (Err fault)
other_refused pages kept own chains start mid refusals.NotFormatted reads = tt
other_refused pages kept own chains start mid refusals.NotEmpty reads = tt
other_refused pages kept own chains start mid (refusals.BadStore at) reads = absurd reads.refused
other_refused pages kept own chains start mid refusals.DiskFault reads = tt
other_refused pages kept own chains start mid (refusals.StoreFull many) reads = tt
other_refused pages kept own chains start mid refusals.Broken reads = tt
other_refused pages kept own chains start mid refusals.OutOfMemory reads = tt

module _ {D : Type 0} {g : Ghosts D} where
  pub counted : (buckets : Buckets D g) (count : ℕ) → IsBegun buckets → count ≡ bucket_count (chains_of buckets)
      → count ≡ (root_in (kept_of (chains_of buckets)).front.items).buckets
  counted buckets count begun is = is ∙ ap (λ (r : Root). r.buckets) begun.root

  -- a store that means something is refused nothing
  pub sound_answer : (buckets : Buckets D g) (result : Result (Unit {0}) StoreFault)
      → IsReadAnswer (is_broken (journal_of (chains_of buckets))) result
      → ((pages : List (List ℕ)) → IsOpenStore pages buckets → Surveys pages (kept_of (chains_of buckets)) result)
      → (rest : Image) → Has rest rest buckets → IsSoundAnswer result
  sound_answer buckets (Ok done) alone answers rest has = tt
  sound_answer buckets (Err refusals.NotFormatted) alone answers rest has = absurd alone
  sound_answer buckets (Err refusals.NotEmpty) alone answers rest has = absurd alone
  sound_answer buckets (Err (refusals.BadStore at)) alone answers rest has =
      never_refused has.pages (kept_of (chains_of buckets)) has.opens.open_chains.keeps rest has.strings has.state has.spells at
      (answers has.pages has.opens)
  sound_answer buckets (Err refusals.DiskFault) alone answers rest has = tt
  sound_answer buckets (Err (refusals.StoreFull many)) alone answers rest has = absurd alone
  sound_answer buckets (Err refusals.Broken) alone answers rest has = absurd (let whole = has.whole in cc (whole, alone))
  sound_answer buckets (Err refusals.OutOfMemory) alone answers rest has = tt

-- both steps of a survey, one after the other
module _ {D : Type 0} {g : Ghosts D} (old mid last : Buckets D g) (count : ℕ) (begun : IsBegun old)
    (is : count ≡ bucket_count (chains_of old)) (start middle after : List Bool)
    (many : length start ≡ home_count (journal_of (chains_of old)))
    (none : (p : ℕ) → p < length start → is_marked start p ≡ false) (done both : Unit {0})
    (first : LoadsChains (loads count) old mid start middle (Ok done))
    (second : MarksOthers (0 ∷ range_with_len 3 13) mid last middle after (Ok both)) where
  counted_pages : (pages : List (List ℕ)) → IsOpenStore pages old → length start ≡ length pages + 1
  counted_pages pages was = many ∙ sym was.open_chains.rests.1

  others_marked : (pages : List (List ℕ)) → IsOpenStore pages old
      → MarksChains pages (kept_of (chains_of old)) (0 ∷ range_with_len 3 13) middle after
  others_marked pages was =
      subst (λ (kept : Kept). MarksChains pages kept (0 ∷ range_with_len 3 13) middle after) first.looks.stays.kept
      (second.answers pages (first.opens pages was)).1

  pub found_all : ((p : ℕ) → 2 ≤ p → p < length after → is_marked after p ≡ true) → (pages : List (List ℕ)) → IsOpenStore pages old
      → Surveys pages (kept_of (chains_of old)) (Ok tt)
  found_all each pages was =
      let loaded = first.answers pages was in
      all_found pages (kept_of (chains_of old)) was.open_chains.keeps count (counted old count begun is) start middle after
      (counted_pages pages was) none loaded.1 (others_marked pages was) loaded.0 each

  pub found_left : (at : ℕ) → IsFirstLeft after at → (pages : List (List ℕ)) → IsOpenStore pages old
      → Surveys pages (kept_of (chains_of old)) (Err (refusals.BadStore at))
  found_left at left pages was =
      let loaded = first.answers pages was in
      one_left pages (kept_of (chains_of old)) was.open_chains.keeps count (counted old count begun is) start middle after
      (counted_pages pages was) none loaded.1 (others_marked pages was) at loaded.0 left
