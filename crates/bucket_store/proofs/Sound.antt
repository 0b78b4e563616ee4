-- A store that means something refuses no chain.
use Rattle.std.proofs.Common.{◌≡◌, inl, inr, ℕ, ◌+◌, ◌≤◌, ◌<◌, Bool, true, false, List, length, Option, Some, None, Result, Ok, Err, subst}
use Rattle.std.proofs.Common.{arith}
use Rattle.std.specs.Option.{MatchOption}
use Rattle.std.specs.FinMap as map
use Rattle.outside.specs.declared.disk.Disk.{Ghosts}
use Rattle.page_journal.specs.Journal.{is_broken}
use Rattle.page_journal.specs.declared.fault.StoreFault.{StoreFault}
use Rattle.page_journal.specs.declared.fault.StoreFault.TheVariants.{NotFormatted, NotEmpty, BadStore, DiskFault, StoreFull, Broken}
use Rattle.page_journal.specs.declared.fault.StoreFault.TheVariants.{OutOfMemory}
use Rattle.chain_store.specs.declared.chains.Chains.{Chains}
use Rattle.chain_store.specs.declared.kept.Kept.{Kept}
use Rattle.chain_store.specs.declared.layout.TheConstants.{FREE}
use Rattle.chain_store.specs.declared.root.Root.{Root}
use Rattle.chain_store.specs.Answers.{IsReadAnswer}
use Rattle.chain_store.specs.Chains.{Brings, LoadedIs, Loads, first_of, journal_of, kept_of, read_of, written_of}
use Rattle.chain_store.specs.Ends.{Ends, IsCommitAnswer}
use Rattle.chain_store.specs.Known.{Lists}
use Rattle.chain_store.specs.Links.{page_in}
use Rattle.chain_store.specs.State.{IsState}
use Rattle.chain_store.specs.Store.{IsRefused, Keeps}
use Rattle.chain_store.proofs.Unique.{not_refused}
use Rattle.bucket_records.specs.Records.{BucketMap, IsBucket}
use Rattle.bucket_store.specs.Buckets.{IsBadChain, Stored, bucket_count, bucket_in, chain_at}
use Rattle.bucket_store.specs.Committing.{WritesBuckets}
use Rattle.bucket_store.specs.Image.{Has, Image, IsSoundAnswer, IsSoundCommit}
use Rattle.bucket_store.specs.Transaction.{BringsBucket, Content, IsBad, IsOpenStore, chains_of}
use Rattle.bucket_store.specs.declared.buckets.Buckets.{Buckets}
use Rattle.bucket_store.specs.declared.cache.Cached.{Cached}
use Rattle.bucket_store.proofs.Holding.{has_bucket, none_refused}
use Rattle.bucket_store.proofs.Openings.{loaded_one}

loaded_refused : (pages : List (List ℕ)) (n first at : ℕ) (own : Option (List ℕ)) (bytes : List ℕ) → LoadedIs pages n first own bytes
    → own ≡ None
    → IsRefused pages n first at → ⊥
loaded_refused pages n first at None bytes is none refused =
    not_refused (page_in pages) (length pages + 1) n first is.ns at is.has refused
loaded_refused pages n first at (Some own) bytes is none refused = absurd (cc)

not_whole : (broken : Bool) → broken ≡ false → broken ≡ true → ⊥
not_whole broken whole is = absurd (cc)

module _ {D : Type 0} {g : Ghosts D} where
  -- a chain that spells records is not refused
  stored_bad : (pages : List (List ℕ)) (chains : Chains D g) (n at : ℕ) (values : BucketMap) → Stored pages chains n values
      → IsBadChain pages chains n at → ⊥
  stored_bad pages chains n at values stored (inl refused) =
      loaded_refused pages n (first_of chains n) at (map.get (written_of chains) n) stored.bytes stored.loaded refused.0 refused.1
  stored_bad pages chains n at values stored (inr bad) =
      let same = loaded_one pages n (first_of chains n) (map.get (written_of chains) n) stored.bytes bad.0 stored.loaded bad.1 in
      bad.2 (map.entries values) (subst (λ (l : List ℕ). IsBucket (bucket_count chains) (bucket_in n) l (map.entries values)) same
      stored.spells)

  content_bad : (pages : List (List ℕ)) (buckets : Buckets D g) (n at : ℕ) (values : BucketMap) → Content pages buckets n values
      → IsBad pages buckets n at → ⊥
  content_bad pages buckets n at values content bad =
      stored_bad pages (chains_of buckets) n at values
      (subst (λ (o : Option Cached). MatchOption o (Stored pages (chains_of buckets) n values) (λ own. own.bucket.values ≡ values)) bad.0
      content) bad.1

  pub sound_bring : {T : Type 0} (result : Result T StoreFault) (rest now : Image) (buckets : Buckets D g) (which key : ℕ) → which < 8
      → 1 ≤ bucket_count (chains_of buckets)
      → ((pages : List (List ℕ)) → IsOpenStore pages buckets
      → BringsBucket pages buckets (chain_at (bucket_count (chains_of buckets)) which key) result)
      → IsReadAnswer (is_broken (journal_of (chains_of buckets))) result → Has rest now buckets → IsSoundAnswer result
  sound_bring (Ok value) rest now buckets which key below some answers alone has = tt
  sound_bring (Err NotFormatted) rest now buckets which key below some answers alone has = absurd alone
  sound_bring (Err NotEmpty) rest now buckets which key below some answers alone has = absurd alone
  sound_bring (Err (BadStore at)) rest now buckets which key below some answers alone has =
      let own = has_bucket rest now buckets which key below some has in
      absurd (content_bad has.pages buckets (chain_at (bucket_count (chains_of buckets)) which key) at own.0 own.1
      (answers has.pages has.opens))
  sound_bring (Err DiskFault) rest now buckets which key below some answers alone has = tt
  sound_bring (Err (StoreFull pages)) rest now buckets which key below some answers alone has = absurd alone
  sound_bring (Err Broken) rest now buckets which key below some answers alone has =
      absurd (not_whole (is_broken (journal_of (chains_of buckets))) has.whole alone)
  sound_bring (Err OutOfMemory) rest now buckets which key below some answers alone has = tt

  pub sound_load : (result : Result (List ℕ) StoreFault) (rest now : Image) (buckets : Buckets D g) (n : ℕ) → n < 8
      → ((pages : List (List ℕ)) → IsOpenStore pages buckets
      → Loads pages n (first_of (chains_of buckets) n) (map.get (written_of (chains_of buckets)) n) result)
      → IsReadAnswer (is_broken (journal_of (chains_of buckets))) result → Has rest now buckets → IsSoundAnswer result
  sound_load (Ok value) rest now buckets n below answers alone has = tt
  sound_load (Err NotFormatted) rest now buckets n below answers alone has = absurd alone
  sound_load (Err NotEmpty) rest now buckets n below answers alone has = absurd alone
  sound_load (Err (BadStore at)) rest now buckets n below answers alone has =
      absurd (none_refused has.pages (kept_of (chains_of buckets)) rest.root has.strings has.opens.open_chains.keeps has.state n at
      (inr (omega (arith, below))) (answers has.pages has.opens).1)
  sound_load (Err DiskFault) rest now buckets n below answers alone has = tt
  sound_load (Err (StoreFull pages)) rest now buckets n below answers alone has = absurd alone
  sound_load (Err Broken) rest now buckets n below answers alone has =
      absurd (not_whole (is_broken (journal_of (chains_of buckets))) has.whole alone)
  sound_load (Err OutOfMemory) rest now buckets n below answers alone has = tt

  pub sound_store : (result : Result (Unit {0}) StoreFault) (rest now : Image) (buckets : Buckets D g) (n : ℕ) → n < 8
      → ((pages : List (List ℕ)) → IsOpenStore pages buckets
      → Brings pages n (first_of (chains_of buckets) n) (map.get (read_of (chains_of buckets)) n) result)
      → IsReadAnswer (is_broken (journal_of (chains_of buckets))) result → Has rest now buckets → IsSoundAnswer result
  sound_store (Ok value) rest now buckets n below answers alone has = tt
  sound_store (Err NotFormatted) rest now buckets n below answers alone has = absurd alone
  sound_store (Err NotEmpty) rest now buckets n below answers alone has = absurd alone
  sound_store (Err (BadStore at)) rest now buckets n below answers alone has =
      absurd (none_refused has.pages (kept_of (chains_of buckets)) rest.root has.strings has.opens.open_chains.keeps has.state n at
      (inr (omega (arith, below))) (answers has.pages has.opens).1)
  sound_store (Err DiskFault) rest now buckets n below answers alone has = tt
  sound_store (Err (StoreFull pages)) rest now buckets n below answers alone has = absurd alone
  sound_store (Err Broken) rest now buckets n below answers alone has =
      absurd (not_whole (is_broken (journal_of (chains_of buckets))) has.whole alone)
  sound_store (Err OutOfMemory) rest now buckets n below answers alone has = tt

-- a commit is refused by none of its chains
module _ (pages : List (List ℕ)) (kept : Kept) (old : Root) (strings : ℕ → List ℕ) (keeps : Keeps pages kept)
    (state : IsState old strings pages) where
  pub sound_writes : (result : Result (Unit {0}) StoreFault) (buckets limit : ℕ) (broken : Bool) → WritesBuckets pages kept buckets result
      → IsReadAnswer broken result → broken ≡ false → IsSoundCommit limit result
  sound_writes (Ok value) buckets limit broken answers alone whole = tt
  sound_writes (Err NotFormatted) buckets limit broken answers alone whole = absurd alone
  sound_writes (Err NotEmpty) buckets limit broken answers alone whole = absurd alone
  sound_writes (Err (BadStore at)) buckets limit broken answers alone whole =
      absurd (none_refused pages kept old strings keeps state answers.0 at (inr answers.1.1) answers.2)
  sound_writes (Err DiskFault) buckets limit broken answers alone whole = tt
  sound_writes (Err (StoreFull many)) buckets limit broken answers alone whole = absurd alone
  sound_writes (Err Broken) buckets limit broken answers alone whole = absurd (not_whole broken whole alone)
  sound_writes (Err OutOfMemory) buckets limit broken answers alone whole = tt

  pub sound_ends : (result : Result (Unit {0}) StoreFault) (root : Root) (written read before : Lists) (limit home : ℕ) (broken : Bool)
      → Ends pages kept root written read before limit home result → IsCommitAnswer broken limit result → broken ≡ false
      → IsSoundCommit limit result
  sound_ends (Ok value) root written read before limit home broken answers alone whole = tt
  sound_ends (Err NotFormatted) root written read before limit home broken answers alone whole = absurd alone
  sound_ends (Err NotEmpty) root written read before limit home broken answers alone whole = absurd alone
  sound_ends (Err (BadStore at)) root written read before limit home broken answers alone whole =
      absurd (none_refused pages kept old strings keeps state FREE at (inl (λ i. FREE)) answers)
  sound_ends (Err DiskFault) root written read before limit home broken answers alone whole = tt
  sound_ends (Err (StoreFull many)) root written read before limit home broken answers alone whole = alone.1
  sound_ends (Err Broken) root written read before limit home broken answers alone whole = absurd (not_whole broken whole alone)
  sound_ends (Err OutOfMemory) root written read before limit home broken answers alone whole = tt
