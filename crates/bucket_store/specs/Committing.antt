-- What a commit of buckets gives their chains.
use Rattle.std.specs.Prelude.{◌≡◌, ℕ, ◌+◌, ◌<◌, ◌≤◌, ◌||◌, false, List, length, Option, Some, None, Result, Ok, Err, OnOk, if◌then◌else◌}
use Rattle.std.specs.FinMap as map
use Rattle.bucket_records.specs.Records.{records_bytes}
use Rattle.chain_store.specs.Known.{Lists, own_or}
use Rattle.outside.specs.declared.disk.Disk.{Ghosts}
use Rattle.chain_store.specs.Chain.{HasPages}
use Rattle.chain_store.specs.Answers.{IsReadAnswer, Looked}
use Rattle.chain_store.specs.Chains.{disk_of, first_of, is_refused, journal_of, kept_of, root_of, written_of}
use Rattle.chain_store.specs.Ends.{Leaves}
use Rattle.chain_store.specs.Links.{page_in}
use Rattle.chain_store.specs.Store.{IsRefused, kept_first}
use Rattle.chain_store.specs.declared.chains.Chains.{Chains}
use Rattle.chain_store.specs.declared.kept.Kept.{Kept}
use Rattle.page_journal.specs.Answers.{HasDiskCause, answers_disk_fault}
use Rattle.page_journal.specs.Journal.{is_broken}
use Rattle.page_journal.specs.declared.fault.StoreFault.{StoreFault}
use Rattle.page_journal.specs.declared.fault.StoreFault.TheVariants.{BadStore, StoreFull}
use Rattle.bucket_store.specs.Buckets.{IsBucketChain}
use Rattle.bucket_store.specs.Cache.{CacheMap}
use Rattle.bucket_store.specs.declared.cache.Cached.{Cached}

-- the bytes that a chain is written with: those of its bucket, where that was changed, and else those before
abbrev pub after : Option Cached → Option (List ℕ) → Option (List ℕ)
after None before = before
after (Some own) before = if own.changed then Some (records_bytes (map.entries own.bucket.values)) else before

-- the bytes of each chain once these buckets and strings are written
abbrev pub given : (ℕ → List ℕ) → CacheMap → Lists → ℕ → List ℕ
given strings cache written n = own_or (after (map.get cache n) (map.get written n)) (strings n)

-- writing buckets to their chains may give this answer
abbrev pub WritesBuckets : List (List ℕ) → Kept → ℕ → Result (Unit {0}) StoreFault → Type 0
WritesBuckets pages kept buckets (Ok done) = Unit {0}
WritesBuckets pages kept buckets (Err (BadStore at)) = (n : ℕ) × IsBucketChain buckets n × IsRefused pages n (kept_first kept n) at
WritesBuckets pages kept buckets (Err _) = Unit {0}

-- a commit of buckets leaves so many home pages: what it writes are the changed buckets and the strings
pub record Fills {D : Type 0} {g : Ghosts D} (pages : List (List ℕ)) (chains : Chains D g) (cache : CacheMap) (home : ℕ) : Type 0 where
  pub written : Lists
  pub read : Lists
  pub before : Lists
  pub gives : (n : ℕ) → map.get written n ≡ after (map.get cache n) (map.get (written_of chains) n)
  pub known : (n : ℕ) (ns : List ℕ) → map.get read n ≡ Some ns → HasPages (page_in pages) (length pages + 1) n (first_of chains n) ns
  pub leaves : Leaves pages (kept_of chains) (root_of chains) written read before home

-- a commit of buckets may give this answer, of a store with this limit, and has so many home pages then
abbrev pub CommitsBuckets : {D : Type 0} {g : Ghosts D} → List (List ℕ) → Chains D g → CacheMap → ℕ → ℕ → Result (Unit {0}) StoreFault
    → Type 0
CommitsBuckets pages chains cache limit home (Ok done) = Fills pages chains cache home × (home ≤ limit)
CommitsBuckets pages chains cache limit home (Err (StoreFull many)) = Fills pages chains cache many × (limit < many)
CommitsBuckets pages chains cache limit home (Err (BadStore at)) = (n : ℕ) × IsRefused pages n (first_of chains n) at
CommitsBuckets pages chains cache limit home (Err _) = Unit {0}

-- what a call that gives chains their bytes leaves of the store under them, whatever it answers
pub record LeavesChains {D T : Type 0} {g : Ghosts D} (old new : Chains D g) (result : Result T StoreFault) : Type 0 where
  pub kept : kept_of new ≡ kept_of old
  pub root : root_of new ≡ root_of old
  pub going : OnOk result (is_refused new ≡ false)
  pub alone : IsReadAnswer (is_broken (journal_of old)) result
  pub looked : Looked (journal_of old) (journal_of new)
  pub broken : is_broken (journal_of new) ≡ (is_broken (journal_of old) || answers_disk_fault result)
  pub cause : HasDiskCause (disk_of old).faults (disk_of new).faults result
