-- What calls on the buckets of an open store find and set, and what each of them leaves alone.
use Rattle.std.specs.Prelude.{◌≡◌, ◌≢◌, ◌%◌, ◌≤◌, ◌||◌, ℕ, Bool, false, is_err, List, Option, None, Some, Result, Vec, IfOk, IsSome, OnOk}
use Rattle.std.specs.FinMap as map
use Rattle.std.specs.declared.alloc.Global.{Global}
use Rattle.outside.specs.declared.disk.Disk.{Ghosts}
use Rattle.page_journal.specs.Answers.{HasDiskCause, answers_disk_fault}
use Rattle.page_journal.specs.Journal.{is_broken}
use Rattle.page_journal.specs.declared.fault.StoreFault.{StoreFault}
use Rattle.chain_store.specs.Answers.{IsReadAnswer}
use Rattle.chain_store.specs.Chains.{Brings, Loads, OnlyRead, disk_of, first_of, journal_of, kept_of, read_of, root_of, written_of}
use Rattle.chain_store.specs.Directories.{root_in}
use Rattle.chain_store.specs.declared.root.Root.{Root}
use Rattle.bucket_records.specs.Records.{BucketMap}
use Rattle.bucket_store.specs.Image.{Has, Image, IsBucketOf, IsSoundAnswer, OnlyLooks, with_text, with_value}
use Rattle.bucket_store.specs.Reads.{MayReadChain, ReadsKeys}
use Rattle.bucket_store.specs.Transaction.{BringsBucket, Content, IsOpenStore, bucket_at, cached_of, chains_of, has_refused}
use Rattle.bucket_store.specs.Whole.{BringsMap, SameContents}
use Rattle.bucket_store.specs.declared.buckets.Buckets.{Buckets}

-- what a call that only reads the disk leaves of the store, whatever it answers; and what it has read once it succeeds
pub record LeavesStore {D T : Type 0} {g : Ghosts D} (Read : Type 0) (old new : Buckets D g) (result : Result T StoreFault) : Type 0 where
  pub opens : (pages : List (List ℕ)) → IsOpenStore pages old → IsOpenStore pages new
  pub alone : IsReadAnswer (is_broken (journal_of (chains_of old))) result
  pub stays : OnlyRead (chains_of old) (chains_of new)
  pub broken : is_broken (journal_of (chains_of new)) ≡ (is_broken (journal_of (chains_of old)) || answers_disk_fault result)
  pub reads : OnOk result Read
  pub refused : has_refused new ≡ is_err result
  pub cause : HasDiskCause (disk_of (chains_of old)).faults (disk_of (chains_of new)).faults result
  pub same : OnlyLooks old new

-- of a call that may read this chain; of a call on a key; of one that reads a map; and of one that reads no chain
abbrev pub TouchesChain : {D T : Type 0} {g : Ghosts D} → ℕ → Buckets D g → Buckets D g → Result T StoreFault → Type 0
TouchesChain n old new result = LeavesStore (MayReadChain n old new) old new result

abbrev pub Touches : {D T : Type 0} {g : Ghosts D} → ℕ → ℕ → Buckets D g → Buckets D g → Result T StoreFault → Type 0
Touches which key old new result = TouchesChain (bucket_at old which key) old new result

abbrev pub TouchesMap : {D T : Type 0} {g : Ghosts D} → ℕ → Buckets D g → Buckets D g → Result T StoreFault → Type 0
TouchesMap which old new result = LeavesStore (ReadsKeys (λ m key. m ≡ which) old new) old new result

abbrev pub TouchesNone : {D T : Type 0} {g : Ghosts D} → Buckets D g → Buckets D g → Result T StoreFault → Type 0
TouchesNone old new result = LeavesStore (read_of (chains_of new) ≡ read_of (chains_of old)) old new result

-- what a call that gives a string its bytes leaves of the store, whatever it answers: all but that string
pub record TouchesText {D T : Type 0} {g : Ghosts D} (n : ℕ) (old new : Buckets D g) (result : Result T StoreFault) : Type 0 where
  pub opens : (pages : List (List ℕ)) → IsOpenStore pages old → IsOpenStore pages new
  pub content : (pages : List (List ℕ)) → IsOpenStore pages old → (other : ℕ) (values : BucketMap) → 16 ≤ other
      → Content pages old other values
      → Content pages new other values
  pub cached : cached_of new ≡ cached_of old
  pub root : root_of (chains_of new) ≡ root_of (chains_of old)
  pub alone : IsReadAnswer (is_broken (journal_of (chains_of old))) result
  pub broken : is_broken (journal_of (chains_of new)) ≡ (is_broken (journal_of (chains_of old)) || answers_disk_fault result)
  pub reads : OnOk result (MayReadChain n old new)
  pub refused : has_refused new ≡ is_err result
  pub cause : HasDiskCause (disk_of (chains_of old)).faults (disk_of (chains_of new)).faults result
  pub same : OnlyLooks old new

-- the transaction has what it had
pub record KeepsContent {D T : Type 0} {g : Ghosts D} (old new : Buckets D g) (result : Result T StoreFault) : Type 0 where
  pub content : (pages : List (List ℕ)) → IsOpenStore pages old → (other : ℕ) (values : BucketMap) → Content pages old other values
      → Content pages new other values
  pub has : answers_disk_fault result ≡ false → (rest now : Image) → Has rest now old → Has rest now new

-- what a call that brings the bucket of a chain does: it is there then, with the records that it had
pub record BringsChain {D : Type 0} {g : Ghosts D} (n : ℕ) (old new : Buckets D g) (result : Result (Unit {0}) StoreFault) : Type 0 where
  pub there : OnOk result (IsSome (map.get (cached_of new) n))
  pub had : OnOk result ((pages : List (List ℕ)) → IsOpenStore pages old → (values : BucketMap) × Content pages old n values)
  pub answers : (pages : List (List ℕ)) → IsOpenStore pages old → BringsBucket pages old n result
  pub sound : (rest now : Image) → Has rest now old → IsSoundAnswer result
  pub keeps : KeepsContent old new result

-- and with what it leaves: all buckets are as they were
pub record BringsOnly {D : Type 0} {g : Ghosts D} (n : ℕ) (old new : Buckets D g) (result : Result (Unit {0}) StoreFault) : Type 0 where
  pub brings : BringsChain n old new result
  pub contents : OnOk result (SameContents old new)
  pub touches : TouchesChain n old new result

-- what a call that brings the bucket of a key does
abbrev pub BringsThere : {D : Type 0} {g : Ghosts D} → ℕ → ℕ → Buckets D g → Buckets D g → Result (Unit {0}) StoreFault → Type 0
BringsThere which key old new result = BringsChain (bucket_at old which key) old new result

-- what a call that gets the bytes of a key does
pub record GetsBytes {D : Type 0} {g : Ghosts D} (which key : ℕ) (old new : Buckets D g)
    (result : Result (Option (List ℕ)) StoreFault) : Type 0 where
  pub value : IfOk result (λ bytes. (pages : List (List ℕ)) → IsOpenStore pages old → (values : BucketMap)
      → Content pages old (bucket_at old which key) values → bytes ≡ map.get values key)
  pub found : IfOk result (λ bytes. (rest now : Image) → Has rest now old → bytes ≡ map.get (now.maps which) key)
  pub answers : (pages : List (List ℕ)) → IsOpenStore pages old → BringsBucket pages old (bucket_at old which key) result
  pub sound : (rest now : Image) → Has rest now old → IsSoundAnswer result
  pub keeps : KeepsContent old new result

-- what a call that gets the records of the bucket of a key does
pub record GetsRecords {D : Type 0} {g : Ghosts D} (which key : ℕ) (old new : Buckets D g)
    (result : Result (Vec (ℕ × List ℕ) Global) StoreFault) : Type 0 where
  pub value : IfOk result (λ records. (pages : List (List ℕ)) → IsOpenStore pages old → (values : BucketMap)
      → Content pages old (bucket_at old which key) values → records.items ≡ map.entries values)
  pub found : IfOk result (λ records. (rest now : Image) → Has rest now old → IsBucketOf now which (key % now.root.buckets) records.items)
  pub answers : (pages : List (List ℕ)) → IsOpenStore pages old → BringsBucket pages old (bucket_at old which key) result
  pub sound : (rest now : Image) → Has rest now old → IsSoundAnswer result
  pub keeps : KeepsContent old new result

-- what a call that reads a map whole does
pub record GetsMap {D : Type 0} {g : Ghosts D} (which : ℕ) (old new : Buckets D g) (result : Result BucketMap StoreFault) : Type 0 where
  pub value : IfOk result (λ whole. (pages : List (List ℕ)) → IsOpenStore pages old → (key : ℕ) (values : BucketMap)
      → Content pages old (bucket_at old which key) values → map.get whole key ≡ map.get values key)
  pub found : IfOk result (λ whole. (rest now : Image) → Has rest now old → whole ≡ now.maps which)
  pub answers : (pages : List (List ℕ)) → IsOpenStore pages old → BringsMap pages old which result
  pub sound : (rest now : Image) → Has rest now old → IsSoundAnswer result
  pub keeps : KeepsContent old new result

-- what a call that gets the bytes of a string does
pub record GetsText {D : Type 0} {g : Ghosts D} (n : ℕ) (old new : Buckets D g) (result : Result (List ℕ) StoreFault) : Type 0 where
  pub found : IfOk result (λ bytes. (rest now : Image) → Has rest now old → bytes ≡ now.texts n)
  pub answers : (pages : List (List ℕ)) → IsOpenStore pages old
      → Loads pages n (first_of (chains_of old) n) (map.get (written_of (chains_of old)) n) result
  pub sound : (rest now : Image) → Has rest now old → IsSoundAnswer result
  pub keeps : KeepsContent old new result

-- what a call that gives a string these bytes does
pub record SetsText {D : Type 0} {g : Ghosts D} (n : ℕ) (bytes : List ℕ) (old new : Buckets D g)
    (result : Result (Unit {0}) StoreFault) : Type 0 where
  pub written : OnOk result (written_of (chains_of new) ≡ map.insert (written_of (chains_of old)) n bytes)
  pub answers : (pages : List (List ℕ)) → IsOpenStore pages old
      → Brings pages n (first_of (chains_of old) n) (map.get (read_of (chains_of old)) n) result
  pub has : OnOk result ((rest now : Image) → Has rest now old → Has rest (with_text n bytes now) new)
  pub sound : (rest now : Image) → Has rest now old → IsSoundAnswer result

-- what a call that sets a value does: these are its bytes
pub record SetsValue {D : Type 0} {g : Ghosts D} (which key : ℕ) (bytes : List ℕ) (old new : Buckets D g)
    (result : Result (Unit {0}) StoreFault) : Type 0 where
  pub answers : (pages : List (List ℕ)) → IsOpenStore pages old → BringsBucket pages old (bucket_at old which key) result
  pub here : OnOk result ((pages : List (List ℕ)) → IsOpenStore pages old → (values : BucketMap)
      → Content pages old (bucket_at old which key) values
      → Content pages new (bucket_at old which key) (map.insert values key bytes))
  pub others : OnOk result ((pages : List (List ℕ)) → IsOpenStore pages old → (other : ℕ) (values : BucketMap)
      → other ≢ bucket_at old which key → Content pages old other values → Content pages new other values)
  pub has : OnOk result ((rest now : Image) → Has rest now old → Has rest (with_value which key (Some bytes) now) new)
  pub sound : (rest now : Image) → Has rest now old → IsSoundAnswer result

-- what a call that takes a value out does, and whether it was there
pub record TakesValue {D : Type 0} {g : Ghosts D} (which key : ℕ) (old new : Buckets D g) (result : Result Bool StoreFault) : Type 0 where
  pub answers : (pages : List (List ℕ)) → IsOpenStore pages old → BringsBucket pages old (bucket_at old which key) result
  pub here : IfOk result (λ was. (pages : List (List ℕ)) → IsOpenStore pages old → (values : BucketMap)
      → Content pages old (bucket_at old which key) values → (was ≡ map.contains_key values key)
      × Content pages new (bucket_at old which key) (map.remove values key))
  pub others : OnOk result ((pages : List (List ℕ)) → IsOpenStore pages old → (other : ℕ) (values : BucketMap)
      → other ≢ bucket_at old which key → Content pages old other values → Content pages new other values)
  pub has : IfOk result (λ was. (rest now : Image) → Has rest now old
      → (was ≡ map.contains_key (now.maps which) key) × Has rest (with_value which key None now) new)
  pub sound : (rest now : Image) → Has rest now old → IsSoundAnswer result

-- buckets are changed in memory alone
pub record ChangesMemory {D T E : Type 0} {g : Ghosts D} (old new : Buckets D g) (result : Result T E) : Type 0 where
  pub opens : (pages : List (List ℕ)) → IsOpenStore pages old → IsOpenStore pages new
  pub chains : chains_of new ≡ chains_of old
  pub refused : has_refused new ≡ is_err result

-- the transaction gives the store these fields, and all else is as it was
pub record SetsFields {D : Type 0} {g : Ghosts D} (fields : Root) (old new : Buckets D g) : Type 0 where
  pub root : root_of (chains_of new) ≡ fields
  pub opens : (pages : List (List ℕ)) → IsOpenStore pages old → IsOpenStore pages new
  pub cached : cached_of new ≡ cached_of old
  pub journal : journal_of (chains_of new) ≡ journal_of (chains_of old)
  pub kept : kept_of (chains_of new) ≡ kept_of (chains_of old)
  pub read : read_of (chains_of new) ≡ read_of (chains_of old)
  pub written : written_of (chains_of new) ≡ written_of (chains_of old)
  pub going : has_refused new ≡ false
  pub same : OnlyLooks old new

-- the transaction has read and changed nothing: its fields are those of the store
pub record IsBegun {D : Type 0} {g : Ghosts D} (buckets : Buckets D g) : Type 0 where
  pub none : cached_of buckets ≡ map.empty
  pub read : read_of (chains_of buckets) ≡ map.empty
  pub written : written_of (chains_of buckets) ≡ map.empty
  pub root : root_of (chains_of buckets) ≡ root_in (kept_of (chains_of buckets)).front.items
