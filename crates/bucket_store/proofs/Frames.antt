-- What a call leaves and keeps, by what the calls below it do.
use Rattle.std.proofs.Common.{◌≡◌, ◌≢◌, ◌*◌, ◌≤◌, ◌||◌, inl, ℕ, Bool, true, false, List, None, Result, Ok, Err, refl, sym, ap, subst, ◌∙◌}
use Rattle.std.proofs.Common.{arith}
use Rattle.std.specs.FinMap as map
use Rattle.std.specs.Option.{MatchOption}
use Rattle.std.specs.Result.{IsErrOf, OnOk, is_err}
use Rattle.outside.specs.declared.disk.Disk.{Ghosts}
use Rattle.page_journal.specs.Answers.{HasDiskCause, answers_disk_fault}
use Rattle.page_journal.specs.Journal.{home_count, is_broken, view_of}
use Rattle.page_journal.specs.declared.journal.Journal.{Journal}
use Rattle.page_journal.specs.declared.fault.StoreFault.{StoreFault}
use Rattle.page_journal.specs.declared.fault.StoreFault.TheVariants as refusals
use Rattle.page_journal.specs.declared.layout.TheConstants.{PAGE_LEN}
use Rattle.page_journal.proofs.ReadCounts.{reads_none}
use Rattle.chain_store.specs.Answers.{IsReadAnswer, Looked}
use Rattle.chain_store.specs.Chains.{IsOpen, OnlyRead, disk_of, journal_of, kept_of, read_of}
use Rattle.chain_store.specs.Known.{MayRead}
use Rattle.chain_store.specs.declared.chains.Chains.{Chains}
use Rattle.chain_store.proofs.Looks.{looked_same}
use Rattle.bucket_records.specs.Records.{BucketMap}
use Rattle.bucket_store.specs.Buckets.{IsBadChain, ReadsBucket, Stored, bucket_count, chain_at}
use Rattle.bucket_store.specs.Cache.{CacheMap}
use Rattle.bucket_store.specs.Calls.{BringsThere, KeepsContent, LeavesStore, SetsValue, TakesValue, TouchesChain}
use Rattle.bucket_store.specs.Image.{Has, Image, OnlyLooks, with_value}
use Rattle.bucket_store.specs.Reads.{MayReadChain}
use Rattle.bucket_store.specs.Transaction.{BringsBucket, Content, IsOpenStore, IsOpenWith, bucket_at, cached_of, chains_of, has_refused}
use Rattle.bucket_store.specs.declared.buckets.Buckets.{Buckets}
use Rattle.bucket_store.proofs.Caches.{on_ok}
use Rattle.bucket_store.proofs.Holding.{looks_same}
use Rattle.bucket_store.proofs.Openings.{match_later, open_later}
use Rattle.bucket_store.proofs.TypedLaws.{at_same, content_kept, has_read, has_same, opens_same, read_same}

-- an answer of one call, told as one of another
ok_of : {T E : Type 0} (result : Result T E) (P : Type 0) → P → OnOk result P
ok_of (Ok value) P holds = holds
ok_of (Err error) P holds = tt

pub alone_of : (T U : Type 0) (broken : Bool) (fault : StoreFault) → IsReadAnswer {T = T} broken (Err fault)
    → IsReadAnswer {T = U} broken (Err fault)
alone_of T U broken refusals.NotFormatted is = is
alone_of T U broken refusals.NotEmpty is = is
alone_of T U broken (refusals.BadStore page) is = is
alone_of T U broken refusals.DiskFault is = is
alone_of T U broken (refusals.StoreFull pages) is = is
alone_of T U broken refusals.Broken is = is
alone_of T U broken refusals.OutOfMemory is = is

pub fault_is : (T : Type 0) (one other : StoreFault) → IsErrOf {T = T} (Err one) other → one ≡ other
fault_is T one other same = ap (λ (r : Result T StoreFault). elim r [ Ok value ↦ one | Err fault ↦ fault ]) same

pub err_of : (T U : Type 0) (one other : StoreFault) → IsErrOf {T = T} (Err one) other → IsErrOf {T = U} (Err one) other
err_of T U one other same = ap (λ (fault : StoreFault). Err fault) (fault_is T one other same)

pub cause_of : (T U : Type 0) (before now : ℕ) (fault : StoreFault) → HasDiskCause {T = T} before now (Err fault)
    → HasDiskCause {T = U} before now (Err fault)
cause_of T U before now fault cause = record {
  later = cause.later;
  failed =
      λ failed. cause.failed (err_of U T fault refusals.DiskFault failed);
}

-- an answer that is not of the disk
quiet_fails : {T : Type 0} (result : Result T StoreFault) → answers_disk_fault result ≡ false → IsErrOf result refusals.DiskFault → ⊥
quiet_fails {T} result quiet is =
    absurd (let told : true ≡ false = sym (ap (λ (r : Result T StoreFault). answers_disk_fault r) is) ∙ quiet in cc (told))

pub quiet_cause : {T : Type 0} (before now : ℕ) (result : Result T StoreFault) → answers_disk_fault result ≡ false → before ≤ now
    → HasDiskCause before now result
quiet_cause before now result quiet later = record { later = later; failed = λ is. absurd (quiet_fails result quiet is) }

pub or_none : (b : Bool) → b ≡ (b || false)
or_none true = refl
or_none false = refl

module _ {D : Type 0} {g : Ghosts D} where
  -- a bucket that does not read is not brought
  pub brings_read : (pages : List (List ℕ)) (buckets : Buckets D g) (n : ℕ) (fault : StoreFault) → map.get (cached_of buckets) n ≡ None
      → ReadsBucket pages (chains_of buckets) n (Err fault) → BringsBucket {T = Unit {0}} pages buckets n (Err fault)
  brings_read pages buckets n refusals.NotFormatted none is = tt
  brings_read pages buckets n refusals.NotEmpty none is = tt
  brings_read pages buckets n (refusals.BadStore page) none is = (none, is)
  brings_read pages buckets n refusals.DiskFault none is = tt
  brings_read pages buckets n (refusals.StoreFull many) none is = tt
  brings_read pages buckets n refusals.Broken none is = tt
  brings_read pages buckets n refusals.OutOfMemory none is = tt

  -- a call that only reads
  pub leaves_read : {T : Type 0} (Read : Type 0) (old new : Buckets D g) (result : Result T StoreFault)
      → OnlyRead (chains_of old) (chains_of new)
      → ((pages : List (List ℕ)) → IsOpenStore pages old → IsOpenStore pages new)
      → IsReadAnswer (is_broken (journal_of (chains_of old))) result
      → is_broken (journal_of (chains_of new)) ≡ (is_broken (journal_of (chains_of old)) || answers_disk_fault result) → OnOk result Read
      → has_refused new ≡ is_err result → HasDiskCause (disk_of (chains_of old)).faults (disk_of (chains_of new)).faults result
      → LeavesStore Read old new result
  leaves_read Read old new result stays opens alone broken reads refused cause = record {
    opens = opens;
    alone = alone;
    stays = stays;
    broken = broken;
    reads = reads;
    refused = refused;
    cause = cause;
    same = record { looked = stays.looked; kept = stays.kept; later = cause.later };
  }

  pub keeps_read : {T : Type 0} (old new : Buckets D g) (result : Result T StoreFault) → OnlyRead (chains_of old) (chains_of new)
      → ((pages : List (List ℕ)) → IsOpenStore pages old → IsOpenStore pages new)
      → is_broken (journal_of (chains_of new)) ≡ (is_broken (journal_of (chains_of old)) || answers_disk_fault result)
      → ((pages : List (List ℕ)) → IsOpenStore pages old → (other : ℕ) (values : BucketMap) → Content pages old other values
      → Content pages new other values)
      → KeepsContent old new result
  keeps_read old new result stays opens broken content =
      record { content = content; has = has_read old new result stays broken opens content }

  -- and reads no bucket
  opens_low : (old new : Buckets D g) → cached_of new ≡ cached_of old → OnlyRead (chains_of old) (chains_of new)
      → ((pages : List (List ℕ)) → IsOpen pages (chains_of old) → IsOpen pages (chains_of new))
      → (pages : List (List ℕ)) → IsOpenStore pages old → IsOpenStore pages new
  opens_low old new same stays opened pages was =
      subst (λ (m : CacheMap). IsOpenWith pages (chains_of new) m) (sym same)
      (open_later pages (chains_of old) (chains_of new) (cached_of old) stays (opened pages was.open_chains) was)

  pub leaves_low : {T : Type 0} (Read : Type 0) (old new : Buckets D g) (result : Result T StoreFault) → cached_of new ≡ cached_of old
      → OnlyRead (chains_of old) (chains_of new) → ((pages : List (List ℕ)) → IsOpen pages (chains_of old) → IsOpen pages (chains_of new))
      → IsReadAnswer (is_broken (journal_of (chains_of old))) result
      → is_broken (journal_of (chains_of new)) ≡ (is_broken (journal_of (chains_of old)) || answers_disk_fault result) → OnOk result Read
      → has_refused new ≡ is_err result → HasDiskCause (disk_of (chains_of old)).faults (disk_of (chains_of new)).faults result
      → LeavesStore Read old new result
  leaves_low Read old new result same stays opened = leaves_read Read old new result stays (opens_low old new same stays opened)

  pub keeps_low : {T : Type 0} (old new : Buckets D g) (result : Result T StoreFault) → cached_of new ≡ cached_of old
      → OnlyRead (chains_of old) (chains_of new)
      → ((pages : List (List ℕ)) → IsOpen pages (chains_of old) → IsOpen pages (chains_of new))
      → is_broken (journal_of (chains_of new)) ≡ (is_broken (journal_of (chains_of old)) || answers_disk_fault result)
      → KeepsContent old new result
  keeps_low old new result same stays opened broken =
      keeps_read old new result stays (opens_low old new same stays opened) broken
      (λ pages was n values has. subst (λ (m : CacheMap).
      MatchOption (map.get m n) (Stored pages (chains_of new) n values) (λ it. it.bucket.values ≡ values)) (sym same)
      (match_later (map.get (cached_of old) n) pages (chains_of old) (chains_of new) n values stays has))

  -- the fields alone are others
  pub looks_fields : (old new : Buckets D g) → journal_of (chains_of new) ≡ journal_of (chains_of old)
      → kept_of (chains_of new) ≡ kept_of (chains_of old)
      → OnlyLooks old new
  looks_fields old new journal kept = record {
    looked = subst (λ (j : Journal D g). Looked (journal_of (chains_of old)) j) (sym journal) (looked_same (journal_of (chains_of old)));
    kept = kept;
    later = omega (arith, ap (λ (j : Journal D g). (view_of j).faults) journal);
  }

  -- nothing is done
  pub touches_none : {T : Type 0} (n : ℕ) (buckets : Buckets D g) (value : T) → has_refused buckets ≡ false
      → TouchesChain n buckets buckets (Ok value)
  touches_none n buckets value going = record {
    opens = λ pages was. was;
    alone = tt;
    stays = read_same buckets buckets refl;
    broken = or_none (is_broken (journal_of (chains_of buckets)));
    reads = inl (
      refl,
      reads_none 0 (PAGE_LEN * home_count (journal_of (chains_of buckets))) (disk_of (chains_of buckets)).reads
          (disk_of (chains_of buckets)).reads refl,
    );
    refused = going;
    cause = quiet_cause (disk_of (chains_of buckets)).faults (disk_of (chains_of buckets)).faults (Ok value) refl (omega arith);
    same = looks_same buckets;
  }

  pub keeps_same : {T : Type 0} (buckets : Buckets D g) (result : Result T StoreFault) → KeepsContent buckets buckets result
  keeps_same buckets result = record { content = λ pages was other values has. has; has = λ quiet rest now had. had }

  -- what was brought is changed in memory, or there is none
  pub touches_after : {T U : Type 0} (n : ℕ) (old mid new : Buckets D g) (value : T) (result : Result U StoreFault)
      → TouchesChain n old mid (Ok value)
      → chains_of new ≡ chains_of mid → ((pages : List (List ℕ)) → IsOpenStore pages mid → IsOpenStore pages new)
      → has_refused new ≡ is_err result
      → IsReadAnswer (is_broken (journal_of (chains_of old))) result → answers_disk_fault result ≡ false → TouchesChain n old new result
  touches_after n old mid new value result touches chains opens refused alone quiet = record {
    opens = λ pages was. opens pages (touches.opens pages was);
    alone = alone;
    stays = subst (λ (c : Chains D g). OnlyRead (chains_of old) c) (sym chains) touches.stays;
    broken = ap (λ (c : Chains D g). is_broken (journal_of c)) chains ∙ touches.broken
        ∙ ap (λ (b : Bool). is_broken (journal_of (chains_of old)) || b) (sym quiet);
    reads = ok_of result (MayReadChain n old new)
        (subst (λ (c : Chains D g). MayRead (PAGE_LEN * home_count (journal_of (chains_of old))) n (read_of (chains_of old)) (read_of c)
        (disk_of (chains_of old)) (disk_of c)) (sym chains) touches.reads);
    refused = refused;
    cause = quiet_cause (disk_of (chains_of old)).faults (disk_of (chains_of new)).faults result quiet
        (subst (λ (c : Chains D g). (disk_of (chains_of old)).faults ≤ (disk_of c).faults) (sym chains) touches.cause.later);
    same = record {
      looked = subst (λ (c : Chains D g). Looked (journal_of (chains_of old)) (journal_of c)) (sym chains) touches.same.looked;
      kept = ap (λ (c : Chains D g). kept_of c) chains ∙ touches.same.kept;
      later = subst (λ (c : Chains D g). (disk_of (chains_of old)).faults ≤ (disk_of c).faults) (sym chains) touches.same.later;
    };
  }

  pub keeps_after : {T U : Type 0} (old mid new : Buckets D g) (value : T) (result : Result U StoreFault) → KeepsContent old mid (Ok value)
      → chains_of new ≡ chains_of mid → cached_of new ≡ cached_of mid → KeepsContent old new result
  keeps_after old mid new value result keeps chains cached = record {
    content = λ pages was other values had. content_kept mid new chains cached pages other values
        (keeps.content pages was other values had);
    has = λ quiet rest now had. has_same mid new chains cached rest now (keeps.has refl rest now had);
  }

  -- a key's bucket, once it is brought, is where it was, with what it had
  pub content_at : (which key : ℕ) (old mid : Buckets D g) → OnlyRead (chains_of old) (chains_of mid)
      → ((pages : List (List ℕ)) → IsOpenStore pages old → (other : ℕ) (values : BucketMap) → Content pages old other values
      → Content pages mid other values)
      → (pages : List (List ℕ)) → IsOpenStore pages old → (values : BucketMap) → Content pages old (bucket_at old which key) values
      → Content pages mid (bucket_at mid which key) values
  content_at which key old mid stays content pages was values has =
      subst (λ (n : ℕ). Content pages mid n values) (sym (at_same old mid which key stays))
      (content pages was (bucket_at old which key) values has)

  -- then its value is taken out
  module _ (which key : ℕ) (old mid new : Buckets D g) {unit : Unit {0}}
      (touches : TouchesChain (bucket_at old which key) old mid (Ok unit))
      (brings : BringsThere which key old mid (Ok unit)) where
    others_then : ((pages : List (List ℕ)) → IsOpenStore pages mid → (other : ℕ) (values : BucketMap) → other ≢ bucket_at mid which key
        → Content pages mid other values → Content pages new other values)
        → (pages : List (List ℕ)) → IsOpenStore pages old → (other : ℕ) (values : BucketMap) → other ≢ bucket_at old which key
        → Content pages old other values → Content pages new other values
    others_then others pages was other values apart has =
        others pages (touches.opens pages was) other values (λ same. apart (same ∙ at_same old mid which key touches.stays))
        (brings.keeps.content pages was other values has)

    pub takes_then : (was : Bool) → ((pages : List (List ℕ)) → IsOpenStore pages mid → (values : BucketMap)
        → Content pages mid (bucket_at mid which key) values
        → (was ≡ map.contains_key values key) × Content pages new (bucket_at mid which key) (map.remove values key))
        → ((pages : List (List ℕ)) → IsOpenStore pages mid → (other : ℕ) (values : BucketMap) → other ≢ bucket_at mid which key
        → Content pages mid other values → Content pages new other values)
        → ((rest now : Image) → Has rest now mid
        → (was ≡ map.contains_key (now.maps which) key) × Has rest (with_value which key None now) new)
        → TakesValue which key old new (Ok was)
    takes_then was taken others has = record {
      answers = λ pages opened. tt;
      here = λ pages opened values had.
          let one = taken pages (touches.opens pages opened) values
          (content_at which key old mid touches.stays brings.keeps.content pages opened values had) in
          (one.0, subst (λ (n : ℕ). Content pages new n (map.remove values key)) (at_same old mid which key touches.stays) one.1);
      others = others_then others;
      has = λ rest now had. has rest now (brings.keeps.has refl rest now had);
      sound = λ rest now had. tt;
    }

  -- a call on a transaction with the same chains and the same buckets is one on this
  module _ {T : Type 0} (old mid new : Buckets D g) (result : Result T StoreFault) (chains : chains_of mid ≡ chains_of old)
      (cached : cached_of mid ≡ cached_of old) where
    -- a bucket is refused for what was there
    bad_same : (pages : List (List ℕ)) (n : ℕ) (answer : Result T StoreFault) → BringsBucket pages mid n answer
        → BringsBucket pages old n answer
    bad_same pages n (Ok value) is = tt
    bad_same pages n (Err refusals.NotFormatted) is = tt
    bad_same pages n (Err refusals.NotEmpty) is = tt
    bad_same pages n (Err (refusals.BadStore page)) is =
        (ap (λ (m : CacheMap). map.get m n) (sym cached) ∙ is.0, subst (λ (c : Chains D g). IsBadChain pages c n page) chains is.1)
    bad_same pages n (Err refusals.DiskFault) is = tt
    bad_same pages n (Err (refusals.StoreFull many)) is = tt
    bad_same pages n (Err refusals.Broken) is = tt
    bad_same pages n (Err refusals.OutOfMemory) is = tt

    pub answers_same : (n other : ℕ) → n ≡ other → ((pages : List (List ℕ)) → IsOpenStore pages mid → BringsBucket pages mid n result)
        → (pages : List (List ℕ)) → IsOpenStore pages old → BringsBucket pages old other result
    answers_same n other at answers pages was =
        subst (λ (k : ℕ). BringsBucket pages old k result) at
        (bad_same pages n result (answers pages (opens_same old mid chains cached pages was)))

  pub sets_same : (which key : ℕ) (bytes : List ℕ) (old mid new : Buckets D g) (result : Result (Unit {0}) StoreFault)
      → chains_of mid ≡ chains_of old
      → cached_of mid ≡ cached_of old → SetsValue which key bytes mid new result → SetsValue which key bytes old new result
  sets_same which key bytes old mid new result chains cached sets =
      let at = ap (λ (c : Chains D g). chain_at (bucket_count c) which key) chains in
      record {
        answers = answers_same old mid new result chains cached (bucket_at mid which key) (bucket_at old which key) at sets.answers;
        here = on_ok result _ _ sets.here (λ here pages was values had.
            subst (λ (n : ℕ). Content pages new n (map.insert values key bytes)) at
            (here pages (opens_same old mid chains cached pages was) values
            (subst (λ (n : ℕ). Content pages mid n values) (sym at)
            (content_kept old mid chains cached pages (bucket_at old which key) values had))));
        others = on_ok result _ _ sets.others (λ others pages was other values apart had.
            others pages (opens_same old mid chains cached pages was) other values (λ same. apart (same ∙ at))
            (content_kept old mid chains cached pages other values had));
        has = on_ok result _ _ sets.has (λ has rest now had. has rest now (has_same old mid chains cached rest now had));
        sound = λ rest now had. sets.sound rest now (has_same old mid chains cached rest now had);
      }
