-- What calls leave of a store, one call after another.
use Rattle.std.proofs.Common.{◌≡◌, ◌≤◌, ℕ, Bool, true, false, ◌||◌, List, Result, Ok, Err, IfErr, refl, sym, ap, subst, ◌∙◌, arith}
use Rattle.std.specs.FinMap as map
use Rattle.std.specs.Option.{MatchOption}
use Rattle.outside.specs.declared.disk.Disk.{Ghosts}
use Rattle.page_journal.specs.Answers.{answers_disk_fault}
use Rattle.page_journal.specs.Journal.{is_broken}
use Rattle.page_journal.specs.declared.fault.StoreFault.{StoreFault}
use Rattle.page_journal.specs.declared.fault.StoreFault.TheVariants.{NotFormatted, NotEmpty, BadStore, DiskFault, StoreFull, Broken}
use Rattle.page_journal.specs.declared.fault.StoreFault.TheVariants.{OutOfMemory}
use Rattle.chain_store.specs.Answers.{IsReadAnswer}
use Rattle.chain_store.specs.Chains.{OnlyRead, disk_of, journal_of}
use Rattle.chain_store.specs.declared.chains.Chains.{Chains}
use Rattle.chain_store.specs.declared.root.Root.{Root}
use Rattle.chain_store.specs.Store.{kept_first}
use Rattle.bucket_records.specs.Records.{BucketMap}
use Rattle.bucket_store.specs.Buckets.{Stored, bucket_count, chain_at}
use Rattle.bucket_store.specs.Cache.{CacheMap}
use Rattle.bucket_store.specs.Image.{Has, Image, IsSoundAnswer}
use Rattle.bucket_store.specs.Transaction.{Content, IsOpenStore, IsOpenWith, IsReady, cached_of, chains_of, has_refused}
use Rattle.bucket_store.specs.Typed.{refusal_of}
use Rattle.bucket_store.proofs.Holding.{has_later}
use Rattle.bucket_store.specs.declared.buckets.Buckets.{Buckets}
use Rattle.value_bytes.specs.declared.fault.ValueFault.{ValueFault}
use Rattle.value_bytes.specs.declared.fault.ValueFault.TheVariants as faults
use Rattle.back_index.specs.Calls.{IsAnswered, Marks, page_in}
use Rattle.back_index.specs.Asking.{read_same, read_then, rose_later}
use Rattle.back_index.specs.Visits.{Refuses}

or_none : (b : Bool) → (b || false) ≡ b
or_none true = refl
or_none false = refl

module _ {D : Type 0} {g : Ghosts D} where
  -- no call has been refused so far
  abbrev pub StillAnswers : Buckets D g → Buckets D g → Type 0
  StillAnswers old new = IsAnswered {T = Unit {0}} old new (Ok tt)

  -- answers, one call after another
  pub answers_none : {T : Type 0} (buckets : Buckets D g) (value : T) → has_refused buckets ≡ false → IsAnswered buckets buckets (Ok value)
  answers_none buckets value going = record {
    stays = read_same (chains_of buckets);
    alone = tt;
    broken = sym (or_none (is_broken (journal_of (chains_of buckets))));
    refused = going;
    cause = record { later = omega arith; failed = λ is. absurd (cc) };
  }

  pub answers_then : {S T : Type 0} (old mid new : Buckets D g) (value : S) (result : Result T StoreFault) → IsAnswered old mid (Ok value)
      → IsAnswered mid new result
      → IsAnswered old new result
  answers_then old mid new value result first second =
      let same : is_broken (journal_of (chains_of mid)) ≡ is_broken (journal_of (chains_of old)) =
      first.broken ∙ or_none (is_broken (journal_of (chains_of old))) in
      record {
        stays = read_then (chains_of old) (chains_of mid) (chains_of new) first.stays second.stays;
        alone = subst (λ b. IsReadAnswer b result) same second.alone;
        broken = second.broken ∙ ap (λ b. b || answers_disk_fault result) same;
        refused = second.refused;
        cause = record {
          later = omega (arith, first.cause.later, second.cause.later);
          failed = λ is. rose_later (disk_of (chains_of old)).faults (disk_of (chains_of mid)).faults
              (disk_of (chains_of new)).faults first.cause.later (second.cause.failed is);
        };
      }

  -- the same of a call that gives another value
  pub answers_ok : {S T : Type 0} (old new : Buckets D g) (one : S) (other : T) → IsAnswered old new (Ok one) → IsAnswered old new (Ok other)
  answers_ok old new one other first = record {
    stays = first.stays;
    alone = tt;
    broken = first.broken;
    refused = first.refused;
    cause = record { later = first.cause.later; failed = λ is. absurd (cc) };
  }

  -- a call that is refused for a value
  pub answers_marks : {S T : Type 0} (old mid new : Buckets D g) (value : S) (fault : ValueFault) (page : ℕ) → IsAnswered old mid (Ok value)
      → Marks mid new
      → IsAnswered {T = T} old new (Err (refusal_of fault page))
  answers_marks {S} {T} old mid new value fault page first marks =
      answers_then old mid new value (Err (refusal_of fault page)) first (marked fault)
    where
      sames : Chains D g
      sames = chains_of mid

      marked : (fault : ValueFault) → IsAnswered {T = T} mid new (Err (refusal_of fault page))
      marked faults.NotSpelled = record {
        stays = subst (OnlyRead (chains_of mid)) (sym marks.chains) (read_same (chains_of mid));
        alone = tt;
        broken = ap (λ c. is_broken (journal_of c)) marks.chains ∙ sym (or_none (is_broken (journal_of (chains_of mid))));
        refused = marks.refused;
        cause = record { later = omega (arith, ap (λ (c : Chains D g). (disk_of c).faults) marks.chains); failed = λ is. absurd (cc) };
      }
      marked faults.OutOfMemory = record {
        stays = subst (OnlyRead (chains_of mid)) (sym marks.chains) (read_same (chains_of mid));
        alone = tt;
        broken = ap (λ c. is_broken (journal_of c)) marks.chains ∙ sym (or_none (is_broken (journal_of (chains_of mid))));
        refused = marks.refused;
        cause = record { later = omega (arith, ap (λ (c : Chains D g). (disk_of c).faults) marks.chains); failed = λ is. absurd (cc) };
      }

  pub answers_marks_same : {T : Type 0} (old new : Buckets D g) (fault : ValueFault) (page : ℕ) → has_refused old ≡ false → Marks old new
      → IsAnswered {T = T} old new (Err (refusal_of fault page))
  answers_marks_same {T} old new fault page going marks =
      answers_marks {S = ℕ} {T = T} old old new 0 fault page (answers_none {T = ℕ} old 0 going) marks

  -- the same refusal of a call that gives another value
  pub answers_err : {S T : Type 0} (old new : Buckets D g) (fault : StoreFault) → IsAnswered {T = S} old new (Err fault)
      → IsAnswered {T = T} old new (Err fault)
  answers_err old new NotFormatted first = absurd first.alone
  answers_err old new NotEmpty first = absurd first.alone
  answers_err old new (BadStore page) first = record {
    stays = first.stays;
    alone = first.alone;
    broken = first.broken;
    refused = first.refused;
    cause = record { later = first.cause.later; failed = λ is. absurd (cc) };
  }
  answers_err old new DiskFault first = record {
    stays = first.stays;
    alone = first.alone;
    broken = first.broken;
    refused = first.refused;
    cause = record { later = first.cause.later; failed = λ is. first.cause.failed refl };
  }
  answers_err old new (StoreFull pages) first = absurd first.alone
  answers_err old new Broken first = record {
    stays = first.stays;
    alone = first.alone;
    broken = first.broken;
    refused = first.refused;
    cause = record { later = first.cause.later; failed = λ is. absurd (cc) };
  }
  answers_err old new OutOfMemory first = record {
    stays = first.stays;
    alone = first.alone;
    broken = first.broken;
    refused = first.refused;
    cause = record { later = first.cause.later; failed = λ is. absurd (cc) };
  }

-- a store that means something refuses for the disk or for want of memory alone
pub sound_refuses : (T : Type 0) (Bad : ℕ → Type 0) (fault : StoreFault) → IsSoundAnswer {T = T} (Err fault) → Refuses Bad fault
sound_refuses T Bad NotFormatted sound = sound
sound_refuses T Bad NotEmpty sound = sound
sound_refuses T Bad (BadStore page) sound = absurd sound
sound_refuses T Bad DiskFault sound = tt
sound_refuses T Bad (StoreFull pages) sound = sound
sound_refuses T Bad Broken sound = sound
sound_refuses T Bad OutOfMemory sound = tt

pub sound_result : (T : Type 0) (Bad : ℕ → Type 0) (result : Result T StoreFault) → IsSoundAnswer result → IfErr result (Refuses Bad)
sound_result T Bad (Ok value) sound = tt
sound_result T Bad (Err fault) sound = sound_refuses T Bad fault sound

module _ {D : Type 0} {g : Ghosts D} where
  opened_same : (pages : List (List ℕ)) (old new : Buckets D g) → chains_of new ≡ chains_of old → cached_of new ≡ cached_of old
      → IsOpenStore pages old → IsOpenStore pages new
  opened_same pages old new chains cached opens =
      subst (λ (c : Chains D g). IsOpenWith pages c (cached_of new)) (sym chains)
      (subst (λ (k : CacheMap). IsOpenWith pages (chains_of old) k) (sym cached) opens)

  content_same : (pages : List (List ℕ)) (old new : Buckets D g) (n : ℕ) (values : BucketMap) → chains_of new ≡ chains_of old
      → cached_of new ≡ cached_of old
      → Content pages old n values → Content pages new n values
  content_same pages old new n values chains cached content =
      subst (λ (c : Chains D g). MatchOption (map.get (cached_of new) n) (Stored pages c n values) (λ own. own.bucket.values ≡ values))
      (sym chains)
      (subst (λ (k : CacheMap). MatchOption (map.get k n) (Stored pages (chains_of old) n values) (λ own. own.bucket.values ≡ values))
      (sym cached) content)

  -- a transaction that is refused has what it had
  pub has_same : (rest now : Image) (old new : Buckets D g) → chains_of new ≡ chains_of old → cached_of new ≡ cached_of old
      → Has rest now old → Has rest now new
  has_same rest now old new chains cached has =
      has_later rest now old new (subst (OnlyRead (chains_of old)) (sym chains) (read_same (chains_of old)))
      (ap (λ (c : Chains D g). is_broken (journal_of c)) chains ∙ has.whole)
      (λ pages opens. opened_same pages old new chains cached opens)
      (λ pages opens other values content. content_same pages old new other values chains cached content) has

  -- what was read leaves a transaction what it had
  pub has_read : {T : Type 0} (rest now : Image) (old new : Buckets D g) (result : Result T StoreFault)
      → OnlyRead (chains_of old) (chains_of new)
      → is_broken (journal_of (chains_of new)) ≡ (is_broken (journal_of (chains_of old)) || answers_disk_fault result)
      → answers_disk_fault result ≡ false
      → ((pages : List (List ℕ)) → IsOpenStore pages old → IsOpenStore pages new)
      → ((pages : List (List ℕ)) → IsOpenStore pages old → (other : ℕ) (values : BucketMap) → Content pages old other values
      → Content pages new other values)
      → Has rest now old → Has rest now new
  has_read rest now old new result stays broken none opens content has =
      has_later rest now old new stays (broken ∙ (λ i. has.whole i || none i)) opens content has

  -- the page of a key's bucket stays
  pub page_same : (old new : Buckets D g) (which key : ℕ) → OnlyRead (chains_of old) (chains_of new)
      → page_in new which key ≡ page_in old which key
  page_same old new which key stays =
      (λ i. kept_first (stays.kept i) (chain_at (stays.root i).buckets which key))

  pub count_same : (old new : Buckets D g) → OnlyRead (chains_of old) (chains_of new)
      → bucket_count (chains_of new) ≡ bucket_count (chains_of old)
  count_same old new stays = ap (λ (r : Root). r.buckets) stays.root

  -- after a call that is not refused the next one may come
  pub ready_after : {T : Type 0} (old new : Buckets D g) (value : T) → IsReady old → IsAnswered old new (Ok value) → IsReady new
  ready_after old new value ready answers = record {
    going = answers.refused;
    some = subst (λ (n : ℕ). 1 ≤ n) (sym (count_same old new answers.stays)) ready.some;
  }
