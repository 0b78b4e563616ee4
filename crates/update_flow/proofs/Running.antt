-- Calls of the buckets, as calls within a transaction.
use Rattle.std.proofs.Common.{◌≡◌, ◌≤◌, ◌||◌, ℕ, Bool, true, false, Option, Some, None, Err, refl, ◌∙◌, arith}
use Rattle.outside.specs.Causes.{Rose}
use Rattle.outside.specs.declared.disk.Disk.{Ghosts}
use Rattle.page_journal.specs.Answers.{HasDiskCause, answers_disk_fault}
use Rattle.page_journal.specs.Journal.{is_broken}
use Rattle.page_journal.specs.declared.fault.StoreFault.{StoreFault}
use Rattle.page_journal.specs.declared.fault.StoreFault.TheVariants as store
use Rattle.chain_store.specs.Answers.{IsReadAnswer}
use Rattle.chain_store.specs.Chains.{journal_of}
use Rattle.bucket_store.specs.Image.{OnlyLooks}
use Rattle.bucket_store.specs.Transaction.{chains_of}
use Rattle.bucket_store.specs.declared.buckets.Buckets.{Buckets}
use Rattle.bucket_store.proofs.Holding.{looks_same, looks_then}
use Rattle.update_flow.specs.declared.fault.FlowFault.{FlowFault}
use Rattle.update_flow.specs.declared.fault.FlowFault.TheVariants as flow
use Rattle.update_flow.specs.Faults.{of_store}
use Rattle.update_flow.specs.Within.{RunsWithin, faults_in, is_whole_store}

or_none : (b : Bool) → (b || false) ≡ b
or_none true = refl
or_none false = refl

module _ {D : Type 0} {g : Ghosts D} (old new : Buckets D g) (looks : OnlyLooks old new) (whole : is_whole_store old) where
  -- its disk has not failed since
  still_whole : is_broken (journal_of (chains_of new)) ≡ (is_broken (journal_of (chains_of old)) || false) → is_whole_store new
  still_whole broken = broken ∙ or_none (is_broken (journal_of (chains_of old))) ∙ whole

  pub runs_done : is_broken (journal_of (chains_of new)) ≡ (is_broken (journal_of (chains_of old)) || false) → RunsWithin old new None
  runs_done broken = record { looks = looks; alone = tt; whole = λ no. still_whole broken; failed = λ is. absurd (cc) }

  -- the call was answered, and then something else was refused
  pub runs_unread : (page : ℕ) → is_broken (journal_of (chains_of new)) ≡ (is_broken (journal_of (chains_of old)) || false)
      → RunsWithin old new (Some (flow.Store (store.BadStore page)))
  runs_unread page broken = record { looks = looks; alone = tt; whole = λ no. still_whole broken; failed = λ is. absurd (cc) }

  pub runs_short : is_broken (journal_of (chains_of new)) ≡ (is_broken (journal_of (chains_of old)) || false)
      → RunsWithin old new (Some flow.OutOfMemory)
  runs_short broken = record { looks = looks; alone = tt; whole = λ no. still_whole broken; failed = λ is. absurd (cc) }

  -- the call was refused
  pub runs_refused : (T : Type 0) (fault : StoreFault) → IsReadAnswer {T = T} (is_broken (journal_of (chains_of old))) (Err fault)
      → is_broken (journal_of (chains_of new)) ≡ (is_broken (journal_of (chains_of old)) || answers_disk_fault {T = T} (Err fault))
      → HasDiskCause {T = T} (faults_in old) (faults_in new) (Err fault) → RunsWithin old new (Some (of_store fault))
  runs_refused T store.NotFormatted alone broken cause = absurd alone
  runs_refused T store.NotEmpty alone broken cause = absurd alone
  runs_refused T (store.BadStore page) alone broken cause = runs_unread page broken
  runs_refused T store.DiskFault alone broken cause =
      record { looks = looks; alone = tt; whole = λ no. absurd no; failed = λ is. cause.failed refl }
  runs_refused T (store.StoreFull pages) alone broken cause = absurd alone
  runs_refused T store.Broken alone broken cause = absurd (cc (alone, whole))
  runs_refused T store.OutOfMemory alone broken cause = runs_short broken

-- nothing was called, and memory ran out
pub runs_idle : {D : Type 0} {g : Ghosts D} (buckets : Buckets D g) → is_whole_store buckets → RunsWithin buckets buckets (Some flow.OutOfMemory)
runs_idle buckets whole = record { looks = looks_same buckets; alone = tt; whole = λ no. whole; failed = λ is. absurd (cc (is)) }

-- or something was not as it is to be
pub runs_unfit : {D : Type 0} {g : Ghosts D} (buckets : Buckets D g) (page : ℕ) → is_whole_store buckets
    → RunsWithin buckets buckets (Some (flow.Store (store.BadStore page)))
runs_unfit buckets page whole = record { looks = looks_same buckets; alone = tt; whole = λ no. whole; failed = λ is. absurd (cc (is)) }

-- a call behind one that was answered
rose_later : (before mid now : ℕ) → before ≤ mid → Rose mid now → Rose before now
rose_later before mid now later rose = omega (arith, later, rose)

pub runs_then : {D : Type 0} {g : Ghosts D} (old mid new : Buckets D g) (fault : Option FlowFault) → RunsWithin old mid None → RunsWithin mid new fault
    → RunsWithin old new fault
runs_then old mid new fault first second = record {
  looks = looks_then old mid new first.looks second.looks;
  alone = second.alone;
  whole = second.whole;
  failed = λ is. rose_later (faults_in old) (faults_in mid) (faults_in new) first.looks.later (second.failed is);
}
