-- Calls that only read, one after another.
use Rattle.std.proofs.Common.{◌≡◌, ◌≤◌, ◌||◌, ℕ, Bool, true, false, Result, Ok, Err, refl, sym, ap, subst, ◌∙◌, arith}
use Rattle.outside.specs.Causes.{Rose}
use Rattle.outside.specs.declared.disk.Disk.{Ghosts}
use Rattle.page_journal.specs.Answers.{answers_disk_fault}
use Rattle.page_journal.specs.Journal.{is_broken}
use Rattle.page_journal.specs.declared.fault.StoreFault.{StoreFault}
use Rattle.chain_store.specs.Answers.{IsReadAnswer}
use Rattle.chain_store.specs.Chains.{OnlyRead, disk_of, journal_of}
use Rattle.chain_store.proofs.Looks.{looked_same, looked_then}
use Rattle.page_journal.specs.declared.fault.StoreFault.TheVariants as refusals
use Rattle.page_journal.specs.declared.fault.StoreFault.TheVariants.{NotFormatted, NotEmpty, BadStore, DiskFault, StoreFull, Broken}
use Rattle.value_bytes.specs.declared.fault.ValueFault.{ValueFault}
use Rattle.value_bytes.specs.declared.fault.ValueFault.TheVariants as faults
use Rattle.bucket_store.specs.Image.{IsSoundAnswer, OnlyLooks}
use Rattle.bucket_store.specs.Typed.{refusal_of}
use Rattle.bucket_store.specs.Transaction.{chains_of}
use Rattle.bucket_store.specs.declared.buckets.Buckets.{Buckets}
use Rattle.bucket_store.proofs.Holding.{looks_then}
use Rattle.row_store.specs.Loading.{Looks}

pub or_false : (b : Bool) → (b || false) ≡ b
or_false true = refl
or_false false = refl

pub rose_later : (before mid now : ℕ) → before ≤ mid → Rose mid now → Rose before now
rose_later before mid now later rose = omega (arith, later, rose)

module _ {D : Type 0} {g : Ghosts D} where
  pub read_same : (buckets : Buckets D g) → OnlyRead (chains_of buckets) (chains_of buckets)
  read_same buckets = record { looked = looked_same (journal_of (chains_of buckets)); kept = refl; root = refl; written = refl }

  pub read_then : (old mid new : Buckets D g) → OnlyRead (chains_of old) (chains_of mid) → OnlyRead (chains_of mid) (chains_of new)
      → OnlyRead (chains_of old) (chains_of new)
  read_then old mid new first second = record {
    looked = looked_then (journal_of (chains_of old)) (journal_of (chains_of mid)) (journal_of (chains_of new)) first.looked second.looked;
    kept = second.kept ∙ first.kept;
    root = second.root ∙ first.root;
    written = second.written ∙ first.written;
  }

  -- a call that was answered leaves the disk as whole as it was
  pub still_whole : {T : Type 0} (old new : Buckets D g) (value : T) → Looks {T = T} old new (Ok value)
      → is_broken (journal_of (chains_of new)) ≡ is_broken (journal_of (chains_of old))
  still_whole old new value looks = looks.broken ∙ or_false (is_broken (journal_of (chains_of old)))

  pub looks_on : {T : Type 0} (old mid new : Buckets D g) (result : Result T StoreFault) → OnlyLooks old mid
      → OnlyRead (chains_of old) (chains_of mid)
      → is_broken (journal_of (chains_of mid)) ≡ is_broken (journal_of (chains_of old)) → Looks mid new result → Looks old new result
  looks_on old mid new result same stays still looks = record {
    same = looks_then old mid new same looks.same;
    stays = read_then old mid new stays looks.stays;
    alone = subst (λ (b : Bool). IsReadAnswer b result) still looks.alone;
    broken = looks.broken ∙ ap (λ (b : Bool). b || answers_disk_fault result) still;
    refused = looks.refused;
    cause = record {
      later = omega (arith, same.later, looks.cause.later);
      failed = λ is. rose_later (disk_of (chains_of old)).faults (disk_of (chains_of mid)).faults
          (disk_of (chains_of new)).faults same.later (looks.cause.failed is);
    };
  }

-- a refusal of one call is one of another
pub sound_of : (T U : Type 0) (fault : StoreFault) → IsSoundAnswer {T = T} (Err fault) → IsSoundAnswer {T = U} (Err fault)
sound_of T U NotFormatted is = is
sound_of T U NotEmpty is = is
sound_of T U (BadStore page) is = is
sound_of T U DiskFault is = is
sound_of T U (StoreFull pages) is = is
sound_of T U Broken is = is
sound_of T U refusals.OutOfMemory is = is

pub sound_err : {T : Type 0} (U : Type 0) (result : Result T StoreFault) (fault : StoreFault) → result ≡ Err fault → IsSoundAnswer result
    → IsSoundAnswer {T = U} (Err fault)
sound_err {T} U result fault is sound = sound_of T U fault (subst (λ (r : Result T StoreFault). IsSoundAnswer r) is sound)

pub memory_sound : (fault : ValueFault) (page : ℕ) (refusal : StoreFault) → refusal ≡ refusal_of fault page → fault ≡ faults.OutOfMemory
    → IsSoundAnswer {T = Unit {0}} (Err refusal)
memory_sound fault page refusal is memory =
    subst (λ (r : StoreFault). IsSoundAnswer {T = Unit {0}} (Err r)) (sym (is ∙ ap (λ (f : ValueFault). refusal_of f page) memory)) tt
