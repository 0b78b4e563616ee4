-- A store that is only read is only looked at, also where the transaction is begun anew.
use Rattle.std.proofs.Common.{◌≡◌, true, false, Ok, Err, sym, ap, ◌∙◌, arith}
use Rattle.outside.specs.declared.disk.Disk.{Ghosts}
use Rattle.page_journal.specs.Journal.{is_broken}
use Rattle.page_journal.specs.declared.fault.StoreFault.{StoreFault}
use Rattle.page_journal.specs.declared.journal.Journal.{Journal}
use Rattle.chain_store.specs.Chains.{OnlyRead, journal_of, root_of, written_of}
use Rattle.chain_store.specs.Directories.{root_in}
use Rattle.chain_store.specs.declared.chains.Chains.{Chains}
use Rattle.chain_store.specs.declared.kept.Kept.{Kept}
use Rattle.bucket_store.specs.Calls.{IsBegun, LeavesStore}
use Rattle.bucket_store.specs.Image.{OnlyLooks}
use Rattle.bucket_store.specs.Transaction.{chains_of, has_refused}
use Rattle.bucket_store.specs.declared.buckets.Buckets.{Buckets}
use Rattle.bucket_store.proofs.Holding.{looks_then}
use Rattle.row_store.proofs.LookLaws.{read_then}
use Rattle.row_store.specs.Loading.{Looks}
use Rattle.store_check.specs.Finds.{Peeks}
use Rattle.store_check.specs.Reading.{IsUnchanged, IsUnwritten}

module _ {D : Type 0} {g : Ghosts D} where
  -- a transaction that only reads changes nothing
  pub unwritten_later : (old new : Buckets D g) → OnlyRead (chains_of old) (chains_of new) → IsUnwritten old → IsUnwritten new
  unwritten_later old new stays unwritten = record {
    written = stays.written ∙ unwritten.written;
    root = stays.root ∙ unwritten.root ∙ ap (λ (kept : Kept). root_in kept.front.items) (sym stays.kept);
  }

  -- begun anew it has changed nothing either
  pub begun_stays : (old new : Buckets D g) → IsUnwritten old → IsBegun new → OnlyLooks old new → OnlyRead (chains_of old) (chains_of new)
  begun_stays old new unwritten begun looks = record {
    looked = looks.looked;
    kept = looks.kept;
    root = begun.root ∙ ap (λ (kept : Kept). root_in kept.front.items) looks.kept ∙ sym unwritten.root;
    written = begun.written ∙ sym unwritten.written;
  }

  -- what a call leaves that was answered, and one that was refused once the transaction is begun anew
  pub peeks_read : {T Read : Type 0} (old new : Buckets D g) (value : T) → LeavesStore Read old new (Ok value) → Peeks old new (Ok value)
  peeks_read old new value read = record {
    same = read.same;
    stays = read.stays;
    alone = read.alone;
    broken = read.broken;
    cause = read.cause;
  }

  module _ {T Read : Type 0} (old mid new : Buckets D g) (fault : StoreFault) (before : IsUnchanged old)
      (read : LeavesStore {T = T} Read old mid (Err fault)) (begun : IsBegun new) (looks : OnlyLooks mid new) where
    refused_stays : OnlyRead (chains_of old) (chains_of new)
    refused_stays =
        read_then old mid new read.stays (begun_stays mid new (unwritten_later old mid read.stays before.unwritten) begun looks)

    pub peeks_anew : journal_of (chains_of new) ≡ journal_of (chains_of mid) → Peeks {T = T} old new (Err fault)
    peeks_anew journal = record {
      same = looks_then old mid new read.same looks;
      stays = refused_stays;
      alone = read.alone;
      broken = ap (λ (own : Journal D g). is_broken own) journal ∙ read.broken;
      cause = record {
        later = omega (arith, read.same.later, looks.later);
        failed = λ is. let rose = read.cause.failed is in omega (arith, rose, looks.later);
      };
    }

  -- with whether the transaction has refused it is what calls leave that only read
  pub looks_ok : {T : Type 0} (old new : Buckets D g) (value : T) → Peeks old new (Ok value) → has_refused new ≡ false
      → Looks old new (Ok value)
  looks_ok old new value peeks going = record {
    same = peeks.same;
    stays = peeks.stays;
    alone = peeks.alone;
    broken = peeks.broken;
    refused = going;
    cause = peeks.cause;
  }

  pub looks_err : {T : Type 0} (old mid new : Buckets D g) (fault : StoreFault) → Peeks {T = T} old mid (Err fault)
      → chains_of new ≡ chains_of mid → OnlyLooks mid new → has_refused new ≡ true → Looks {T = T} old new (Err fault)
  looks_err old mid new fault peeks chains same refused = record {
    same = looks_then old mid new peeks.same same;
    stays = read_then old mid new peeks.stays (record {
      looked = same.looked;
      kept = same.kept;
      root = ap (λ (c : Chains D g). root_of c) chains;
      written = ap (λ (c : Chains D g). written_of c) chains;
    });
    alone = peeks.alone;
    broken = ap (λ (c : Chains D g). is_broken (journal_of c)) chains ∙ peeks.broken;
    refused = refused;
    cause = record {
      later = omega (arith, peeks.same.later, same.later);
      failed = λ is. let rose = peeks.cause.failed is in omega (arith, rose, same.later);
    };
  }
