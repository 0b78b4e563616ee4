-- Calls that find something in a store, one after another.
use Rattle.std.proofs.Common.{◌≡◌, ◌||◌, Bool, true, false, Result, Ok, Err, refl, sym, ap, subst, ◌∙◌, arith}
use Rattle.std.proofs.lemmas.Result.{IfOk-weaker}
use Rattle.outside.specs.declared.disk.Disk.{Ghosts}
use Rattle.page_journal.specs.Answers.{answers_disk_fault}
use Rattle.page_journal.specs.Journal.{is_broken}
use Rattle.page_journal.specs.declared.fault.StoreFault.{StoreFault}
use Rattle.page_journal.specs.declared.fault.StoreFault.TheVariants.{NotFormatted, NotEmpty, BadStore, DiskFault, StoreFull, Broken}
use Rattle.page_journal.specs.declared.fault.StoreFault.TheVariants.{OutOfMemory}
use Rattle.chain_store.specs.Answers.{IsReadAnswer}
use Rattle.chain_store.specs.Chains.{disk_of, journal_of}
use Rattle.bucket_store.specs.Image.{Has, Image}
use Rattle.bucket_store.specs.Transaction.{chains_of}
use Rattle.bucket_store.specs.declared.buckets.Buckets.{Buckets}
use Rattle.bucket_store.proofs.Holding.{looks_same, looks_then}
use Rattle.row_store.proofs.LookLaws.{read_same, read_then, rose_later, sound_err}
use Rattle.store_check.specs.Finds.{Finds, FindsThere, Peeks, Saw}
use Rattle.store_check.specs.declared.reading.Reading.{Reading}
use Rattle.store_check.proofs.Taking.{on_ok}

or_false : (b : Bool) → (b || false) ≡ b
or_false true = refl
or_false false = refl

-- a refusal of one call is one of another
read_answer : (T U : Type 0) (broken : Bool) (fault : StoreFault) → IsReadAnswer {T = T} broken (Err fault)
    → IsReadAnswer {T = U} broken (Err fault)
read_answer T U broken NotFormatted is = is
read_answer T U broken NotEmpty is = is
read_answer T U broken (BadStore page) is = is
read_answer T U broken DiskFault is = is
read_answer T U broken (StoreFull pages) is = is
read_answer T U broken Broken is = is
read_answer T U broken OutOfMemory is = is

module _ {D : Type 0} {g : Ghosts D} (T U : Type 0) where
  pub peeks_as : (old new : Buckets D g) (fault : StoreFault) → Peeks {T = T} old new (Err fault) → Peeks {T = U} old new (Err fault)
  peeks_as old new fault peeks = record {
    same = peeks.same;
    stays = peeks.stays;
    alone = read_answer T U (is_broken (journal_of (chains_of old))) fault peeks.alone;
    broken = peeks.broken;
    cause = record {
      later = peeks.cause.later;
      failed = λ is. let same : fault ≡ DiskFault = cc (is) in peeks.cause.failed (ap (λ (f : StoreFault). Err f) same);
    };
  }

  pub peeks_told : (old new : Buckets D g) (value : T) (answer : U) → Peeks old new (Ok value) → Peeks old new (Ok answer)
  peeks_told old new value answer peeks = record {
    same = peeks.same;
    stays = peeks.stays;
    alone = tt;
    broken = peeks.broken;
    cause = record { later = peeks.cause.later; failed = λ is. absurd (cc) };
  }

module _ {D : Type 0} {g : Ghosts D} {U : Type 0} where
  -- calls that were all answered leave what one leaves that is, or that memory refuses
  saw_peeks : (old new : Reading D g) (answer : U) → Saw old new → Peeks old.buckets.now new.buckets.now (Ok answer)
  saw_peeks old new answer saw = record {
    same = saw.same;
    stays = saw.stays;
    alone = tt;
    broken = saw.still ∙ sym (or_false (is_broken (journal_of (chains_of old.buckets.now))));
    cause = record { later = saw.same.later; failed = λ is. absurd (cc) };
  }

  saw_memory : (old new : Reading D g) → Saw old new → Peeks {T = U} old.buckets.now new.buckets.now (Err OutOfMemory)
  saw_memory old new saw = record {
    same = saw.same;
    stays = saw.stays;
    alone = tt;
    broken = saw.still ∙ sym (or_false (is_broken (journal_of (chains_of old.buckets.now))));
    cause = record { later = saw.same.later; failed = λ is. absurd (cc) };
  }

  peeks_on : (old mid new : Reading D g) (result : Result U StoreFault) → Saw old mid → Peeks mid.buckets.now new.buckets.now result
      → Peeks old.buckets.now new.buckets.now result
  peeks_on old mid new result saw peeks = record {
    same = looks_then old.buckets.now mid.buckets.now new.buckets.now saw.same peeks.same;
    stays = read_then old.buckets.now mid.buckets.now new.buckets.now saw.stays peeks.stays;
    alone = subst (λ (b : Bool). IsReadAnswer b result) saw.still peeks.alone;
    broken = peeks.broken ∙ ap (λ (b : Bool). b || answers_disk_fault result) saw.still;
    cause = record {
      later = omega (arith, saw.same.later, peeks.cause.later);
      failed = λ is. rose_later (disk_of (chains_of old.buckets.now)).faults (disk_of (chains_of mid.buckets.now)).faults
          (disk_of (chains_of new.buckets.now)).faults saw.same.later (peeks.cause.failed is);
    };
  }

module _ {D : Type 0} {g : Ghosts D} where
  pub saw_none : (reading : Reading D g) → Saw reading reading
  saw_none reading = record {
    loan = refl;
    same = looks_same reading.buckets.now;
    stays = read_same reading.buckets.now;
    still = refl;
    has = λ rest had. had;
  }

  pub saw_both : {old mid new : Reading D g} → Saw old mid → Saw mid new → Saw old new
  saw_both {old} {mid} {new} first second = record {
    loan = second.loan ∙ first.loan;
    same = looks_then old.buckets.now mid.buckets.now new.buckets.now first.same second.same;
    stays = read_then old.buckets.now mid.buckets.now new.buckets.now first.stays second.stays;
    still = second.still ∙ first.still;
    has = λ rest had. second.has rest (first.has rest had);
  }

module _ {D : Type 0} {g : Ghosts D} {T : Type 0} {Own : Image → T → Type 0} where
  pub saw_it : {old new : Reading D g} {value : T} → Finds old new (Ok value) Own → Saw old new
  saw_it {old} {new} {value} own = record {
    loan = own.loan;
    same = own.peeks.same;
    stays = own.peeks.stays;
    still = own.peeks.broken ∙ or_false (is_broken (journal_of (chains_of old.buckets.now)));
    has = own.has;
  }

  -- a call more
  pub saw_then : {old mid new : Reading D g} {value : T} → Saw old mid → Finds mid new (Ok value) Own → Saw old new
  saw_then saw own = saw_both saw (saw_it own)

module _ {D : Type 0} {g : Ghosts D} {U : Type 0} {Is : Image → U → Type 0} where
  -- of calls that were all answered, as a loop makes them
  pub found_all : {old new : Reading D g} {answer : U} → Saw old new → ((rest : Image) → Has rest rest old.buckets.now → Is rest answer)
      → Finds old new (Ok answer) Is
  found_all {old} {new} {answer} saw step = record {
    loan = saw.loan;
    so = step;
    has = saw.has;
    sound = λ rest had. tt;
    peeks = saw_peeks old new answer saw;
  }

  -- memory may run out behind them
  pub lacks_memory : {old new : Reading D g} → Saw old new → Finds old new (Err OutOfMemory) Is
  lacks_memory {old} {new} saw = record {
    loan = saw.loan;
    so = tt;
    has = tt;
    sound = λ rest had. tt;
    peeks = saw_memory old new saw;
  }

  -- where nothing was read
  pub finds_here : {reading : Reading D g} {answer : U} → ((rest : Image) → Has rest rest reading.buckets.now → Is rest answer)
      → Finds reading reading (Ok answer) Is
  finds_here {reading} {answer} step = found_all (saw_none reading) step

module _ {D : Type 0} {g : Ghosts D} {T : Type 0} {Own : Image → T → Type 0} where
  -- what a call finds is also so
  pub finds_as : {old new : Reading D g} {result : Result T StoreFault} {Also : Image → T → Type 0} → Finds old new result Own
      → ((rest : Image) → Has rest rest old.buckets.now → (answer : T) → Own rest answer → Also rest answer) → Finds old new result Also
  finds_as {old} {new} {result} {Also} own step = record {
    loan = own.loan;
    so = IfOk-weaker result (λ answer. (rest : Image) → Has rest rest old.buckets.now → Own rest answer)
        (λ answer. (rest : Image) → Has rest rest old.buckets.now → Also rest answer)
        (λ answer is rest had. step rest had answer (is rest had)) own.so;
    has = own.has;
    sound = own.sound;
    peeks = own.peeks;
  }

  pub finds_behind : {old mid new : Reading D g} {result : Result T StoreFault} {Also : Image → T → Type 0} → Saw old mid
      → Finds mid new result Own → ((rest : Image) → Has rest rest old.buckets.now → (answer : T) → Own rest answer → Also rest answer)
      → Finds old new result Also
  finds_behind {old} {mid} {new} {result} {Also} saw own step = record {
    loan = own.loan ∙ saw.loan;
    so = IfOk-weaker result (λ answer. (rest : Image) → Has rest rest mid.buckets.now → Own rest answer)
        (λ answer. (rest : Image) → Has rest rest old.buckets.now → Also rest answer)
        (λ answer is rest had. step rest had answer (is rest (saw.has rest had))) own.so;
    has = on_ok result (λ has rest had. has rest (saw.has rest had)) own.has;
    sound = λ rest had. own.sound rest (saw.has rest had);
    peeks = peeks_on old mid new result saw own.peeks;
  }

module _ {D : Type 0} {g : Ghosts D} {T U : Type 0} {Own : Image → T → Type 0} {Is : Image → U → Type 0} where
  -- what one call found is what another finds
  pub finds_ok : {old new : Reading D g} {value : T} {answer : U} → Finds old new (Ok value) Own
      → ((rest : Image) → Has rest rest old.buckets.now → Own rest value → Is rest answer) → Finds old new (Ok answer) Is
  finds_ok own step = found_all (saw_it own) (λ rest had. step rest had (own.so rest had))

  pub finds_err : {old new : Reading D g} {fault : StoreFault} → Finds old new (Err fault) Own → Finds old new (Err fault) Is
  finds_err {old} {new} {fault} own = record {
    loan = own.loan;
    so = tt;
    has = tt;
    sound = λ rest had. sound_err {T = T} U (Err fault) fault refl (own.sound rest had);
    peeks = peeks_as T U old.buckets.now new.buckets.now fault own.peeks;
  }

  -- and behind calls that were all answered
  pub then_finds : {old mid new : Reading D g} {value : T} {answer : U} → Saw old mid → Finds mid new (Ok value) Own
      → ((rest : Image) → Has rest rest old.buckets.now → Own rest value → Is rest answer) → Finds old new (Ok answer) Is
  then_finds saw own step = found_all (saw_then saw own) (λ rest had. step rest had (own.so rest (saw.has rest had)))

  pub then_refuses : {old mid new : Reading D g} {fault : StoreFault} → Saw old mid → Finds mid new (Err fault) Own
      → Finds old new (Err fault) Is
  then_refuses {old} {mid} {new} {fault} saw own = record {
    loan = own.loan ∙ saw.loan;
    so = tt;
    has = tt;
    sound = λ rest had. sound_err {T = T} U (Err fault) fault refl (own.sound rest (saw.has rest had));
    peeks = peeks_on old mid new (Err fault) saw (peeks_as T U mid.buckets.now new.buckets.now fault own.peeks);
  }

-- one call and then another
module _ {D : Type 0} {g : Ghosts D} {S T U : Type 0} {First : Image → S → Type 0} {Second : Image → T → Type 0}
    {Is : Image → U → Type 0} where
  pub both_find : {old mid new : Reading D g} {one : S} {other : T} {answer : U} → Finds old mid (Ok one) First
      → Finds mid new (Ok other) Second
      → ((rest : Image) → Has rest rest old.buckets.now → First rest one → Second rest other → Is rest answer) → Finds old new (Ok answer) Is
  both_find first second step = then_finds (saw_it first) second (λ rest had own. step rest had (first.so rest had) own)

  pub second_refuses : {old mid new : Reading D g} {one : S} {fault : StoreFault} → Finds old mid (Ok one) First
      → Finds mid new (Err fault) Second → Finds old new (Err fault) Is
  second_refuses first second = then_refuses (saw_it first) second

module _ {D T : Type 0} {g : Ghosts D} {Is : Image → T → Type 0} where
  -- what a reading finds is found of its transaction, as the reading leaves it
  pub finds_there : {old new : Reading D g} {left : Buckets D g} {result : Result T StoreFault} → new.buckets.now ≡ left
      → Finds old new result Is → FindsThere old.buckets.now left result Is
  finds_there {old} {new} {left} {result} is found =
      subst (λ (own : Buckets D g). FindsThere old.buckets.now own result Is) is
      (record { so = found.so; has = found.has; sound = found.sound; peeks = found.peeks })
