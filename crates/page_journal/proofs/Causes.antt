-- What follows of a run of calls from its last one.
use Rattle.std.proofs.Common.{◌≤◌, ℕ, Result, Ok, Err, arith}
use Rattle.std.specs.Result.{OnOk}
use Rattle.outside.specs.Causes.{HasCause, Rose}
use Rattle.page_journal.specs.Answers.{HasDiskCause}
use Rattle.page_journal.specs.declared.fault.StoreFault.{StoreFault}

-- where it went well
pub on_ok : {E : Type 0} (A B : Type 0) (result : Result (Unit {0}) E) → (A → B) → OnOk result A → OnOk result B
on_ok A B (Ok done) f a = f a
on_ok A B (Err fault) f a = tt

-- the cause of its answer
pub cause_after : {T E : Type 0} (before mid now : ℕ) (result : Result T E) → before ≤ mid → HasCause mid now result
    → HasCause before now result
cause_after before mid now (Ok value) first second = record { later = omega (arith, first, second.later); failed = tt }
cause_after before mid now (Err fault) first second = record {
  later = omega (arith, first, second.later);
  failed = omega (arith, first, second.failed);
}

-- and where the count of faults rose
pub caused : {T E : Type 0} (before mid now : ℕ) (result : Result T E) → before ≤ mid → mid ≤ now → Rose mid now
    → HasCause before now result
caused before mid now (Ok value) first second rose = record { later = omega (arith, first, second); failed = tt }
caused before mid now (Err fault) first second rose = record { later = omega (arith, first, second); failed = omega (arith, first, rose) }

pub disk_caused : {T : Type 0} (before mid now : ℕ) (result : Result T StoreFault) → before ≤ mid → mid ≤ now → Rose mid now
    → HasDiskCause before now result
disk_caused before mid now result first second rose =
    record { later = omega (arith, first, second); failed = λ is. omega (arith, first, rose) }
