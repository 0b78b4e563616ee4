-- Why a step below is refused, as a call on the store ends.
use Rattle.std.proofs.Common.{◌≡◌, ◌||◌, ℕ, false, nat_eq, Option, Some}
use Rattle.outside.specs.declared.disk.Disk.{Ghosts}
use Rattle.page_journal.specs.declared.fault.StoreFault.{StoreFault}
use Rattle.page_journal.specs.declared.fault.StoreFault.TheVariants as store
use Rattle.bucket_store.specs.Buckets.{bucket_count}
use Rattle.bucket_store.specs.Image.{OnlyLooks}
use Rattle.bucket_store.specs.Transaction.{chains_of, has_refused}
use Rattle.bucket_store.specs.declared.buckets.Buckets.{Buckets}
use Rattle.back_index.specs.Index.{Causes, is_spent}
use Rattle.update_step.specs.Ends.{Ends}
use Rattle.update_step.specs.declared.fault.StepFault.{StepFault}
use Rattle.update_step.specs.declared.fault.StepFault.TheVariants as steps
use Rattle.update_flow.specs.Calls.{IsChange}
use Rattle.update_flow.specs.Faults.{of_store}
use Rattle.update_flow.specs.State.{Step}
use Rattle.update_flow.specs.Steps.{of_step}
use Rattle.update_flow.specs.Turning.{EndsIn}
use Rattle.update_flow.specs.Within.{faults_in, is_whole_store}

-- an index may be asked where nothing was refused and there are buckets
pub none_spent : {D : Type 0} {g : Ghosts D} (buckets : Buckets D g) → has_refused buckets ≡ false → is_whole_store buckets
    → nat_eq (bucket_count (chains_of buckets)) 0 ≡ false → is_spent buckets ≡ false
none_spent buckets going whole some = λ i. going i || (whole i || some i)

module _ {D : Type 0} {g : Ghosts D} (old new : Buckets D g) (looks : OnlyLooks old new) where
  -- a refusal of the maps
  pub refusal_ends : {call : Option Step} (fault : StoreFault) → Causes new (faults_in old) fault
      → EndsIn call (Some (of_store fault)) old new
  refusal_ends store.NotFormatted cause = absurd cause
  refusal_ends store.NotEmpty cause = absurd cause
  refusal_ends (store.BadStore page) cause = record {
    alone = tt;
    whole = λ no. cause;
    later = looks.later;
    failed = λ is. absurd (cc (is));
    same_disk = looks.looked.same_disk;
  }
  refusal_ends store.DiskFault cause = record {
    alone = tt;
    whole = λ no. absurd no;
    later = looks.later;
    failed = λ is. cause;
    same_disk = looks.looked.same_disk;
  }
  refusal_ends (store.StoreFull pages) cause = absurd cause
  refusal_ends store.Broken cause = absurd cause
  refusal_ends store.OutOfMemory cause = record {
    alone = tt;
    whole = λ no. cause;
    later = looks.later;
    failed = λ is. absurd (cc (is));
    same_disk = looks.looked.same_disk;
  }

  -- and one of the step
  pub step_ends : (R : StoreFault → Type 0) (U : Type 0) (M : ℕ → Type 0) (why : StepFault StoreFault) → Ends R U M why
      → ((fault : StoreFault) → R fault → Causes new (faults_in old) fault) → (U → is_whole_store new) → (call : Option Step)
      → ((value : ℕ) → M value → IsChange call)
      → EndsIn call (Some (of_step why)) old new
  step_ends R U M (steps.Store fault) ends causes whole call many = refusal_ends fault (causes fault ends)
  step_ends R U M (steps.TooMany value) ends causes whole call many = record {
    alone = many value ends.1;
    whole = λ no. whole ends.0;
    later = looks.later;
    failed = λ is. absurd (cc (is));
    same_disk = looks.looked.same_disk;
  }
  step_ends R U M steps.OutOfMemory ends causes whole call many = record {
    alone = tt;
    whole = λ no. whole ends;
    later = looks.later;
    failed = λ is. absurd (cc (is));
    same_disk = looks.looked.same_disk;
  }
