-- Why a change is not made.
use Rattle.std.specs.Prelude.{ℕ}
use Rattle.dep_closure.specs.declared.fault.PendingFault.{PendingFault}
use Rattle.dep_closure.specs.declared.fault.PendingFault.TheVariants as due
use Rattle.update_step.specs.declared.fault.StepFault.{StepFault}
use Rattle.update_step.specs.declared.fault.StepFault.TheVariants.{Store, TooMany, OutOfMemory}

-- the store refused, and this is so of its refusal; or too many objects are pending, and this is so of their number; or memory ran out.
-- In each case but the first the store may still be asked, and this says so.
abbrev pub Ends : {E : Type 0} → (E → Type 0) → Type 0 → (ℕ → Type 0) → StepFault E → Type 0
Ends refused unspent many (Store refusal) = refused refusal
Ends refused unspent many (TooMany value) = unspent × many value
Ends refused unspent many OutOfMemory = unspent

-- a refusal of the store is of this kind
abbrev pub MayRefuse : {E : Type 0} → (E → Type 0) → StepFault E → Type 0
MayRefuse allowed (Store refusal) = allowed refusal
MayRefuse allowed _ = Unit {0}

-- the search for what a change makes due ended so
abbrev pub of_pending : {E : Type 0} → PendingFault E → StepFault E
of_pending (due.Back refusal) = Store refusal
of_pending (due.TooMany value) = TooMany value
of_pending due.OutOfMemory = OutOfMemory
