-- How a change ends, from how its parts do.
use Rattle.std.proofs.Common.{ℕ, Result, Ok, Err}
use Rattle.std.specs.Prelude.{IfErr, IfOk, OnOk}
use Rattle.dep_closure.specs.Stops.{Stops, UnlessRefused}
use Rattle.dep_closure.specs.declared.fault.PendingFault.{PendingFault}
use Rattle.dep_closure.specs.declared.fault.PendingFault.TheVariants as due
use Rattle.update_step.specs.Ends.{Ends, of_pending}
use Rattle.update_step.specs.declared.fault.StepFault.{StepFault}
use Rattle.update_step.specs.declared.fault.StepFault.TheVariants as step

pub if_ok-then : {A E : Type 0} (result : Result A E) {P Q : A → Type 0} → IfOk result P → ((value : A) → P value → Q value) → IfOk result Q
if_ok-then (Ok value) p f = f value p
if_ok-then (Err why) p f = tt

pub on_ok-then : {A E : Type 0} (result : Result A E) {P Q : Type 0} → OnOk result P → (P → Q) → OnOk result Q
on_ok-then (Ok value) p f = f p
on_ok-then (Err why) p f = tt

pub if_err-then : {A E : Type 0} (result : Result A E) {P Q : E → Type 0} → IfErr result P → ((why : E) → P why → Q why) → IfErr result Q
if_err-then (Ok value) p f = tt
if_err-then (Err why) p f = f why p

-- where more is so of each end, the end is of that kind too
pub ends-then : {E : Type 0} (refused refused_too : E → Type 0) (unspent unspent_too : Type 0) (many many_too : ℕ → Type 0)
    (why : StepFault E)
    → ((refusal : E) → refused refusal → refused_too refusal) → (unspent → unspent_too) → ((value : ℕ) → many value → many_too value)
    → Ends refused unspent many why → Ends refused_too unspent_too many_too why
ends-then refused refused_too unspent unspent_too many many_too (step.Store refusal) r u m ends = r refusal ends
ends-then refused refused_too unspent unspent_too many many_too (step.TooMany value) r u m ends = (u ends.0, m value ends.1)
ends-then refused refused_too unspent unspent_too many many_too step.OutOfMemory r u m ends = u ends

-- the search for what is due ended so
pub pending-ends : {E : Type 0} (stopped refused : E → Type 0) (unspent : Type 0) (most many : ℕ → Type 0) (why : PendingFault E)
    → ((refusal : E) → stopped refusal → refused refusal) → ((value : ℕ) → most value → many value) → Stops stopped most why
    → UnlessRefused unspent why → Ends refused unspent many (of_pending why)
pending-ends stopped refused unspent most many (due.Back refusal) r m stops claim = r refusal stops
pending-ends stopped refused unspent most many (due.TooMany value) r m stops claim = (claim, m value stops)
pending-ends stopped refused unspent most many due.OutOfMemory r m stops claim = claim
