-- A wrong use is a fault of words alone.
use Rattle.std.proofs.Common.{◌≡◌, ◌↔◌, Option, Some, None, refl}
use Rattle.run_promise.specs.declared.fault.Fault.{Fault}
use Rattle.run_promise.specs.declared.fault.Fault.TheVariants.{Usage}

-- where words that ask for nothing are a wrong use, and no run of others ends as one
pub usage-none : {A : Type 0} (asked : Option A) (fault : Option Fault) → (asked ≡ None → fault ≡ Some Usage)
    → ((own : A) → asked ≡ Some own → fault ≡ Some Usage → ⊥) → (fault ≡ Some Usage) ↔ (asked ≡ None)
usage-none None fault wrong never = ((λ is. refl), wrong)
usage-none (Some own) fault wrong never = ((λ is. absurd (never own refl is)), (λ none. absurd (cc)))
