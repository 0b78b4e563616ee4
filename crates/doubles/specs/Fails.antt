-- Which calls of an object in memory are to fail. Calls are counted from 1.
use Rattle.std.specs.Prelude.{ℕ, List, ◌<◌, ◌≤◌, ◌⊎◌, Contains}

-- numbers of calls, and the number from which on every call is meant, where it is not 0
pub record FailPlan : Type 0 where
  pub at : List ℕ
  pub from : ℕ

-- the plan names the call with this number
abbrev pub Names : FailPlan → ℕ → Type 0
Names plan call = Contains plan.at call ⊎ ((0 < plan.from) × (plan.from ≤ call))
