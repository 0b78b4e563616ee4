-- Histories of a store: a state to begin with, and the steps since then.
use Rattle.std.specs.Prelude.{List, fold}
use Rattle.update_flow.specs.State.{State, Step, after}

pub record History : Type 0 where
  pub base : State
  pub steps : List Step

-- the state after all of a history
abbrev pub state_after : History → State
state_after history = fold after history.base history.steps
