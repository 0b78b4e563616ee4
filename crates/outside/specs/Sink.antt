-- What is seen of a place that takes output.
use Rattle.std.specs.Prelude.{ℕ, List, Option}

-- the bytes taken so far, where they are told, and how many calls have failed
pub record SinkView : Type 0 where
  pub taken : Option (List ℕ)
  pub faults : ℕ
