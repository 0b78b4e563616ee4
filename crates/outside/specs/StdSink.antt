-- A sink over a writer.
use Rattle.std.specs.Prelude.{ℕ, List, Option}

-- the bytes that the writer holds, where it tells them, and how many calls have failed
pub record WriterFilled : Type 0 where
  pub contents : Option (List ℕ)
  pub faults : ℕ
