-- What is seen of the files that a command reads.
use Rattle.std.specs.Prelude.{ℕ, List, Option}

-- the bytes left in each file, by the number of its word, where they are told; and how many calls have failed
pub record FilesView : Type 0 where
  pub left : ℕ → Option (List ℕ)
  pub faults : ℕ
