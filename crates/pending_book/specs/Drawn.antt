-- What is told of a book that was closed.
use Rattle.std.specs.Prelude.{ℕ, List}

-- the tickets drawn, in some order, how many the book had, and how many draws were made
pub record DrawnView : Type 0 where
  pub list : List ℕ
  pub tickets : ℕ
  pub draws : ℕ
