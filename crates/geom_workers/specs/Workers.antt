-- How many workers may build.
use Rattle.std.specs.Prelude.{ℕ, ◌≤◌}

-- from 1 to 64
pub record AreWorkers (count : ℕ) : Type 0 where
  pub least : 1 ≤ count
  pub most : count ≤ 64
