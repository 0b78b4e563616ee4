-- An edge of a ring as contracts see it, from its south end to its north end, by natural numbers: how far north of the pole and east of
-- the antimeridian its ends are.
use Rattle.std.specs.Prelude.{ℕ, ◌<◌, ◌≤◌}

-- the latitudes and the longitudes of its ends
pub record EdgeOf : Type 0 where
  pub low : ℕ
  pub high : ℕ
  pub at_low : ℕ
  pub at_high : ℕ

-- it goes north, over numbers of the world
pub record IsEdge (edge : EdgeOf) : Type 0 where
  pub north : edge.low < edge.high
  pub above : edge.high ≤ 1800000000
  pub west : edge.at_low ≤ 3600000000
  pub east : edge.at_high ≤ 3600000000
