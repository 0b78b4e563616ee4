-- The objects whose rows a change may change, as contracts see them.
-- osm2pgsql manual, "Updating an Existing Database": what depends on a changed object is processed again.
use Rattle.std.specs.Prelude.{ℕ, List}

-- ids of nodes, of ways and of relations
pub record PendingOf : Type 0 where
  pub nodes : List ℕ
  pub ways : List ℕ
  pub relations : List ℕ
