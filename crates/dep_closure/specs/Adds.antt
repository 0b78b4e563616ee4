-- What is added to ids.
use Rattle.std.specs.Prelude.{◌≡◌, ℕ, Bool, ◌||◌, List}
use Rattle.std.specs.List.{AllByRecursion}
use Rattle.osm_base.specs.map.Known.{Index}
use Rattle.osm_base.specs.values.Ids.{has}
use Rattle.osm_base.specs.values.Key.{IsId}

-- those that pass were added to numbers, which are ids where they were
pub record Adds (passes : ℕ → Bool) (old new : List ℕ) : Type 0 where
  pub added : (id : ℕ) → has new id ≡ (passes id || has old id)
  pub ids : AllByRecursion IsId old → AllByRecursion IsId new

-- those that are due by an index were, by each that is known
pub record AddsDue (knows : Index → Type 0) (is_due : Index → ℕ → Bool) (old new : List ℕ) : Type 0 where
  pub added : (index : Index) → knows index → (id : ℕ) → has new id ≡ (is_due index id || has old id)
  pub ids : AllByRecursion IsId old → AllByRecursion IsId new
