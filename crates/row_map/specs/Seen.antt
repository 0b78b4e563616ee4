-- A set of ids beside ways, by which a way is known that stands there already.
use Rattle.std.specs.Prelude.{◌≡◌, ℕ, List, nat_eq}
use Rattle.std.specs.BTreeSet.{BTreeSet, contains}
use Rattle.std.specs.List.{list_any}
use Rattle.std.specs.Ordering.{nat_cmp}
use Rattle.osm_base.specs.values.Key.{KeyOf}

-- the set has the ids of the ways
abbrev pub AreSeen : BTreeSet ℕ → List KeyOf → Type 0
AreSeen seen ways = (id : ℕ) → contains nat_cmp seen id ≡ list_any (λ way. nat_eq way.id id) ways
