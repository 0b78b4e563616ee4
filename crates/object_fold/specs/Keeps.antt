-- Who is given the entries of a file in order, and one who adds each to a list.
use Rattle.std.specs.Prelude.{List, [], ◌∷◌, ◌++◌, Option}
use Rattle.osm_base.specs.declared.values.object.Entry.{Entry}
use Rattle.osm_base.specs.values.Key.{KeyOf}
use Rattle.object_fold.specs.Change.{Follows}

-- one who may be given each entry that comes after the last one
abbrev pub TakesNext : {K : Type 0} → (K → KeyOf → Type 0) → Option KeyOf → K → Type 0
TakesNext takes last keeper = (next : KeyOf) → Follows last next → takes keeper next

-- one who adds each entry at the end
abbrev pub pushed : List Entry → Entry → List Entry
pushed entries entry = entries ++ entry ∷ []
