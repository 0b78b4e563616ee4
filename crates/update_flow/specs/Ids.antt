-- The ids of keys.
use Rattle.std.specs.Prelude.{List}
use Rattle.std.specs.List.{AllByRecursion}
use Rattle.osm_base.specs.declared.values.object.Entry.{Entry}
use Rattle.osm_base.specs.values.Key.{IsId}

-- each entry's key has an id
abbrev pub AreIdEntries : List Entry → Type 0
AreIdEntries entries = AllByRecursion (λ (entry : Entry). IsId entry.key.id) entries
