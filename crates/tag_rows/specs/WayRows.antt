-- The rows of the ways of the objects so far.
use Rattle.std.specs.Prelude.{◌≡◌, ℕ, List, [], ◌∷◌, false, Option, None, Some, refl}
use Rattle.std.specs.Coded.{Coded, code_by, coded×, coded_list, coded_ℕ}
use Rattle.std.specs.FinMap as finite
use Rattle.std.specs.List.{AllByRecursion}
use Rattle.osm_base.specs.declared.values.object.Entry.{Entry}
use Rattle.osm_base.specs.values.Key.{IsId, way_key}
use Rattle.osm_base.specs.contracts.values.key.Key as key
use Rattle.osm_base.specs.contracts.values.object.Object as object
use Rattle.osm_base.specs.map.Known.{Known}
use Rattle.osm_base.specs.map.Objects.{ObjectSet, folded}
use Rattle.osm_base.specs.map.Listers.{known_of}
use Rattle.osm_base.specs.values.Ids.{has}
use Rattle.tag_rows.specs.TrimmedChange.{trimmed_entry}
use Rattle.tag_rows.specs.RowsById.{RowMap}
use Rattle.tag_rows.specs.Lines.{object_row}

-- a row, where it is not empty
abbrev pub some_row : List ℕ → Option (List ℕ)
some_row [] = None
some_row (byte ∷ bytes) = Some (byte ∷ bytes)

-- the row of a way of what is known of objects, or nothing
abbrev pub row_known : List ℕ → Known → ℕ → List ℕ
row_known key known id = object_row key known.place id (known.object (way_key id))

-- the row of a way of these objects, or nothing
abbrev pub row_at : List ℕ → ObjectSet → ℕ → List ℕ
row_at key objects id = object_row key (known_of objects).place id (finite.get objects (way_key id))

-- the rows are those of the ways of these objects that have one, and no other
abbrev pub AreRows : List ℕ → ObjectSet → RowMap → Type 0
AreRows key objects rows = (id : ℕ) → finite.get rows id ≡ some_row (row_at key objects id)

-- the key that is asked for, and what is kept of the objects
pub record WaysRead : Type 0 where
  pub key : List ℕ
  pub objects : ObjectSet

-- these are stored as the pair of their fields
abbrev pub ways_code : Coded WaysRead
ways_code =
    code_by (List ℕ × ObjectSet) (coded× (coded_list coded_ℕ) (finite.code key.the_row.coded object.the_row.coded))
    (λ own. (own.key, own.objects))
    (λ pair. record { key = pair.0; objects = pair.1 }) (λ _. refl)

-- no object yet
abbrev pub no_ways : List ℕ → WaysRead
no_ways key = record { key = key; objects = finite.empty }

-- after one entry
abbrev pub after_way : WaysRead → Entry → WaysRead
after_way own next = record { key = own.key; objects = folded own.objects (trimmed_entry own.key next) }

-- ids among which that of each way of these objects is
pub record HoldWays (objects : ObjectSet) (ways : List ℕ) : Type 0 where
  pub ids : AllByRecursion IsId ways
  pub others : (way : ℕ) → has ways way ≡ false → finite.get objects (way_key way) ≡ None
