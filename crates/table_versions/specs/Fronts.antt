-- What a front shows: which history it is of, with what it begins, and the deltas that were seen.
use Rattle.std.specs.Prelude.{◌≡◌, refl, ℕ, List, [], ◌∷◌, map, flat_map}
use mathlib.Core.List.{IsPrefix}
use Rattle.std.specs.Coded.{Coded, code_by, coded×, coded_list, coded_ℕ}
use Rattle.std.specs.FinMap as finite
use Rattle.logbook.specs.Pages.{Book, book_coded}
use Rattle.osm_base.specs.contracts.map.tables.Spot as spot
use Rattle.osm_base.specs.contracts.values.row.Delta as change
use Rattle.osm_base.specs.contracts.values.row.Row as row
use Rattle.osm_base.specs.declared.values.row.Delta.{Delta}
use Rattle.osm_base.specs.map.Spots.{TableMap}
use Rattle.table_versions.specs.declared.history.Entry.{Entry}
use Rattle.table_versions.specs.declared.history.Entry.TheVariants.{Opens, Adds}

pub record FrontOf : Type 0 where
  pub book : Book
  pub first : TableMap
  pub base : ℕ
  pub log : List Delta

-- a front is stored as its parts
abbrev pub front_code : Coded FrontOf
front_code =
    code_by (Book × (TableMap × (ℕ × List Delta)))
    (coded× book_coded (coded× (finite.code spot.the_row.coded row.the_row.coded) (coded× coded_ℕ (coded_list change.the_row.coded))))
    (λ front. (front.book, (front.first, (front.base, front.log))))
    (λ parts. record { book = parts.0; first = parts.1.0; base = parts.1.1.0; log = parts.1.1.1 }) (λ _. refl)

-- a front is of the same history as another, and its deltas begin those of the other
pub record Begins (one other : FrontOf) : Type 0 where
  pub book : other.book ≡ one.book
  pub first : other.first ≡ one.first
  pub base : other.base ≡ one.base
  pub log : IsPrefix one.log other.log

-- the entries of a history
abbrev pub entries : TableMap → ℕ → List Delta → List Entry
entries first base log = Opens first base ∷ map Adds log

-- with what entries begin
abbrev pub first_of : List Entry → TableMap
first_of (Opens tables version ∷ _) = tables
first_of _ = finite.empty

abbrev pub base_of : List Entry → ℕ
base_of (Opens tables version ∷ _) = version
base_of _ = 0

-- their deltas
abbrev pub delta_in : Entry → List Delta
delta_in (Adds delta) = delta ∷ []
delta_in (Opens tables version) = []

abbrev pub deltas_in : List Entry → List Delta
deltas_in log = flat_map delta_in log

-- what a front shows of a book and its entries
abbrev pub front_of : Book → List Entry → FrontOf
front_of book log = record { book = book; first = first_of log; base = base_of log; log = deltas_in log }
