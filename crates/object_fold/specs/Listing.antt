-- Ids, each with the ids of who lists it.
use Rattle.std.specs.Prelude.{◌≡◌, ℕ, Bool, not, ◌&&◌, ◌||◌, List, [], ◌++◌, nat_eq}
use Rattle.std.specs.Option.{unwrap_or}
use Rattle.std.specs.Ordering.{nat_cmp}
use Rattle.std.specs.FinMap as map
use Rattle.osm_base.specs.values.Ids.{has}

-- the ids of those who list each id that is listed
abbrev pub ListingOf : Type 0
ListingOf = map.FinMap nat_cmp (List ℕ)

-- those who list an id
abbrev pub listers : ListingOf → ℕ → List ℕ
listers listing id = unwrap_or (map.get listing id) []

-- whether an id is listed by that one
abbrev pub is_listed : ListingOf → ℕ → ℕ → Bool
is_listed listing id by = has (listers listing id) by

-- these ids are now listed by this one too
abbrev pub Lists : List ℕ → ℕ → ListingOf → ListingOf → Type 0
Lists ids lister old new = (id by : ℕ) → is_listed new id by ≡ ((has ids id && nat_eq lister by) || is_listed old id by)

-- some first of these are
abbrev pub ListsFront : List ℕ → ℕ → ListingOf → ListingOf → Type 0
ListsFront ids lister old new = (front : List ℕ) × (rest : List ℕ) × (ids ≡ front ++ rest) × Lists front lister old new

-- these ids but for those are no longer listed by this one
abbrev pub Unlists : List ℕ → List ℕ → ℕ → ListingOf → ListingOf → Type 0
Unlists ids but lister old new =
    (id by : ℕ) → is_listed new id by ≡ (not (has ids id && not (has but id) && nat_eq lister by) && is_listed old id by)
