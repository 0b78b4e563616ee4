-- Listings, by who lists what.
-- osm2pgsql manual, "Updating an Existing Database": a way is processed again when a node of it changes, and a relation when a node or a
-- way
-- that is a member of it changes.
use Rattle.std.specs.Prelude.{◌≡◌, ◌≢◌, ℕ, Bool, not, ◌&&◌, ◌||◌, List, [], map, nat_eq, if◌then◌else◌, Option, None, Some}
use Rattle.std.specs.FinMap as finite
use Rattle.osm_base.specs.declared.values.key.Kind.{Kind}
use Rattle.osm_base.specs.declared.values.key.Kind.TheVariants as kinds
use Rattle.osm_base.specs.declared.values.object.Object.{Object}
use Rattle.osm_base.specs.map.Listers.{is_kind, listed}
use Rattle.osm_base.specs.map.Objects.{ObjectSet}
use Rattle.osm_base.specs.values.Ids.{IsRising, has}
use Rattle.object_fold.specs.Listing.{ListingOf, is_listed, listers}
use Rattle.store_maps.specs.Maps.{block_of}

-- what is told of who lists what: whether an id is listed by that one
abbrev pub Told : Type 0
Told = ℕ → ℕ → Bool

-- a listing keeps what is told: its ids rise, and no list is empty
pub record IsListing (listing : ListingOf) (told : Told) : Type 0 where
  pub answers : (id by : ℕ) → is_listed listing id by ≡ told id by
  pub rising : (id : ℕ) → IsRising (listers listing id)
  pub some : (id : ℕ) → finite.get listing id ≢ Some []

-- these ids are listed by that one too, and these no longer
abbrev pub added : List ℕ → ℕ → Told → Told
added ids own told id by = (has ids id && nat_eq own by) || told id by

abbrev pub taken : List ℕ → ℕ → Told → Told
taken ids own told id by = not (has ids id && nat_eq own by) && told id by

-- the blocks of the nodes of a way
abbrev pub blocks_in : Object → List ℕ
blocks_in object = map block_of (listed kinds.Node object)

-- what an object, if there is one, lists by some measure
abbrev pub listed_by : (Object → List ℕ) → Option Object → List ℕ
listed_by what None = []
listed_by what (Some object) = what object

-- what the objects of one kind list
abbrev pub told_by : Kind → (Object → List ℕ) → ObjectSet → Told
told_by by what objects id own = has (listed_by what (finite.get objects (record { kind = by; id = own }))) id

-- what a listing of those of one kind is told of an object: of one of another kind nothing
abbrev pub ids_for : Kind → (Object → List ℕ) → Kind → Option Object → List ℕ
ids_for by what kind object = if is_kind by kind then listed_by what object else []
