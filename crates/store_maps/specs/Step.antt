-- What an entry of a change makes of the maps of a store.
-- osm2pgsql manual, "Updating an Existing Database": a changed object takes the place of the one that was there.
use Rattle.std.specs.Prelude.{◌≡◌, ℕ, true, not, List, ◌∷◌, ◌++◌, fold, nat_eq, nat_lt, Option}
use Rattle.std.specs.List.{AllByRecursion, filter}
use Rattle.osm_base.specs.declared.values.key.Kind.TheVariants as kinds
use Rattle.osm_base.specs.declared.values.object.Entry.{Entry}
use Rattle.osm_base.specs.declared.values.object.Object.{Object}
use Rattle.osm_base.specs.map.Listers.{listed}
use Rattle.osm_base.specs.values.Key.{KeyOf}
use Rattle.object_fold.specs.Change.{IsProper}
use Rattle.object_fold.specs.Listing.{ListingOf, is_listed, listers}
use Rattle.store_maps.specs.Maps.{Maps, set, set_object, unless_empty, way_or_relation_in}
use Rattle.store_maps.specs.Turns.{blocks_in, ids_for}

-- rising ids with this one, and without it
abbrev pub with_id : ℕ → List ℕ → List ℕ
with_id own ids = filter (λ id. nat_lt id own) ids ++ own ∷ filter (λ id. nat_lt own id) ids

abbrev pub without_id : ℕ → List ℕ → List ℕ
without_id own ids = filter (λ id. not (nat_eq own id)) ids

-- the listers of an id turn so: this one is among them now, or no longer
abbrev pub relisted_at : (ℕ → List ℕ → List ℕ) → ℕ → ListingOf → ℕ → ListingOf
relisted_at turn own listing id = set listing id (unless_empty (turn own (listers listing id)))

-- those of each of these ids do
abbrev pub relisted_all : (ℕ → List ℕ → List ℕ) → ListingOf → ℕ → List ℕ → ListingOf
relisted_all turn listing own ids = fold (relisted_at turn own) listing ids

-- those of all that an object lists do: the blocks of a way, the nodes and the ways of a relation
abbrev pub relisted : (ℕ → List ℕ → List ℕ) → Maps → KeyOf → Option Object → Maps
relisted turn maps own object = record maps {
  ways_of_blocks = relisted_all turn maps.ways_of_blocks own.id (ids_for kinds.Way blocks_in own.kind object);
  relations_of_nodes = relisted_all turn maps.relations_of_nodes own.id (ids_for kinds.Relation (listed kinds.Node) own.kind object);
  relations_of_ways = relisted_all turn maps.relations_of_ways own.id (ids_for kinds.Relation (listed kinds.Way) own.kind object);
}

-- a key lists no longer what the first object lists, and from now on what the second one does
abbrev pub relisted_to : Maps → KeyOf → Option Object → Option Object → Maps
relisted_to maps own old new = relisted with_id (relisted without_id maps own old) own new

-- all that an object lists is said to be listed by its key
abbrev pub AllListed : ListingOf → ℕ → List ℕ → Type 0
AllListed listing own ids = AllByRecursion (λ id. is_listed listing id own ≡ true) ids

pub record AreTold (maps : Maps) (own : KeyOf) (object : Option Object) : Type 0 where
  pub ways_of_blocks : AllListed maps.ways_of_blocks own.id (ids_for kinds.Way blocks_in own.kind object)
  pub relations_of_nodes : AllListed maps.relations_of_nodes own.id (ids_for kinds.Relation (listed kinds.Node) own.kind object)
  pub relations_of_ways : AllListed maps.relations_of_ways own.id (ids_for kinds.Relation (listed kinds.Way) own.kind object)

-- what an entry says is so: the old form of its key is listed no longer, the new one is, and takes its place
abbrev pub entry_on : Maps → Entry → Maps
entry_on maps entry =
    set_object (relisted_to maps entry.key (way_or_relation_in maps entry.key.kind entry.key.id) entry.object)
    entry.key.kind entry.key.id entry.object

-- what entries say, one after another
abbrev pub change_on : Maps → List Entry → Maps
change_on maps entries = fold entry_on maps entries

-- each object is of its key's kind
abbrev pub AreProperEntries : List Entry → Type 0
AreProperEntries entries = AllByRecursion IsProper entries
