-- Maps without a list of who lists what are filled by entries: first all lists, then the objects.
-- osm2pgsql manual, "Slim mode": an import keeps nodes, ways and relations, and who lists what, for the changes that come later.
use Rattle.std.specs.Prelude.{◌≡◌, ℕ, ◌&&◌, List, fold, nat_eq}
use Rattle.std.specs.FinMap as finite
use Rattle.std.specs.List.{AllByRecursion, list_any}
use Rattle.osm_base.specs.declared.values.key.Kind.{Kind}
use Rattle.osm_base.specs.declared.values.object.Entry.{Entry}
use Rattle.osm_base.specs.declared.values.object.Object.{Object}
use Rattle.osm_base.specs.values.Ids.{has}
use Rattle.store_maps.specs.Asked.{May, MayList}
use Rattle.store_maps.specs.Maps.{Maps, set_object}
use Rattle.store_maps.specs.Step.{relisted, with_id}
use Rattle.store_maps.specs.Turns.{Told, ids_for}

-- no list is kept
pub record HasNoLists (maps : Maps) : Type 0 where
  pub ways_of_blocks : maps.ways_of_blocks ≡ finite.empty
  pub relations_of_nodes : maps.relations_of_nodes ≡ finite.empty
  pub relations_of_ways : maps.relations_of_ways ≡ finite.empty

-- what the object of an entry lists is listed by its key
abbrev pub listed_on : Maps → Entry → Maps
listed_on maps entry = relisted with_id maps entry.key entry.object

-- those of entries, one after another
abbrev pub all_listed_on : Maps → List Entry → Maps
all_listed_on maps entries = fold listed_on maps entries

-- who lists what their objects list
abbrev pub MayListAll : May → List Entry → Type 0
MayListAll may entries = AllByRecursion (λ (entry : Entry). MayList may entry.key entry.object) entries

-- the object of an entry takes the place of its key's
abbrev pub object_on : Maps → Entry → Maps
object_on maps entry = set_object maps entry.key.kind entry.key.id entry.object

abbrev pub all_objects_on : Maps → List Entry → Maps
all_objects_on maps entries = fold object_on maps entries

-- what an entry tells a listing of those of one kind: the ids that its object lists by some measure
abbrev pub entry_tells : Kind → (Object → List ℕ) → Entry → Told
entry_tells by what entry id own = has (ids_for by what entry.key.kind entry.object) id && nat_eq entry.key.id own

-- and what entries tell it
abbrev pub entries_tell : Kind → (Object → List ℕ) → List Entry → Told
entries_tell by what entries id own = list_any (λ (entry : Entry). entry_tells by what entry id own) entries
