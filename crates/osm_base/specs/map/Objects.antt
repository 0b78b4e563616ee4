-- What a change makes of the objects of a map.
use Rattle.std.specs.Prelude.{List, fold, Option, None, Some}
use Rattle.std.specs.BTreeMap.{BTreeMap}
use Rattle.std.specs.FinMap as map
use Rattle.osm_base.specs.declared.values.object.Entry.{Entry}
use Rattle.osm_base.specs.declared.values.object.Object.{Object}
use Rattle.osm_base.specs.declared.values.object.Object.TheVariants.{Node}
use Rattle.osm_base.specs.values.Key.{KeyOf}
use Rattle.osm_base.specs.values.Place.{PlaceOf}
use Rattle.osm_base.specs.values.KeyOrder.{key_cmp}

-- the objects of a map by their keys
abbrev pub ObjectSet : Type 0
ObjectSet = map.FinMap key_cmp Object

-- the objects of a tree of them
abbrev pub objects_in : BTreeMap KeyOf Object → ObjectSet
objects_in objects = map.from_entries objects.entries

-- the object of this key is now this one, or there is none
abbrev pub with_object : ObjectSet → KeyOf → Option Object → ObjectSet
with_object objects key None = map.remove objects key
with_object objects key (Some object) = map.insert objects key object

-- what an entry makes of them
abbrev pub folded : ObjectSet → Entry → ObjectSet
folded objects entry = with_object objects entry.key entry.object

-- what entries make of them, one after another
abbrev pub folded_all : ObjectSet → List Entry → ObjectSet
folded_all objects entries = fold folded objects entries

-- the place of a node, if it has one
abbrev pub place_in : Option Object → Option PlaceOf
place_in (Some (Node place tags)) = place
place_in _ = None
