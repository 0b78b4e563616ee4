-- The map of so many squares, and two changes of it.
-- A square has a cafe at its south west corner and a building along its four corners; each tenth square begins a route along ten
-- buildings.
use Rattle.std.specs.Prelude.{ℕ, ◌+◌, ◌*◌, ◌/◌, ◌%◌, ◌==◌, min, pos, ◌-ℤ◌, List, [], ◌∷◌, ◌++◌, map, flat_map, codes, decimal, None, Some}
use Rattle.std.specs.Prelude.{◌-◌, Bool}
use Rattle.std.specs.FinMap as finite
use Rattle.std.specs.List.{filter, range_with_len}
use Rattle.std.specs.Str.{chars}
use Rattle.osm_base.specs.declared.values.object.Entry.{Entry}
use Rattle.osm_base.specs.declared.values.object.Member.{Member}
use Rattle.osm_base.specs.declared.values.object.Object.TheVariants.{Node, Way, Relation}
use Rattle.osm_base.specs.values.Key.{node_key, way_key, relation_key}
use Rattle.osm_base.specs.values.Place.{PlaceOf}
use Rattle.osm_base.specs.values.Tags.{TagMap}

-- the numbers of so many squares
abbrev pub squares : (count : ℕ) → List ℕ
squares count = range_with_len 0 count

-- those that ten divides
abbrev pub is_tenth : ℕ → Bool
is_tenth square = square % 10 == 0

abbrev pub tenths : (count : ℕ) → List ℕ
tenths count = filter is_tenth (squares count)

-- so far east and north of the south west corner of a square, of which a thousand stand in a row, in units of 1e-7 degree
abbrev pub place_in : (square east north : ℕ) → PlaceOf
place_in square east north = record {
  lon = pos (20000 * (square % 1000) + east) -ℤ pos 1700000000;
  lat = pos (20000 * (square / 1000) + north) -ℤ pos 800000000;
}

-- a tag alone
abbrev pub one_tag : (key value : List ℕ) → TagMap
one_tag key value = finite.insert finite.empty (chars key) (chars value)

-- a node at a place
abbrev pub node_at : (id : ℕ) → PlaceOf → TagMap → Entry
node_at id place tags = record { key = node_key id; object = Some (Node (Some place) tags) }

-- the four nodes of a square: a cafe in the south west, and then round by the east
abbrev pub nodes_of : (square : ℕ) → List Entry
nodes_of square =
    node_at (4 * square + 1) (place_in square 0 0) (one_tag (codes "amenity") (codes "cafe"))
    ∷ node_at (4 * square + 2) (place_in square 10000 0) finite.empty
    ∷ node_at (4 * square + 3) (place_in square 10000 10000) finite.empty
    ∷ node_at (4 * square + 4) (place_in square 0 10000) finite.empty
    ∷ []

-- its way: a building along the four nodes, closed
abbrev pub way_of : (square : ℕ) → Entry
way_of square = record {
  key = way_key (square + 1);
  object = Some (Way ((4 * square + 1) ∷ (4 * square + 2) ∷ (4 * square + 3) ∷ (4 * square + 4) ∷ (4 * square + 1) ∷ [])
      (one_tag (codes "building") (codes "yes")));
}

-- so many ways from this one on, as members without a role
abbrev pub member_of : (id : ℕ) → Member
member_of id = record { key = way_key id; role = [] }

abbrev pub members_of : (first count : ℕ) → List Member
members_of first count = map member_of (range_with_len first count)

-- the tags of a route: its reference is R and its id
abbrev pub route_tags : (id : ℕ) → TagMap
route_tags id =
    finite.from_entries ((chars (codes "ref"), chars (codes "R" ++ decimal id)) ∷ (chars (codes "type"), chars (codes "route")) ∷ [])

-- the relation of a tenth square: a route along its way and those of the next nine squares, or of as many as there are
abbrev pub route_of : (count square : ℕ) → Entry
route_of count square = record {
  key = relation_key (square / 10 + 1);
  object = Some (Relation (members_of (square + 1) (min (square + 10) count - square)) (route_tags (square / 10 + 1)));
}

-- the map of so many squares: its nodes, its ways, its relations
abbrev pub demo_input : (count : ℕ) → List Entry
demo_input count = flat_map nodes_of (squares count) ++ map way_of (squares count) ++ map (route_of count) (tenths count)

-- the third corner of a square moves to the north east by 1,000 units each way
abbrev pub moved_of : (square : ℕ) → Entry
moved_of square = node_at (4 * square + 3) (place_in square 11000 11000) finite.empty

-- the first change: each tenth square's third corner moves
abbrev pub demo_first : (count : ℕ) → List Entry
demo_first count = map moved_of (tenths count)

-- the cafe of a square is deleted
abbrev pub gone_of : (square : ℕ) → Entry
gone_of square = record { key = node_key (4 * square + 1); object = None }

-- the second change: each tenth square's cafe is deleted
abbrev pub demo_second : (count : ℕ) → List Entry
demo_second count = map gone_of (tenths count)
