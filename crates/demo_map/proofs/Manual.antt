-- The map and its changes, on examples that were written by hand.
use Rattle.std.proofs.Common.{◌≡◌, ℕ, pos, List, [], ◌∷◌, map, Option, Some, refl}
use Rattle.std.specs.Prelude.{neg_ℤ}
use Rattle.osm_base.specs.declared.values.object.Entry.{Entry}
use Rattle.osm_base.specs.declared.values.object.Member.{Member}
use Rattle.osm_base.specs.declared.values.object.Object.{Object}
use Rattle.osm_base.specs.declared.values.object.Object.TheVariants.{Way, Relation}
use Rattle.osm_base.specs.values.Key.{node_key, relation_key, way_key}
use Rattle.demo_map.specs.Demo.{demo_first, demo_input, demo_second, place_in, route_of, tenths, way_of}

-- the thousand and first square stands in the second row
place_in-1001 : place_in 1001 10000 0 ≡ record { lon = neg_ℤ (pos 1699970000); lat = neg_ℤ (pos 799980000) }
place_in-1001 = refl

-- the ids that an object lists
abbrev ids_in : Option Object → List ℕ
ids_in (Some (Way nodes tags)) = nodes
ids_in (Some (Relation members tags)) = map (λ (member : Member). member.key.id) members
ids_in _ = []

abbrev listed : Entry → List ℕ
listed entry = ids_in entry.object

way_of-2 : listed (way_of 2) ≡ 9 ∷ 10 ∷ 11 ∷ 12 ∷ 9 ∷ []
way_of-2 = refl

-- of eleven squares the first route has ten, and the second the last
tenths-11 : tenths 11 ≡ 0 ∷ 10 ∷ []
tenths-11 = refl

route_of-0 : listed (route_of 11 0) ≡ 1 ∷ 2 ∷ 3 ∷ 4 ∷ 5 ∷ 6 ∷ 7 ∷ 8 ∷ 9 ∷ 10 ∷ []
route_of-0 = refl

route_of-10 : listed (route_of 11 10) ≡ 11 ∷ []
route_of-10 = refl

-- one square: four nodes, a way, a relation
demo_input-1 : map (λ (entry : Entry). entry.key) (demo_input 1)
    ≡ node_key 1 ∷ node_key 2 ∷ node_key 3 ∷ node_key 4 ∷ way_key 1 ∷ relation_key 1 ∷ []
demo_input-1 = refl

demo_first-11 : map (λ (entry : Entry). entry.key) (demo_first 11) ≡ node_key 3 ∷ node_key 43 ∷ []
demo_first-11 = refl

demo_second-11 : map (λ (entry : Entry). entry.key) (demo_second 11) ≡ node_key 1 ∷ node_key 41 ∷ []
demo_second-11 = refl
