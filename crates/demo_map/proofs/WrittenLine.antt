-- The line that is written of an entry has no newline.
use Rattle.std.proofs.Common.{◌≢◌, ◌<◌, ℕ, codes, List, [], ◌∷◌, ◌++◌, None, Some, Option, IfSome, arith}
use Rattle.std.specs.List.{AllByRecursion}
use Rattle.std.proofs.lemmas.List.Elements.{All-nil, All-cons}
use Rattle.osm_base.specs.declared.values.object.Entry.{Entry}
use Rattle.osm_base.specs.declared.values.object.Object.{Object}
use Rattle.osm_base.specs.declared.values.object.Object.TheVariants.{Node, Way, Relation}
use Rattle.osm_base.specs.values.Degrees.{degrees}
use Rattle.osm_base.specs.values.Place.{IsOnEarth, PlaceOf}
use Rattle.opl_lines.specs.Lines.{IsWithinLine}
use Rattle.opl_object.specs.Lists.{key_text, members_text, nodes_text, tags_text}
use Rattle.opl_object.specs.Written.{HasIds, IsSound, fields_text, line_text, object_text, place_text}
use Rattle.opl_object.proofs.WrittenLines.{key_visible, members_visible, nodes_visible, tags_visible}
use Rattle.opl_object.proofs.WrittenNumbers.{coordinate_spelled, coordinate_visible, lat_near, lon_near}
use Rattle.osm_base.specs.declared.values.place.TheConstants.{MAX_LAT, MAX_LON}
use Rattle.std.specs.Prelude.{nat_abs}
use Rattle.opl_object.proofs.WrittenTexts.{AreVisible}
use Rattle.demo_map.specs.Written.{FitsLine}

abbrev IsWithin : List ℕ → Type 0
IsWithin text = AllByRecursion (λ byte. byte ≢ 10) text

both : (front rest : List ℕ) → IsWithin front → IsWithin rest → IsWithin (front ++ rest)
both [] rest one other = other
both (byte ∷ front) rest one other = (one.0, both front rest one.1 other)

-- a blank and a letter before a field
led : (letter : ℕ) (text : List ℕ) → 32 < letter → IsWithin text → IsWithin (32 ∷ letter ∷ text)
led letter text above within = ((λ same. omega (arith, same)), ((λ same. omega (arith, above, same)), within))

seen : (text : List ℕ) → AreVisible text → IsWithin text
seen [] all = tt
seen (byte ∷ text) all = ((λ same. omega (arith, all.0.least, same)), seen text all.1)

place_within : (place : Option PlaceOf) → IfSome place (λ own. IsOnEarth own.lon own.lat) → IsWithin (place_text place)
place_within None earth = led 120 (32 ∷ 121 ∷ []) (omega arith) (led 121 [] (omega arith) tt)
place_within (Some place) earth =
    both (codes " x" ++ degrees place.lon) (codes " y" ++ degrees place.lat)
    (led 120 (degrees place.lon) (omega arith) (seen (degrees place.lon) (coordinate_visible (nat_abs MAX_LON) (degrees place.lon) place.lon
    (coordinate_spelled (nat_abs MAX_LON) place.lon (lon_near place.lon earth.east earth.west) (omega arith)))))
    (led 121 (degrees place.lat) (omega arith) (seen (degrees place.lat) (coordinate_visible (nat_abs MAX_LAT) (degrees place.lat) place.lat
    (coordinate_spelled (nat_abs MAX_LAT) place.lat (lat_near place.lat earth.north earth.south) (omega arith)))))

object_within : (object : Object) → HasIds object → IsSound object → IsWithin (object_text object)
object_within (Node place tags) ids sound =
    both (codes " T" ++ tags_text tags) (place_text place) (led 84 (tags_text tags) (omega arith) (seen (tags_text tags) (tags_visible tags)))
    (place_within place sound.0)
object_within (Way nodes tags) ids sound =
    both (codes " T" ++ tags_text tags) (codes " N" ++ nodes_text nodes)
    (led 84 (tags_text tags) (omega arith) (seen (tags_text tags) (tags_visible tags)))
    (led 78 (nodes_text nodes) (omega arith) (seen (nodes_text nodes) (nodes_visible nodes ids)))
object_within (Relation members tags) ids sound =
    both (codes " T" ++ tags_text tags) (codes " M" ++ members_text members)
    (led 84 (tags_text tags) (omega arith) (seen (tags_text tags) (tags_visible tags)))
    (led 77 (members_text members) (omega arith) (seen (members_text members) (members_visible members sound.1)))

fields_within : (object : Option Object) → IfSome object HasIds → IfSome object IsSound → IsWithin (fields_text object)
fields_within None ids sound = led 100 (68 ∷ []) (omega arith) ((λ same. omega (arith, same)), tt)
fields_within (Some object) ids sound = object_within object ids sound

by_index : (text : List ℕ) → IsWithin text → IsWithinLine text
by_index [] all = All-nil (λ byte. byte ≢ 10)
by_index (byte ∷ text) all = All-cons (λ byte. byte ≢ 10) byte text all.0 (by_index text all.1)

pub line_within : (entry : Entry) → FitsLine entry → IsWithinLine (line_text entry)
unfolding line_text
line_within entry fits =
    by_index (key_text entry.key ++ fields_text entry.object)
    (both (key_text entry.key) (fields_text entry.object) (seen (key_text entry.key) (key_visible entry.key fits.id))
    (fields_within entry.object fits.writable.ids fits.sound))
