-- Places in bytes: the longitude and the latitude, each as a signed number of four bytes.
use Rattle.std.specs.Prelude.{ℕ, ◌^◌, ◌<◌, List, ◌++◌}
use Rattle.std.specs.Int.{w32, to_le_bytes, cast_unsigned}
use Rattle.osm_base.specs.values.Place.{PlaceOf, IsOnEarth}

-- a number of four bytes
unfoldable pub four_bytes : ℕ → List ℕ
four_bytes number = to_le_bytes w32 number

abbrev pub IsFour : ℕ → Type 0
IsFour number = number < 2 ^ 32

-- a place
unfoldable pub place_bytes : PlaceOf → List ℕ
place_bytes place = four_bytes (cast_unsigned w32 place.lon) ++ four_bytes (cast_unsigned w32 place.lat)

-- a place on the earth
abbrev pub IsPlace : PlaceOf → Type 0
IsPlace place = IsOnEarth place.lon place.lat
