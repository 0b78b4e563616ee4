-- A list of the index in bytes: ids, one after another, with no number in front.
use Rattle.std.specs.Prelude.{◌≤◌, ℕ, List, length}
use Rattle.osm_base.specs.values.Ids.{AreRisingIds}
use Rattle.value_bytes.specs.Forms.{all_bytes}
use Rattle.value_bytes.specs.Numbers.{number_bytes}

abbrev pub ids_bytes : List ℕ → List ℕ
ids_bytes ids = all_bytes number_bytes ids

-- a list that is kept: rising ids, at least one
pub record AreListed (ids : List ℕ) : Type 0 where
  pub some : 1 ≤ length ids
  pub rising : AreRisingIds ids
