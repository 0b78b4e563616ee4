-- What an import is asked with.
use Rattle.std.specs.Prelude.{◌≡◌, ◌≤◌, ℕ, List, Ok, IsTrue, length}
use Rattle.std.specs.Int.{is_power_of_two}
use Rattle.osm_base.specs.declared.values.object.Entry.{Entry}
use Rattle.style_read.specs.Reading.{reading}
use Rattle.style_read.specs.Style.{StyleOf}

-- these bytes read as this style, each map may have so many buckets, and there are no more entries than an import may have
pub record MayImport (style_bytes : List ℕ) (style : StyleOf) (buckets : ℕ) (entries : List Entry) : Type 0 where
  pub reads : reading style_bytes ≡ Ok style
  pub power : IsTrue (is_power_of_two buckets)
  pub few_buckets : buckets ≤ 65536
  pub few : length entries ≤ 16777216
