-- Where there is no geometry there is no row.
use Rattle.std.proofs.Common.{◌≡◌, Bool, true, false, List, Option, None, refl, sym, ap}
use Rattle.std.specs.Prelude.{if◌then◌else◌}
use Rattle.osm_base.specs.declared.values.row.Cell.{Cell}
use Rattle.osm_base.specs.declared.values.row.Geometry.{Geometry}
use Rattle.row_rules.specs.Row.{with_geometry}

pub no_row : (wanted : Bool) (cells : List Cell) (geometry : Option Geometry) → geometry ≡ None
    → None ≡ (if wanted then with_geometry cells geometry else None)
no_row true cells geometry none = ap (with_geometry cells) (sym none)
no_row false cells geometry none = refl
