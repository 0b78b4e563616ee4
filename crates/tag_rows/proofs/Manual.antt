-- Examples written out by hand.
use Rattle.std.proofs.Common.{◌≡◌, refl}
use Rattle.std.specs.Prelude.{codes, pos}
use Rattle.std.specs.Fmt.{digits}
use Rattle.std.proofs.Math.Utf8.{encode}
use Rattle.row_text.specs.CopyText.{text_of_byte}
use Rattle.row_text.specs.Row.{row_line}
use Rattle.osm_base.specs.values.Degrees.{degrees, fraction}
use Rattle.tag_rows.specs.Points.{point_row}

-- a row of points
pub point_row-cafe : point_row 1 (codes "cafe") (record { lon = pos 133777000; lat = pos 525163000 })
    ≡ codes "1\tcafe\tPOINT(13.3777 52.5163)\n"
unfolding row_line text_of_byte degrees fraction digits encode
point_row-cafe = refl
