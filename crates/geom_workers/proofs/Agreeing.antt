-- Rows out of what is known are the rows of the map, where what is known suffices.
use Rattle.std.proofs.Common.{◌≡◌, List, [], ◌∷◌, length, refl}
use Rattle.osm_base.specs.map.Known.{Known}
use Rattle.osm_base.specs.map.Objects.{ObjectSet}
use Rattle.osm_base.specs.values.Key.{KeyOf}
use Rattle.style_read.specs.Style.{StyleOf}
use Rattle.row_rules.proofs.Locality.{row_from-suffices}
use Rattle.row_rules.specs.Rows.{rows_below, rows_in, rows_known}
use Rattle.geom_workers.specs.Rows.{RowsAgree, SufficesFor}

same_rows : (style : StyleOf) (known : Known) (objects : ObjectSet) (key : KeyOf) → SufficesFor style known objects key
    → rows_known style known key ≡ rows_in style objects key
unfolding rows_known rows_in
same_rows style known objects key suffices =
    λ i. rows_below (λ table. row_from-suffices style table key known objects (suffices table) i) (length style.tables)

pub agree : (style : StyleOf) (known : Known) (keys : List KeyOf) → RowsAgree style known keys
agree style known [] objects all = refl
agree style known (key ∷ keys) objects all = λ i. same_rows style known objects key all.0 i ∷ agree style known keys objects all.1 i
