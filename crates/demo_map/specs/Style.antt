-- The style and the boundary table that the map is imported with.
use Rattle.std.specs.Prelude.{ℕ, false, pos, neg_ℤ, List, [], ◌∷◌, ◌++◌, codes}
use Rattle.style_read.specs.Style.{StyleOf}
use Rattle.style_read.specs.declared.style.Condition.TheVariants.{Has, Is}
use Rattle.style_read.specs.declared.style.Mode.TheVariants.{Full}
use Rattle.style_read.specs.declared.style.Origin.TheVariants.{Selected}
use Rattle.style_read.specs.declared.style.Selection.{Selection}
use Rattle.style_read.specs.declared.style.Source.TheVariants as sources
use Rattle.style_read.specs.declared.style.TableDef.{TableDef}
use Rattle.tile_cover.specs.Table.{BoundsOf}

-- the text of the style
unfoldable pub DEMO_STYLE : List ℕ
DEMO_STYLE =
    codes "[[select]]\nname = \"all\"\nwhere = [\"type=route\"]\ntake = \"ref\"\n\n"
    ++ codes "[[table]]\nname = \"cafes\"\nsource = \"node\"\ngeometry = \"point\"\nwhere = [\"amenity=cafe\"]\n\n"
    ++ codes "[[table]]\nname = \"buildings\"\nsource = \"area\"\ngeometry = \"polygon\"\nwhere = [\"building\"]\n"
    ++ codes "[[table.column]]\nname = \"lines\"\nfrom = \"selected:all\"\n\n"
    ++ codes "[[table]]\nname = \"routes\"\nsource = \"relation\"\ngeometry = \"lines\"\nwhere = [\"type=route\"]\n"

-- all routes hand on their reference
abbrev pub all_routes : Selection
all_routes = record { name = codes "all"; conditions = Is (codes "type") (codes "route") ∷ []; take = codes "ref" }

-- the nodes that are cafes
abbrev pub cafes : TableDef
cafes = record {
  name = codes "cafes";
  source = sources.Node;
  all_of = Is (codes "amenity") (codes "cafe") ∷ [];
  one_of = [];
  mode = Full;
  columns = [];
}

-- the areas that are buildings, with the references of the routes along them
abbrev pub buildings : TableDef
buildings = record {
  name = codes "buildings";
  source = sources.Area;
  all_of = Has (codes "building") ∷ [];
  one_of = [];
  mode = Full;
  columns = record { name = codes "lines"; origin = Selected 0; int = false } ∷ [];
}

-- the relations that are routes
abbrev pub routes : TableDef
routes = record {
  name = codes "routes";
  source = sources.Relation;
  all_of = Is (codes "type") (codes "route") ∷ [];
  one_of = [];
  mode = Full;
  columns = [];
}

-- what the text is read as
unfoldable pub demo_style : StyleOf
demo_style = record { selections = all_routes ∷ []; tables = cafes ∷ buildings ∷ routes ∷ [] }

-- the text of the boundary table: the latitudes that bound the four rows of tiles of zoom 2
unfoldable pub DEMO_BOUNDS : List ℕ
DEMO_BOUNDS = codes "850511288\n665132604\n0\n-665132604\n-850511288\n"

-- what it is read as
abbrev pub demo_bounds : BoundsOf
demo_bounds = record {
  zoom = 2;
  lats = pos 850511288 ∷ pos 665132604 ∷ pos 0 ∷ neg_ℤ (pos 665132604) ∷ neg_ℤ (pos 850511288) ∷ [];
}
