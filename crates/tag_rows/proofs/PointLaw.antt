-- The rows that are kept while files are read are those of the objects that the entries make.
use Rattle.std.proofs.Common.{◌≡◌, List, ℕ}
use Rattle.std.specs.FinMap as finite
use Rattle.osm_base.specs.declared.values.object.Entry.{Entry}
use Rattle.osm_base.specs.map.Objects.{folded_all}
use Rattle.tag_rows.specs.Points.{points_text}
use Rattle.tag_rows.specs.PointRows.{rows_text, no_rows, after_entries, Shows}
use Rattle.tag_rows.proofs.PointRowLaws.{Keeps, kept_first, kept_entries, kept-text, kept_shows}

kept_all : (key : List ℕ) → (entries : List Entry) → Keeps key (after_entries (no_rows key) entries) (folded_all finite.empty entries)
kept_all key entries = kept_entries key entries (no_rows key) finite.empty (kept_first key)

pub rows_show_objects : (key : List ℕ) → (entries : List Entry)
    → Shows (after_entries (no_rows key) entries) (folded_all finite.empty entries)
rows_show_objects key entries = kept_shows key _ _ (kept_all key entries)

pub rows_are_points : (key : List ℕ) → (entries : List Entry)
    → rows_text (after_entries (no_rows key) entries) ≡ points_text key (folded_all finite.empty entries)
rows_are_points key entries = kept-text key _ _ (kept_all key entries)
