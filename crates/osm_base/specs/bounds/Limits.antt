-- The limits of a run: those of the program, and those that a caller may ask for.
use Rattle.std.specs.Prelude.{◌≤◌}
use Rattle.osm_base.specs.declared.bounds.limits.LimitNumbers.{LimitNumbers}
use Rattle.osm_base.specs.declared.bounds.limits.TheConstants.{MAX_LINE_BYTES, MAX_LINES, MAX_ENTRIES, MAX_PAGES, MAX_PENDING}

-- the limits of the program
abbrev pub standard : LimitNumbers
standard = record {
  line_bytes = MAX_LINE_BYTES;
  lines = MAX_LINES;
  entries = MAX_ENTRIES;
  pages = MAX_PAGES;
  pending = MAX_PENDING;
}

-- none of the limits is above its number in the program
pub record IsWithinStandard (limits : LimitNumbers) : Type 0 where
  pub line_bytes : limits.line_bytes ≤ MAX_LINE_BYTES
  pub lines : limits.lines ≤ MAX_LINES
  pub entries : limits.entries ≤ MAX_ENTRIES
  pub pages : limits.pages ≤ MAX_PAGES
  pub pending : limits.pending ≤ MAX_PENDING
