-- What a file can have as a line, and what is read of a file that is written.
use Rattle.std.specs.Prelude.{◌≡◌, ◌≤◌, List, Ok, flat_map, length, IfSome}
use Rattle.osm_base.specs.bounds.Limits.{standard}
use Rattle.osm_base.specs.declared.bounds.limits.TheConstants.{MAX_LINE_BYTES}
use Rattle.osm_base.specs.declared.values.object.Entry.{Entry}
use Rattle.osm_base.specs.values.Key.{IsId}
use Rattle.opl_object.specs.Written.{IsSound, IsWritable, entry_text, line_text}
use Rattle.opl_files.specs.Entries.{entries_of}

-- an entry that can be written, whose id, place, members and texts are as the types have them, in a line that is not too long
pub record FitsLine (entry : Entry) : Type 0 where
  pub writable : IsWritable entry
  pub id : IsId entry.key.id
  pub sound : IfSome entry.object IsSound
  pub short : length (line_text entry) ≤ MAX_LINE_BYTES

-- a file of these entries, as they are written, is read as these
abbrev pub AreReadAgain : List Entry → Type 0
AreReadAgain entries = entries_of standard (flat_map entry_text entries) ≡ Ok entries
