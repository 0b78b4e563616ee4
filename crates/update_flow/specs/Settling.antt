-- What an import or a change leaves beside the maps of a store.
use Rattle.std.specs.Prelude.{ℕ, List}
use Rattle.tile_cover.specs.declared.runs.Run.{Run}
use Rattle.due_tiles.specs.Spelling.{set_bytes}
use Rattle.chain_store.specs.declared.root.Root.{Root}
use Rattle.bucket_store.specs.Image.{Image, with_root, with_text}
use Rattle.update_flow.specs.declared.fields.TheConstants.{DUE_TEXT, IMPORTED, IMPORTED_FORMAT, STYLE_TEXT}

-- fields with another number of changes
abbrev pub counted_to : ℕ → Root → Root
counted_to number root = record { format = root.format; state = root.state; changes = number; buckets = root.buckets }

-- a store with so many changes and these due tiles
abbrev pub committed_due : ℕ → List Run → Image → Image
committed_due number runs image = with_root (counted_to number image.root) (with_text DUE_TEXT (set_bytes runs) image)

-- the fields of a store with so many buckets that was just imported
abbrev pub fresh_root : ℕ → Root
fresh_root buckets = record { format = IMPORTED_FORMAT; state = IMPORTED; changes = 0; buckets = buckets }

-- the fields of an old store in the format of today, and the store with them
abbrev pub migrated_root : Root → Root
migrated_root root = record { format = IMPORTED_FORMAT; state = root.state; changes = root.changes; buckets = root.buckets }

abbrev pub migrated : Image → Image
migrated image = with_root (migrated_root image.root) image

-- a store that was just imported, with these bytes of its style
abbrev pub begun : List ℕ → Image → Image
begun bytes image = with_root (fresh_root image.root.buckets) (with_text STYLE_TEXT bytes image)
