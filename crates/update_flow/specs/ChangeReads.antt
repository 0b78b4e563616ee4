-- How much of its disk a change of an open store reads.
use Rattle.std.specs.Prelude.{ℕ, List}
use Rattle.outside.specs.Disk.{DiskView}
use Rattle.chain_store.specs.Store.{Keeps}
use Rattle.chain_store.specs.declared.kept.Kept.{Kept}
use Rattle.store_maps.specs.Asked.{May}
use Rattle.update_flow.specs.Reads.{MayLoad, ReadsOnce}

-- of a store at rest with these home pages and so many buckets the due tiles were read, buckets of keys that may be asked,
-- and the free list, each once
abbrev pub ReadsTouched : May → ℕ → List (List ℕ) → DiskView → DiskView → Type 0
ReadsTouched may buckets pages before after = (kept : Kept) × Keeps pages kept × ReadsOnce (MayLoad may buckets) pages kept before after
