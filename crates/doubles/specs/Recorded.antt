-- Bytes in memory with the calls that made them. What a call cites that does not name the struct.
use Rattle.std.specs.Prelude.{ℕ, List, Option, Some, None, Vec}
use Rattle.std.specs.declared.alloc.Global.{Global}

-- the bytes before the first write: those that were kept then, or where there was no write, those that are there
abbrev pub first_bytes : Option (Vec ℕ Global) → List ℕ → List ℕ
first_bytes None bytes = bytes
first_bytes (Some kept) bytes = kept.items
