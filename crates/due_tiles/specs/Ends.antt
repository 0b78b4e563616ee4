-- Why the text of tiles is not written.
use Rattle.due_tiles.specs.declared.fault.TilesFault.{TilesFault}
use Rattle.due_tiles.specs.declared.fault.TilesFault.TheVariants.{WriteFault, OutOfMemory}

-- the output refused, and this is so; or memory ran out
abbrev pub Ends : Type 0 → TilesFault → Type 0
Ends refused WriteFault = refused
Ends refused OutOfMemory = Unit {0}
