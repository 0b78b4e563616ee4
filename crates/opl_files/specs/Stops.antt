-- Why reading a file stops before its end.
use Rattle.opl_files.specs.declared.fault.FileFault.{FileFault}
use Rattle.opl_files.specs.declared.fault.FileFault.TheVariants.{Malformed, Limit, ReadFault, OutOfMemory}

-- a line has a fault, of which this is so; a read failed, and this is so; or memory ran out
abbrev pub Stops : (FileFault → Type 0) → Type 0 → FileFault → Type 0
Stops found failed (Malformed line why) = found (Malformed line why)
Stops found failed (Limit which value) = found (Limit which value)
Stops found failed ReadFault = failed
Stops found failed OutOfMemory = Unit {0}

-- the same where nothing is read from outside
abbrev pub StopsAt : (FileFault → Type 0) → FileFault → Type 0
StopsAt found fault = Stops found ⊥ fault
