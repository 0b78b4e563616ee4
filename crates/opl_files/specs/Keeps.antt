-- What becomes of one who is given the entries of a file in order.
use Rattle.std.specs.Prelude.{List, fold, Option, None, Some, Result, Ok, Err}
use Rattle.osm_base.specs.declared.values.object.Entry.{Entry}
use Rattle.opl_files.specs.declared.fault.FileFault.{FileFault}

-- given an entry, if there is one
abbrev pub kept : {K : Type 0} → (K → Entry → K) → K → Option Entry → K
kept after keeper None = keeper
kept after keeper (Some entry) = after keeper entry

-- given all entries of a file, unless it has a fault
abbrev pub kept_all : {K : Type 0} → (K → Entry → K) → K → Result (List Entry) FileFault → Result K FileFault
kept_all after keeper (Ok entries) = Ok (fold after keeper entries)
kept_all after keeper (Err fault) = Err fault
