-- What a sink took of a block that was not written whole, and rows that are lent to be written.
use Rattle.std.specs.Prelude.{◌≤◌, ℕ, List, map, Option, Some, Result, IfErr, OnOk}
use Rattle.std.specs.Borrow.{Bor}
use Rattle.std.specs.BTreeMap.{BTreeMap}
use Rattle.std.specs.FinMap as finite
use Rattle.std.specs.Io.KnownBytes.{Appends, Keeps}
use Rattle.osm_base.specs.declared.values.row.Row.{Row}
use Rattle.osm_base.specs.declared.values.row.RowChange.{RowChange}
use Rattle.osm_base.specs.map.Spots.{SpotOf, spot_cmp}
use Rattle.outside.specs.Bytes.{AppendsPrefix}
use Rattle.outside.specs.Causes.{Rose}
use Rattle.outside.specs.Sink.{SinkView}
use Rattle.delta_feed.specs.declared.fault.FeedWrite.{FeedWrite}
use Rattle.delta_feed.specs.declared.fault.FeedWrite.TheVariants.{WriteFault, OutOfMemory}

-- a front of the text, where writing failed; and nothing, where memory ran out
abbrev pub IsUnwritten : List ℕ → SinkView → SinkView → FeedWrite → Type 0
IsUnwritten text old new WriteFault = AppendsPrefix old.taken new.taken text × Rose old.faults new.faults
IsUnwritten text old new OutOfMemory = Keeps old.taken new.taken

-- a text was written whole, or so much of it; the count of faults did not fall
pub record Writes {A : Type 0} (outcome : Result A FeedWrite) (text : List ℕ) (old new : SinkView) : Type 0 where
  pub ok : OnOk outcome (Appends old.taken new.taken text)
  pub err : IfErr outcome (IsUnwritten text old new)
  pub later : old.faults ≤ new.faults

-- the changes that a tree has by their spots
abbrev pub told_by : BTreeMap SpotOf RowChange → finite.FinMap spot_cmp RowChange
told_by told = finite.from_entries told.entries

-- what stands at the spots of rows that are lent
abbrev pub lent_entries : List (Bor SpotOf × Bor Row) → List (SpotOf × Option Row)
lent_entries entries = map (λ entry. (entry.0.now, Some entry.1.now)) entries
