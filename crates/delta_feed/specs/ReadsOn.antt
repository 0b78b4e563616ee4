-- What a call of a reader leaves alone, and why it may stop.
use Rattle.std.specs.Prelude.{ℕ, List, Result, IfErr}
use Rattle.outside.specs.Reads.{ReadsNoOther}
use Rattle.outside.specs.Causes.{Rose}
use Rattle.outside.specs.Inputs.{FilesView}
use Rattle.delta_feed.specs.Feeding.{IsSameReader}
use Rattle.delta_feed.specs.Stops.{Stops}
use Rattle.delta_feed.specs.declared.fault.FeedFault.{FeedFault}
use Rattle.delta_feed.specs.declared.reader.FeedReader.{FeedReader}

-- the reader stays that of its file, and asks for no other; it stops where a line has a fault of which this is so, where a read failed, or
-- where memory ran out
pub record ReadsOn {A : Type 0} (outcome : Result A FeedFault) (found : FeedFault → Type 0) (asks : List ℕ → Type 0) (old new : FeedReader)
    (before after : FilesView) : Type 0 where
  pub same : IsSameReader old new
  pub read : ReadsNoOther old.file asks before after
  pub stopped : IfErr outcome (Stops found (Rose before.faults after.faults))
