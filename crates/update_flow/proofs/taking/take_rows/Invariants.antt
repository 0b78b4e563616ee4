use Rattle.std.proofs.Common.{◌≡◌, false, None, length, reverse}
use Rattle.osm_base.specs.map.Spots.{TableMap, changed_all}
use Rattle.bucket_store.specs.Buckets.{bucket_count}
use Rattle.bucket_store.specs.Image.{Has, Image}
use Rattle.bucket_store.specs.Transaction.{chains_of, has_refused}
use Rattle.row_store.specs.Tables.{HoldsTables}
use Rattle.update_flow.specs.Taking.{AllFit, HasTables}
use Rattle.update_flow.specs.Within.{RunsWithin}
use Rattle.update_flow.proofs.taking.take_rows.Given as goal

-- the changes so far were made: those that are left, the last of them first, lead to what all of them do
abbrev pub invariant-loop-change : goal.invariant-loop-change
invariant-loop-change g l = record {
  going : has_refused l.buckets ≡ false;
  runs : RunsWithin l.initial.buckets l.buckets None;
  count : bucket_count (chains_of l.buckets) ≡ bucket_count (chains_of l.initial.buckets);
  fit : AllFit l.style.tables (reverse l.changes.items);
  taken : (rest now : Image) (tables : TableMap) → Has rest now l.initial.buckets → HoldsTables l.style.tables now.maps tables
      → (mid : TableMap) × HasTables l.style.tables mid rest now l.buckets
      × (changed_all mid (reverse l.changes.items) ≡ changed_all tables l.fn.changes);
}

abbrev pub decreases-loop-change : goal.decreases-loop-change
decreases-loop-change g l = length l.changes.items
