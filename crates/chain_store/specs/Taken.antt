-- What was taken out of a transaction to be committed.
use Rattle.std.specs.Prelude.{◌≢◌, ◌≤◌, ℕ, List, IsTrue}
use Rattle.std.specs.Int.{is_power_of_two}
use Rattle.outside.specs.declared.disk.Disk.{Ghosts}
use Rattle.page_journal.specs.Journal.{home_count}
use Rattle.page_journal.specs.declared.journal.Journal.{Journal}
use Rattle.chain_store.specs.Gathered.{AreGathered}
use Rattle.chain_store.specs.Kept.{AreAllBehindRoot, buckets_in}
use Rattle.chain_store.specs.Known.{AreGone, AreKnown, AreStored}
use Rattle.chain_store.specs.Plan.{IsPlan}
use Rattle.chain_store.specs.Store.{kept_first}
use Rattle.chain_store.specs.declared.chains.committing.Taken.{Taken}
use Rattle.chain_store.specs.declared.kept.Kept.{Kept}
use Rattle.chain_store.specs.declared.parts.Part.{Part}
use Rattle.chain_store.specs.declared.planning.Plan.{Plan}

-- a commit may be made of this
pub record MayCommit {D : Type 0} {g : Ghosts D} (journal : Journal D g) (kept : Kept) (taken : Taken) : Type 0 where
  pub known : AreKnown (home_count journal) taken.read
  pub behind : AreAllBehindRoot (home_count journal) kept.directories.items
  pub stored : AreStored taken.root.buckets taken.read taken.written
  pub gone : AreGone (buckets_in kept.front.items) taken.root.buckets (kept_first kept) taken.written
  pub few : taken.root.buckets ≤ 65536
  pub count : taken.root.buckets ≢ buckets_in kept.front.items → IsTrue (is_power_of_two taken.root.buckets)

-- this is what a commit of it writes
pub record Plans (kept : Kept) (taken : Taken) (free : List ℕ) (home : ℕ) (plan : Plan) : Type 0 where
  pub parts : List Part
  pub gathered : AreGathered taken.written taken.read taken.before parts
  pub is : IsPlan kept taken.root parts free home plan
