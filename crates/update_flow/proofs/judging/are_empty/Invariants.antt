use Rattle.std.proofs.Common.{◌≡◌, ◌-◌, ◌<◌, ◌≤◌, ℕ, List}
use Rattle.std.specs.FinMap as finite
use Rattle.chain_store.specs.Chains.{first_of, written_of}
use Rattle.chain_store.specs.Store.{HasBytes}
use Rattle.bucket_store.specs.Image.{Has, Image}
use Rattle.bucket_store.specs.Transaction.{IsOpenStore, chains_of}
use Rattle.store_check.specs.BadPage.{IsUnused}
use Rattle.update_flow.specs.Judged.{AreEmptyBelow, HasOnlyRead}
use Rattle.update_flow.specs.Within.{IsGoing, RunsWithin}
use Rattle.std.proofs.Common.{None}
use Rattle.update_flow.proofs.judging.are_empty.Given as goal

-- the texts so far were loaded, and the store was only read
abbrev pub invariant-loop-n : goal.invariant-loop-n
invariant-loop-n g l = record {
  few : l.n ≤ 8;
  going : IsGoing l.buckets;
  runs : RunsWithin l.initial.buckets l.buckets None;
  reads : HasOnlyRead l.initial.buckets l.buckets;
  opens : (pages : List (List ℕ)) → IsOpenStore pages l.initial.buckets → IsOpenStore pages l.buckets;
  chains : (pages : List (List ℕ)) → IsOpenStore pages l.initial.buckets → written_of (chains_of l.initial.buckets) ≡ finite.empty
      → (n : ℕ) → n < l.n → IsUnused n → (bytes : List ℕ) × HasBytes pages n (first_of (chains_of l.initial.buckets) n) bytes;
  tells : (rest : Image) → Has rest rest l.initial.buckets → AreEmptyBelow l.n l.empty rest;
}

abbrev pub decreases-loop-n : goal.decreases-loop-n
decreases-loop-n g l = 8 - l.n
