use Rattle.std.proofs.Common.{◌≡◌, ◌-◌, ◌%◌, ◌<◌, ℕ, List, Some, false}
use Rattle.std.specs.FinMap as map
use Rattle.std.specs.Option.{IsSome}
use Rattle.page_journal.specs.Journal.{is_broken}
use Rattle.chain_store.specs.Chains.{OnlyRead, journal_of}
use Rattle.bucket_store.specs.Image.{Has, Image, OnlyLooks}
use Rattle.bucket_store.specs.Transaction.{chains_of, has_refused}
use Rattle.row_store.specs.Loading.{AreRowsOf, AreTold, Fills, RowsBySpot}
use Rattle.value_bytes.specs.StoreMap.{map_number}
use Rattle.row_store.proofs.loading.add_map.Given as goal

-- the buckets so far have rows alone and have filled in theirs, and the store was only read
abbrev pub invariant-loop-bucket : goal.invariant-loop-bucket
invariant-loop-bucket g l = record {
  going : has_refused l.buckets ≡ false;
  still : is_broken (journal_of (chains_of l.buckets)) ≡ is_broken (journal_of (chains_of l.initial.buckets));
  same : OnlyLooks l.initial.buckets l.buckets;
  stays : OnlyRead (chains_of l.initial.buckets) (chains_of l.buckets);
  has : (rest now : Image) → Has rest now l.initial.buckets → Has rest now l.buckets;
  filled : (rest now : Image) (rows : RowsBySpot) → Has rest now l.initial.buckets
      → AreTold l.style.tables l.wanted (map_number l.map) rows (now.maps (map_number l.map))
      → Fills (map_number l.map) rows (λ n. IsSome (map.get (now.maps (map_number l.map)) n) × (n % now.root.buckets < l.bucket))
      (g.F.Filled.tables l.initial.tables) (g.F.Filled.tables l.tables);
  spelled : (rest now : Image) → Has rest now l.initial.buckets → (number : ℕ) (bytes : List ℕ)
      → map.get (now.maps (map_number l.map)) number ≡ Some bytes → number % now.root.buckets < l.bucket
      → AreRowsOf l.style.tables (map_number l.map) number bytes;
}

abbrev pub decreases-loop-bucket : goal.decreases-loop-bucket
decreases-loop-bucket g l = l.count - l.bucket
