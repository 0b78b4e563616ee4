-- A store that is read a bucket at a time.
use Rattle.std.specs.Prelude.{◌≡◌, ℕ, List}
use Rattle.std.specs.Coded.{Coded, coded_list, coded_ℕ}
use Rattle.std.proofs.Props.{props}
use denote.Struct.Props.{≡_prop}
use Rattle.std.specs.FinMap as map
use Rattle.outside.specs.declared.disk.Disk.{Ghosts}
use Rattle.chain_store.specs.Chains.{kept_of, root_of, written_of}
use Rattle.chain_store.specs.Directories.{root_in}
use Rattle.chain_store.specs.contracts.root.Root as root_type
use Rattle.bucket_store.specs.Transaction.{IsReady, chains_of}
use Rattle.bucket_store.specs.declared.buckets.Buckets.{Buckets}

-- the transaction has changed nothing: its fields are those of the store. Then it can be begun anew, and nothing is lost.
pub record IsUnwritten {D : Type 0} {g : Ghosts D} (buckets : Buckets D g) : Type 0 where
  pub written : written_of (chains_of buckets) ≡ map.empty
  pub root : root_of (chains_of buckets) ≡ root_in (kept_of (chains_of buckets)).front.items

-- it has refused no call, the store has buckets, and nothing was changed
pub record IsUnchanged {D : Type 0} {g : Ghosts D} (buckets : Buckets D g) : Type 0 where
  pub ready : IsReady buckets
  pub unwritten : IsUnwritten buckets

bytes_coded : Coded (List ℕ)
bytes_coded = coded_list coded_ℕ

IsUnwritten-prop : {D : Type 0} {g : Ghosts D} (buckets : Buckets D g) → IsProp (IsUnwritten buckets)
IsUnwritten-prop buckets = hlevel (
  ≡_prop (map.code coded_ℕ bytes_coded) (written_of (chains_of buckets)) map.empty,
  ≡_prop root_type.the_row.coded (root_of (chains_of buckets)) (root_in (kept_of (chains_of buckets)).front.items),
)

-- a transaction is so in one way at most
pub IsUnchanged-prop : {D : Type 0} {g : Ghosts D} (buckets : Buckets D g) → IsProp (IsUnchanged buckets)
IsUnchanged-prop buckets = hlevel (IsUnwritten-prop buckets, props)
