-- What a transaction tells of the pages of its chains.
use Rattle.std.proofs.Math.Nat.{mod-eq_of_lt}
use Rattle.std.proofs.Common.{◌≡◌, inl, inr, ℕ, ◌+◌, ◌-◌, ◌*◌, ◌/◌, ◌<◌, ◌≤◌, List, Err, sym, ap, subst, ◌∙◌, arith}
use Rattle.outside.specs.declared.disk.Disk.{Ghosts}
use Rattle.page_journal.specs.Journal.{is_broken}
use Rattle.page_journal.specs.declared.fault.StoreFault.{StoreFault}
use Rattle.page_journal.specs.declared.fault.StoreFault.TheVariants as refusals
use Rattle.chain_store.specs.Answers.{IsReadAnswer}
use Rattle.chain_store.specs.Chains.{ListsPages, first_of, journal_of, kept_of}
use Rattle.chain_store.specs.State.{IsOwner}
use Rattle.bucket_store.specs.Buckets.{IsBucketChain, bucket_count, bucket_in, chain_at}
use Rattle.bucket_store.specs.Image.{Has, Image, IsSoundAnswer}
use Rattle.bucket_store.specs.Listing.{ListsChain}
use Rattle.bucket_store.specs.Transaction.{BringsBucket, IsOpenStore, chains_of}
use Rattle.bucket_store.specs.declared.buckets.Buckets.{Buckets}
use Rattle.bucket_store.proofs.Holding.{none_refused}
use Rattle.bucket_store.proofs.Sound.{sound_bring}

-- a bucket's chain is that of a key
chain_is : (buckets n : ℕ) → IsBucketChain buckets n → n ≡ chain_at buckets ((n - 16) / 65536) (bucket_in n)
chain_is buckets n is =
    let whole : n ≡ 16 + 65536 * ((n - 16) / 65536) + bucket_in n = omega (arith, is.0) in
    whole ∙ ap (λ (k : ℕ). 16 + 65536 * ((n - 16) / 65536) + k) (sym (mod-eq_of_lt is.2))

pub some_buckets : (buckets n : ℕ) → IsBucketChain buckets n → 1 ≤ buckets
some_buckets buckets n is = omega (arith, is.2)

module _ {D : Type 0} {g : Ghosts D} where
  -- a refusal of a bucket
  pub lists_bucket : (pages : List (List ℕ)) (buckets : Buckets D g) (n : ℕ) (fault : StoreFault) → 16 ≤ n
      → BringsBucket {T = Unit {0}} pages buckets n (Err fault)
      → ListsChain pages buckets n (Err fault)
  lists_bucket pages buckets n refusals.NotFormatted high brings = tt
  lists_bucket pages buckets n refusals.NotEmpty high brings = tt
  lists_bucket pages buckets n (refusals.BadStore at) high brings = inr (high, brings)
  lists_bucket pages buckets n refusals.DiskFault high brings = tt
  lists_bucket pages buckets n (refusals.StoreFull many) high brings = tt
  lists_bucket pages buckets n refusals.Broken high brings = tt
  lists_bucket pages buckets n refusals.OutOfMemory high brings = tt

  -- and of a string
  pub lists_string : (pages : List (List ℕ)) (buckets : Buckets D g) (n : ℕ) (fault : StoreFault) → n < 16
      → ListsPages pages n (first_of (chains_of buckets) n) (Err fault) → ListsChain pages buckets n (Err fault)
  lists_string pages buckets n refusals.NotFormatted low lists = tt
  lists_string pages buckets n refusals.NotEmpty low lists = tt
  lists_string pages buckets n (refusals.BadStore at) low lists = inl (low, lists)
  lists_string pages buckets n refusals.DiskFault low lists = tt
  lists_string pages buckets n (refusals.StoreFull many) low lists = tt
  lists_string pages buckets n refusals.Broken low lists = tt
  lists_string pages buckets n refusals.OutOfMemory low lists = tt

  pub sound_chain : (fault : StoreFault) (rest now : Image) (buckets : Buckets D g) (n : ℕ)
      → IsBucketChain (bucket_count (chains_of buckets)) n
      → ((pages : List (List ℕ)) → IsOpenStore pages buckets → BringsBucket {T = Unit {0}} pages buckets n (Err fault))
      → IsReadAnswer {T = Unit {0}} (is_broken (journal_of (chains_of buckets))) (Err fault) → Has rest now buckets
      → IsSoundAnswer {T = Unit {0}} (Err fault)
  sound_chain fault rest now buckets n is brings alone has =
      sound_bring {T = Unit {0}} (Err fault) rest now buckets ((n - 16) / 65536) (bucket_in n) (omega (arith, is.0, is.1))
      (some_buckets (bucket_count (chains_of buckets)) n is)
      (λ pages opened. subst (λ (k : ℕ). BringsBucket {T = Unit {0}} pages buckets k (Err fault))
      (chain_is (bucket_count (chains_of buckets)) n is) (brings pages opened))
      alone has

  pub sound_lists : (fault : StoreFault) (rest now : Image) (buckets : Buckets D g) (n : ℕ) → IsOwner n
      → ((pages : List (List ℕ)) → IsOpenStore pages buckets → ListsPages pages n (first_of (chains_of buckets) n) (Err fault))
      → IsReadAnswer {T = List ℕ} (is_broken (journal_of (chains_of buckets))) (Err fault) → Has rest now buckets
      → IsSoundAnswer {T = List ℕ} (Err fault)
  sound_lists refusals.NotFormatted rest now buckets n owner lists alone has = absurd alone
  sound_lists refusals.NotEmpty rest now buckets n owner lists alone has = absurd alone
  sound_lists (refusals.BadStore at) rest now buckets n owner lists alone has =
      absurd (none_refused has.pages (kept_of (chains_of buckets)) rest.root has.strings has.opens.open_chains.keeps has.state n at owner
      (lists has.pages has.opens))
  sound_lists refusals.DiskFault rest now buckets n owner lists alone has = tt
  sound_lists (refusals.StoreFull many) rest now buckets n owner lists alone has = absurd alone
  sound_lists refusals.Broken rest now buckets n owner lists alone has =
      absurd (let whole = has.whole in cc (whole, alone))
  sound_lists refusals.OutOfMemory rest now buckets n owner lists alone has = tt
