-- What a commit of buckets makes of the store.
use Rattle.std.proofs.Common.{◌≡◌, ◌⊎◌, ℕ, Bool, ◌+◌, List, length, Result, Ok, Err, subst, inl, inr, arith}
use Rattle.std.specs.FinMap as map
use Rattle.outside.specs.Disk.{DiskView, Goes, Stays}
use Rattle.outside.specs.declared.disk.Disk.{Ghosts}
use Rattle.page_journal.specs.Crash.{IsAtRest}
use Rattle.page_journal.specs.Journal.{is_broken}
use Rattle.page_journal.specs.declared.fault.StoreFault.{StoreFault}
use Rattle.page_journal.specs.declared.fault.StoreFault.TheVariants.{NotFormatted, NotEmpty, BadStore, DiskFault, StoreFull, Broken}
use Rattle.page_journal.specs.declared.fault.StoreFault.TheVariants.{OutOfMemory}
use Rattle.page_journal.proofs.Moments.{goes_then, goes_weaker}
use Rattle.chain_store.specs.declared.chains.Chains.{Chains}
use Rattle.chain_store.specs.declared.root.Root.{Root}
use Rattle.chain_store.specs.Answers.{IsReadAnswer}
use Rattle.chain_store.specs.Chain.{HasPages}
use Rattle.chain_store.specs.Chains.{IsOpen, before_of, journal_of, kept_of, read_of, root_of, written_of}
use Rattle.chain_store.specs.Ends.{Ends, IsCommitAnswer, Leaves}
use Rattle.chain_store.specs.Links.{page_in}
use Rattle.chain_store.specs.Store.{IsRefused, kept_first}
use Rattle.chain_store.specs.declared.kept.Kept.{Kept}
use Rattle.chain_store.specs.declared.layout.TheConstants.{FREE}
use Rattle.chain_store.specs.Known.{Lists, changed, own_or}
use Rattle.chain_store.specs.State.{HasState, IsState}
use Rattle.chain_store.proofs.Commits.{idle}
use Rattle.bucket_store.specs.Cache.{CacheMap}
use Rattle.bucket_store.specs.Committing.{CommitsBuckets, Fills, WritesBuckets, after, given}
use Rattle.bucket_store.specs.Image.{HasImage, Image, Spells}
use Rattle.bucket_store.specs.Transaction.{IsOpenWith}
use Rattle.bucket_store.proofs.Caches.{nothing}

-- what is written is what is given
pub given_is : (strings : ℕ → List ℕ) (cache : CacheMap) (old new : Lists)
    → ((n : ℕ) → map.get new n ≡ after (map.get cache n) (map.get old n)) → changed strings new ≡ given strings cache old
given_is strings cache old new written = λ i n. own_or (written n i) (strings n)

pub state_given : (was next : Root) (one two : ℕ → List ℕ) (left : List ℕ) → was ≡ next → one ≡ two → HasState was one left
    → HasState next two left
state_given was next one two left root strings state =
    subst (λ (s : ℕ → List ℕ). HasState next s left) strings (subst (λ (r : Root). HasState r one left) root state)

pub is_given : (was next : Root) (one two : ℕ → List ℕ) (pages : List (List ℕ)) → was ≡ next → one ≡ two → IsState was one pages
    → IsState next two pages
is_given was next one two pages root strings state =
    subst (λ (s : ℕ → List ℕ). IsState next s pages) strings (subst (λ (r : Root). IsState r one pages) root state)

pub moment_given : (pages : List (List ℕ)) (old mid new : DiskView) (root was next : Root) (strings one two : ℕ → List ℕ)
    → IsAtRest pages old
    → Stays old mid → IsState root strings pages → was ≡ next → one ≡ two
    → Goes (λ left. HasState root strings left ⊎ HasState was one left) mid.crashes new.crashes
    → Goes (λ left. HasState root strings left ⊎ HasState next two left) old.crashes new.crashes
moment_given pages old mid new root was next strings one two rests stays state root-is strings-are goes =
    goes_then (λ left. HasState root strings left ⊎ HasState next two left) old.crashes mid.crashes new.crashes
    (idle pages rests.0 old mid root strings (HasState next two) rests.1 stays state)
    (goes_weaker (λ left. HasState root strings left ⊎ HasState was one left) (λ left. HasState root strings left ⊎ HasState next two left)
    mid.crashes new.crashes goes (λ left has. elim has [
      | inl before ↦ inl before
      | inr later ↦ inr (state_given was next one two left root-is strings-are later)
    ]))

-- before the commit itself a crash leaves what it left
pub moment_idle : (pages : List (List ℕ)) (old mid : DiskView) (root next : Root) (strings two : ℕ → List ℕ) → IsAtRest pages old
    → Stays old mid
    → IsState root strings pages → Goes (λ left. HasState root strings left ⊎ HasState next two left) old.crashes mid.crashes
moment_idle pages old mid root next strings two rests stays state =
    idle pages rests.0 old mid root strings (HasState next two) rests.1 stays state

pub images_idle : (rest now : Image) (pages : List (List ℕ)) (old mid : DiskView) (strings : ℕ → List ℕ) → IsAtRest pages old
    → Stays old mid
    → IsState rest.root strings pages → Spells rest strings → Goes (λ left. HasImage rest left ⊎ HasImage now left) old.crashes mid.crashes
images_idle rest now pages old mid strings rests stays state spells =
    goes_weaker (λ left. HasState rest.root strings left ⊎ HasImage now left)
    (λ left. HasImage rest left ⊎ HasImage now left) old.crashes mid.crashes
    (idle pages rests.0 old mid rest.root strings (HasImage now) rests.1 stays state) (λ left has. elim has [
      | inl was ↦ inl (record { strings = strings; state = was; spells = spells })
      | inr later ↦ inr later
    ])

-- a call that reads chains ends as a commit may
pub alone_commits : (fault : StoreFault) (broken : Bool) (limit : ℕ) → IsReadAnswer {T = Unit {0}} broken (Err fault)
    → IsCommitAnswer {T = Unit {0}} broken limit (Err fault)
alone_commits NotFormatted broken limit is = is
alone_commits NotEmpty broken limit is = is
alone_commits (BadStore at) broken limit is = is
alone_commits DiskFault broken limit is = is
alone_commits (StoreFull pages) broken limit is = absurd is
alone_commits Broken broken limit is = is
alone_commits OutOfMemory broken limit is = is

-- with no bucket the store is open where its chains are
pub open_none : {D : Type 0} {g : Ghosts D} (pages : List (List ℕ)) (chains : Chains D g) (cache : CacheMap) → cache ≡ map.empty
    → IsOpen pages chains
    → IsOpenWith pages chains cache
open_none pages chains cache none opens = record {
  open_chains = opens;
  had = λ n own there same. absurd (nothing cache n own none there);
  origins = λ n own there. absurd (nothing cache n own none there);
}

-- what the chains answer is what the buckets answer
module _ {D : Type 0} {g : Ghosts D} (pages : List (List ℕ)) (old mid : Chains D g) (cache : CacheMap) (kept : kept_of mid ≡ kept_of old)
    (root : root_of mid ≡ root_of old) (opens : IsOpen pages mid)
    (gives : (n : ℕ) → map.get (written_of mid) n ≡ after (map.get cache n) (map.get (written_of old) n)) where
  fills : (home : ℕ) → Leaves pages (kept_of mid) (root_of mid) (written_of mid) (read_of mid) (before_of mid) home
      → Fills pages old cache home
  fills home leaves = record {
    written = written_of mid;
    read = read_of mid;
    before = before_of mid;
    gives = gives;
    known = λ n ns there. subst (λ (k : Kept). HasPages (page_in pages) (length pages + 1) n (kept_first k n) ns) kept
        (opens.known n ns there);
    leaves = subst (λ (r : Root). Leaves pages (kept_of old) r (written_of mid) (read_of mid) (before_of mid) home) root
        (subst (λ (k : Kept). Leaves pages k (root_of mid) (written_of mid) (read_of mid) (before_of mid) home) kept leaves);
  }

  pub commits_chains : (result : Result (Unit {0}) StoreFault) (limit before home : ℕ) → limit ≡ before
      → Ends pages (kept_of mid) (root_of mid) (written_of mid) (read_of mid) (before_of mid) limit home result
      → CommitsBuckets pages old cache before home result
  commits_chains (Ok done) limit before home same ends = (fills home ends.0, omega (arith, same, ends.1))
  commits_chains (Err NotFormatted) limit before home same ends = tt
  commits_chains (Err NotEmpty) limit before home same ends = tt
  commits_chains (Err (BadStore at)) limit before home same ends =
      (FREE, subst (λ (k : Kept). IsRefused pages FREE (kept_first k FREE) at) kept ends)
  commits_chains (Err DiskFault) limit before home same ends = tt
  commits_chains (Err (StoreFull many)) limit before home same ends = (fills many ends.0, omega (arith, same, ends.1))
  commits_chains (Err Broken) limit before home same ends = tt
  commits_chains (Err OutOfMemory) limit before home same ends = tt

pub commits_none : {D : Type 0} {g : Ghosts D} (result : StoreFault) (pages : List (List ℕ)) (chains : Chains D g) (cache : CacheMap)
    (limit home buckets : ℕ) → WritesBuckets pages (kept_of chains) buckets (Err result)
    → IsReadAnswer {T = Unit {0}} (is_broken (journal_of chains)) (Err result)
    → CommitsBuckets pages chains cache limit home (Err result)
commits_none NotFormatted pages chains cache limit home buckets writes alone = tt
commits_none NotEmpty pages chains cache limit home buckets writes alone = tt
commits_none (BadStore at) pages chains cache limit home buckets writes alone = (writes.0, writes.2)
commits_none DiskFault pages chains cache limit home buckets writes alone = tt
commits_none (StoreFull many) pages chains cache limit home buckets writes alone = absurd alone
commits_none Broken pages chains cache limit home buckets writes alone = tt
commits_none OutOfMemory pages chains cache limit home buckets writes alone = tt
