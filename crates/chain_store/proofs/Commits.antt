-- A commit, from its plan to its end.
use Rattle.std.proofs.Common.{◌≡◌, ◌⊎◌, inl, inr, ⊎_elim, ℕ, zero, suc, ◌+◌, ◌<◌, ◌≤◌, ◌==◌, Bool, List, [], ◌∷◌, ◌++◌, length, drop, map}
use Rattle.std.proofs.Common.{get_or, refl, sym, ap, subst, ◌∙◌, arith}
use Rattle.std.specs.List.{All}
use Rattle.outside.specs.Disk.{DiskView, Goes, Stays}
use Rattle.page_journal.specs.Crash.{IsSettled, LeavesEither}
use Rattle.page_journal.specs.Home.{Home}
use Rattle.page_journal.specs.Pages.{number}
use Rattle.page_journal.specs.PageSet.{CanCommit}
use Rattle.page_journal.proofs.Moments.{goes_then, goes_weaker}
use Rattle.chain_store.specs.Chain.{AreBehindRoot, IsBehindRoot}
use Rattle.chain_store.specs.Firsts.{MayFill, filled}
use Rattle.chain_store.specs.Gathered.{EachGathered, base_parts}
use Rattle.chain_store.specs.Kept.{AreAllBehindRoot, buckets_in, pages_at}
use Rattle.chain_store.specs.Known.{AreKnown, Lists}
use Rattle.chain_store.specs.Parts.{growth, growth_of, head_or, laid_all, laid_pages_at, times, times_new}
use Rattle.chain_store.specs.Plan.{IsPlan, more_of, whole_pool}
use Rattle.chain_store.specs.State.{HasState, IsState}
use Rattle.chain_store.specs.declared.kept.Kept.{Kept}
use Rattle.chain_store.specs.declared.parts.Laid.{Laid}
use Rattle.chain_store.specs.declared.parts.Part.{Part}
use Rattle.chain_store.specs.declared.planning.Plan.{Plan}
use Rattle.chain_store.specs.declared.root.Root.{Root}
use Rattle.chain_store.specs.declared.walking.Walked.{Walked}
use Rattle.chain_store.proofs.Bases.{bases_fill, pages_from}
use Rattle.chain_store.proofs.Committable.{AreOldBehind, can_commit, dealt_within}
use Rattle.chain_store.proofs.Parting.{times_new-append}
use Rattle.chain_store.proofs.RootPages.{root_home}
use Rattle.chain_store.proofs.Times.{times_at}

-- where nothing was written a crash leaves the store as it was
pub idle : (pages : List (List ℕ)) (bytes : List ℕ) (old new : DiskView) (root : Root) (strings : ℕ → List ℕ) (Q : List ℕ → Type 0)
    → IsSettled pages bytes old → Stays old new → IsState root strings pages
    → Goes (λ left. HasState root strings left ⊎ Q left) old.crashes new.crashes
idle pages bytes old new root strings Q settled stays state =
    goes_weaker old.crashes.outcomes (λ left. HasState root strings left ⊎ Q left) old.crashes new.crashes stays.runs (λ left among.
    inl (record { pages = pages; home = subst (λ (l : List ℕ). Home pages l) (sym (settled.only left among)) settled.home; state = state }))

-- and where pages were committed then, as it was or as it is to be
pub ran : (pages renewed : List (List ℕ)) (bytes : List ℕ) (old mid new : DiskView) (root next : Root) (strings changed : ℕ → List ℕ)
    → IsSettled pages bytes old → Stays old mid → IsState root strings pages → IsState next changed renewed
    → LeavesEither pages renewed mid new
    → Goes (λ left. HasState root strings left ⊎ HasState next changed left) old.crashes new.crashes
ran pages renewed bytes old mid new root next strings changed settled stays state renewed_state either =
    goes_then (λ left. HasState root strings left ⊎ HasState next changed left) old.crashes mid.crashes new.crashes
    (idle pages bytes old mid root strings (HasState next changed) settled stays state)
    (goes_weaker (λ left. Home pages left ⊎ Home renewed left)
    (λ left. HasState root strings left ⊎ HasState next changed left) mid.crashes new.crashes either
    (λ left home. ⊎_elim (λ was. inl (record { pages = pages; home = was; state = state }))
    (λ is. inr (record { pages = renewed; home = is; state = renewed_state })) home))

-- the old pages of what was gathered, and of the directories
gathered_behind : (home : ℕ) (written read before : Lists) (parts : List Part) (pool : List ℕ) → AreKnown home read
    → EachGathered written read before parts
    → AreOldBehind home (laid_all parts pool)
gathered_behind home written read before [] pool known each = tt
gathered_behind home written read before (part ∷ parts) pool known each =
    (known part.number part.old each.0.1, gathered_behind home written read before parts (drop (growth_of part) pool) known each.1)

directories_behind : (home : ℕ) (same : Bool) (count k : ℕ) (chains : List Laid) (ws : List Walked) (pool : List ℕ)
    → ((m : ℕ) → m < length ws → AreBehindRoot home (pages_at ws m))
    → AreOldBehind home (laid_all (map (filled count chains) (base_parts same count k ws)) pool)
directories_behind home same count k chains [] pool behind = tt
directories_behind home same count k chains (w ∷ ws) pool behind =
    (behind zero (omega arith), directories_behind home same count (k + 1) chains ws _ (λ m below. behind (suc m) (omega (arith, below))))

both_behind : (home : ℕ) (xs ys : List Laid) → AreOldBehind home xs → AreOldBehind home ys → AreOldBehind home (xs ++ ys)
both_behind home [] ys one two = two
both_behind home (x ∷ xs) ys one two = (one.0, both_behind home xs ys one.1 two)

same_default : (xs : List ℕ) (k d : ℕ) → k < length xs → get_or xs k 0 ≡ get_or xs k d
same_default [] k d below = absurd (omega arith)
same_default (x ∷ xs) zero d below = refl
same_default (x ∷ xs) (suc k) d below = same_default xs k d (omega arith)

-- what holds of each number that stands in a list holds of all
all_from : (P : ℕ → Type 0) (xs : List ℕ) → ((p : ℕ) → 1 ≤ times p xs → P p) → All P xs
all_from P xs each = λ k d below.
    subst P (same_default xs k d below) (each (get_or xs k 0) (times_at (get_or xs k 0) xs k below refl))

-- the pages of a directory are among the new ones
pages_among : (laid : List Laid) (m p : ℕ) → times p (laid_pages_at laid m) ≤ times_new p laid
pages_among [] m p = omega arith
pages_among (one ∷ others) zero p = omega arith
pages_among (one ∷ others) (suc m) p = omega (arith, pages_among others m p)

module _ (kept : Kept) (root : Root) (written read before : Lists) (parts : List Part) (free : List ℕ) (home : ℕ) (plan : Plan)
    (is : IsPlan kept root parts free home plan) (each : EachGathered written read before parts) (known : AreKnown home read)
    (behind : AreAllBehindRoot home kept.directories.items) (some : 2 ≤ home) (inside : AreBehindRoot home free) where
  may : All (MayFill root.buckets) (base_parts (root.buckets == buckets_in kept.front.items) root.buckets 8 kept.directories.items)
  may = bases_fill root.buckets (buckets_in kept.front.items) kept.directories.items kept.eight kept.long

  old : AreOldBehind home (is.dealt.chains.items ++ is.dealt.directories.items)
  old = both_behind home is.dealt.chains.items is.dealt.directories.items
      (subst (λ (l : List Laid). AreOldBehind home l) (sym is.is.chains)
      (gathered_behind home written read before parts
      (whole_pool parts (base_parts (root.buckets == buckets_in kept.front.items) root.buckets 8 kept.directories.items) free home)
      known each))
      (subst (λ (l : List Laid). AreOldBehind home l) (sym is.is.directories)
      (directories_behind home (root.buckets == buckets_in kept.front.items) root.buckets 8 is.dealt.chains.items kept.directories.items
      (drop (growth parts) (whole_pool parts (base_parts
      (root.buckets == buckets_in kept.front.items) root.buckets 8 kept.directories.items) free home))
      (λ m below. behind m (omega (arith, below, kept.eight)))))

  end_is : home + more_of parts (base_parts (root.buckets == buckets_in kept.front.items) root.buckets 8 kept.directories.items) free
      ≡ plan.home
  end_is = sym (is.end_is ∙ is.is.last)

  tells : number plan.kept.front.items 0 ≡ home
      + more_of parts (base_parts (root.buckets == buckets_in kept.front.items) root.buckets 8 kept.directories.items) free
  tells = ap (λ (l : List ℕ). number l 0) is.front_is
      ∙ root_home kept.front.items root is.dealt.«end»
      (head_or is.dealt.left.items is.dealt.tail) is.dealt.chains.items is.dealt.directories.items kept.page is.is.last_small
      ∙ is.is.last

  pub can_of : CanCommit plan.set home plan.home
  can_of = subst (λ (n : ℕ). CanCommit plan.set home n) end_is
      (subst (λ s. CanCommit s home (home + more_of parts
      (base_parts (root.buckets == buckets_in kept.front.items) root.buckets 8 kept.directories.items) free)) (sym is.set_is)
      (can_commit home parts (base_parts (root.buckets == buckets_in kept.front.items) root.buckets 8 kept.directories.items) root.buckets
      free is.dealt may is.is some old inside
      plan.kept.front.items tells))

  pub behind_of : AreAllBehindRoot plan.home plan.kept.directories.items
  behind_of m below = subst (λ (ns : List ℕ). AreBehindRoot plan.home ns)
      (sym (pages_from plan.kept.directories.items is.dealt.directories.items m is.pages_are))
      (all_from (IsBehindRoot plan.home) (laid_pages_at is.dealt.directories.items m) (λ p there.
      let within = dealt_within home parts (base_parts (root.buckets == buckets_in kept.front.items) root.buckets 8 kept.directories.items)
      root.buckets free is.dealt may is.is some old inside p
      (omega (
        arith,
        there,
        pages_among is.dealt.directories.items m p,
        times_new-append p is.dealt.chains.items is.dealt.directories.items,
      )) in
      (within.0, omega (arith, within.1, end_is))))
