-- A commit leaves just the home pages that are needed.
use Rattle.std.proofs.Common.{◌≡◌, ◌⊎◌, ℕ, ◌+◌, ◌-◌, ◌*◌, ◌%◌, ◌<◌, ◌≤◌, max, Bool, List, ◌++◌, length, drop, Err, ap, ◌∙◌, arith}
use Rattle.std.proofs.Common.{length-append, length-drop}
use Rattle.page_journal.specs.Answers.{Commits}
use Rattle.page_journal.specs.declared.fault.StoreFault.{StoreFault}
use Rattle.page_journal.specs.declared.fault.StoreFault.TheVariants.{NotFormatted, NotEmpty, BadStore, DiskFault, StoreFull, Broken}
use Rattle.page_journal.specs.declared.fault.StoreFault.TheVariants.{OutOfMemory}
use Rattle.chain_store.specs.Chain.{Holds}
use Rattle.chain_store.specs.Directories.{IsChain}
use Rattle.chain_store.specs.Needed.{FitsNeeded, chain_pages}
use Rattle.chain_store.specs.Plan.{kept_free, more_of, spare_of, wanted}
use Rattle.chain_store.specs.Planned.{Planned}
use Rattle.chain_store.specs.declared.parts.Laid.{Laid}
use Rattle.chain_store.specs.declared.parts.Part.{Part}
use Rattle.chain_store.proofs.Counts.{strings_counted}
use Rattle.chain_store.proofs.Whole.{free_pages, new_counted, new_sound}

-- the chains of the store that a plan makes, and the pages that are free then, are all its home pages
pub planned_counted : (page new : ℕ → List ℕ) (home more : ℕ) (first next : ℕ → ℕ) (parts : List Laid) (used left kept : List ℕ)
    (plan : Planned page new home more first next parts used left kept) (long : (p : ℕ) → 2 ≤ p → p < home → length (page p) ≡ 4096)
    (buckets : ℕ) (strings : ℕ → List ℕ) (few : buckets ≤ 65536)
    (each : (n : ℕ) → (n < 8) ⊎ (16 ≤ n) → IsChain n → Holds new (home + more) n (next n) (strings n))
    (directories : (m : ℕ) → m < 8 → (bytes : List ℕ) × Holds new (home + more) (8 + m) (next (8 + m)) bytes × (length bytes ≡ 8 * buckets))
    (beyond : (n : ℕ) → 16 ≤ n → IsChain n → buckets ≤ (n - 16) % 65536 → next n ≡ 0)
    → chain_pages buckets strings + (length left + length kept) + 2 ≡ home + more
planned_counted page new home more first next parts used left kept plan long buckets strings few each directories beyond =
    let all = strings_counted new (home + more) next (new_sound page new home more first next parts used left kept plan)
    (omega (arith, plan.covered.some))
    (left ++ kept) (free_pages page new home more first next parts used left kept plan) buckets strings few
    (new_counted page new home more first next parts used left kept plan long) each directories beyond in
    omega (arith, all, length-append left kept)

-- a page is taken from the end only where none is free
pub needed_from : (parts bases : List Part) (free left : List ℕ) (home chains : ℕ) → left ≡ drop (wanted parts bases) (spare_of parts bases)
    → chains + (length left + length (kept_free parts bases free)) + 2 ≡ home + more_of parts bases free
    → home + more_of parts bases free ≡ max home (2 + chains)
needed_from parts bases free left home chains left_is all =
    omega (
      arith,
      all,
      ap (λ (l : List ℕ). length l) left_is,
      length-drop (wanted parts bases) (spare_of parts bases),
      length-drop (wanted parts bases - length (spare_of parts bases)) free,
    )

-- a refusal of the journal tells just the pages that are needed
pub fits_refused : (fault : StoreFault) (broken : Bool) (limit before home now need : ℕ) → Commits broken limit home (Err fault)
    → limit ≡ before → home ≡ need
    → FitsNeeded need before now (Err fault)
fits_refused NotFormatted broken limit before home now need is same enough = tt
fits_refused NotEmpty broken limit before home now need is same enough = tt
fits_refused (BadStore at) broken limit before home now need is same enough = tt
fits_refused DiskFault broken limit before home now need is same enough = tt
fits_refused (StoreFull pages) broken limit before home now need is same enough = (is.2 ∙ enough, omega (arith, is.1, same, enough))
fits_refused Broken broken limit before home now need is same enough = tt
fits_refused OutOfMemory broken limit before home now need is same enough = tt
