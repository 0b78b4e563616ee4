-- The places that a run of writes spares.
use Rattle.std.proofs.Common.{◌≡◌, inl, inr, ℕ, ◌+◌, ◌<◌, ◌≤◌, ◌⊎◌, List, length, get_or, sym, ◌∙◌, subst, arith}
use Rattle.outside.specs.Disk.{Crashes, Elapses, Follows, Only, Torn, overlaid, Goes, Within}
use Rattle.outside.proofs.Overlay.{length-overlaid, overlaid-beside}
use Rattle.page_journal.specs.Crash.{Spares}
use Rattle.page_journal.specs.Pages.{number, page_from}
use Rattle.page_journal.proofs.Bytes.{number_same, page_same}
use Rattle.page_journal.proofs.Moments.{goes_on}

pub Spares-self : (K : ℕ → Type 0) (bytes : List ℕ) → Spares K bytes bytes
Spares-self K bytes = record { no_shorter = omega arith; same = λ i inside keeps j. get_or bytes i 0 }

pub Spares-less : (K L : ℕ → Type 0) (old new : List ℕ) → ((i : ℕ) → L i → K i) → Spares K old new → Spares L old new
Spares-less K L old new less spares =
    record { no_shorter = spares.no_shorter; same = λ i inside keeps. spares.same i inside (less i keeps) }

pub Spares-trans : (K : ℕ → Type 0) (old mid new : List ℕ) → Spares K old mid → Spares K mid new → Spares K old new
Spares-trans K old mid new first second = record {
  no_shorter = omega (arith, first.no_shorter, second.no_shorter);
  same = λ i inside keeps. second.same i (omega (arith, inside, first.no_shorter)) keeps ∙ first.same i inside keeps;
}

-- a place that is kept lies beside the range
abbrev pub Beside : (ℕ → Type 0) → ℕ → ℕ → Type 0
Beside K at count = (i : ℕ) → K i → (i < at) ⊎ (at + count ≤ i)

pub Spares-torn : (K : ℕ → Type 0) (old mid new : List ℕ) (at count : ℕ) → Spares K old mid → Torn at count mid new
    → Beside K at count → Spares K old new
Spares-torn K old mid new at count spares torn beside = record {
  no_shorter = omega (arith, spares.no_shorter, torn.no_shorter);
  same = λ i inside keeps.
      let in-mid : i < length mid = omega (arith, inside, spares.no_shorter) in
      elim (beside i keeps) [
        | inl before ↦ torn.below i in-mid before ∙ spares.same i inside keeps
        | inr behind ↦ torn.above i in-mid behind ∙ spares.same i inside keeps
      ];
}

pub Spares-overlaid : (K : ℕ → Type 0) (old mid : List ℕ) (at : ℕ) (bytes : List ℕ) → Spares K old mid
    → Beside K at (length bytes) → Spares K old (overlaid at bytes mid)
Spares-overlaid K old mid at bytes spares beside =
    let long = length-overlaid at bytes mid in
    record {
      no_shorter = omega (arith, spares.no_shorter);
      same = λ i inside keeps. overlaid-beside at bytes mid i (beside i keeps) ∙ spares.same i inside keeps;
    }

-- a run of writes with one more
pub goes_write : (K : ℕ → Type 0) (base : List ℕ) (at count : ℕ) (old mid new : Crashes) → Goes (Spares K base) old mid
    → Elapses mid new → Follows (Torn at count) mid new → Beside K at count → Goes (Spares K base) old new
goes_write K base at count old mid new so_far time crash beside =
    goes_on (Spares K base) old mid new so_far time (λ left now.
    let from = crash left now in
    Spares-torn K base from.0 left at count (so_far.now from.0 from.1) from.2 beside)

-- from a content that is all that a crash leaves
pub within_only : (K : ℕ → Type 0) (bytes : List ℕ) (crashes : Crashes) → Only bytes crashes → Within (Spares K bytes) crashes
within_only K bytes crashes only = λ left now. subst (λ (l : List ℕ). Spares K bytes l) (sym (only left now)) (Spares-self K bytes)

pub number_spared : (K : ℕ → Type 0) (old new : List ℕ) (at : ℕ) → Spares K old new → at + 8 ≤ length old
    → ((i : ℕ) → at ≤ i → i < at + 8 → K i) → number new at ≡ number old at
number_spared K old new at spares fits keeps =
    number_same old new at at fits (omega (arith, spares.no_shorter)) (λ k below.
    spares.same (at + k) (omega arith) (keeps (at + k) (omega arith) (omega arith)))

pub page_spared : (K : ℕ → Type 0) (old new : List ℕ) (at : ℕ) → Spares K old new → at + 4096 ≤ length old
    → ((i : ℕ) → at ≤ i → i < at + 4096 → K i) → page_from new at ≡ page_from old at
page_spared K old new at spares fits keeps =
    page_same old new at at fits (omega (arith, spares.no_shorter)) (λ k below.
    spares.same (at + k) (omega arith) (keeps (at + k) (omega arith) (omega arith)))
