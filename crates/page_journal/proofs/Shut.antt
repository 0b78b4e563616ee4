-- A store whose gate is shut, and looks at a disk.
use Rattle.std.proofs.Common.{◌≢◌, inl, inr, Err, ℕ, List, sym, subst, arith}
use Rattle.outside.specs.Disk.{DiskView, Goes, Only, Stays}
use Rattle.page_journal.specs.Answers.{Finishes, Looks}
use Rattle.page_journal.specs.Home.{Home, IsFormatted}
use Rattle.page_journal.specs.Pages.{gate}
use Rattle.page_journal.specs.Written.{Finished}
use Rattle.page_journal.specs.declared.fault.StoreFault.{StoreFault}
use Rattle.page_journal.specs.declared.fault.StoreFault.TheVariants.{NotFormatted, NotEmpty, BadStore, DiskFault, StoreFull, Broken}
use Rattle.page_journal.specs.declared.fault.StoreFault.TheVariants.{OutOfMemory}
use Rattle.page_journal.specs.declared.layout.TheConstants.{OPEN}
use Rattle.page_journal.proofs.Moments.{goes_weaker}

-- where the gate is shut nothing is to be finished
pub finished_shut : (bytes : List ℕ) → IsFormatted bytes → gate bytes ≢ OPEN → Finished bytes bytes
finished_shut bytes formatted shut = record {
  formatted = formatted;
  shut = shut;
  long = omega arith;
  home = λ n page some fits is. elim is [ inl there ↦ absurd (shut there.is_open) | inr here ↦ sym here.same ];
}

-- after looks at a disk that holds these bytes alone, a crash leaves their home pages
pub goes_looked : (pages : List (List ℕ)) (bytes : List ℕ) (old new : DiskView) → Only bytes old.crashes → Home pages bytes → Stays old new
    → Goes (Home pages) old.crashes new.crashes
goes_looked pages bytes old new only home stays =
    goes_weaker old.crashes.outcomes (Home pages) old.crashes new.crashes stays.runs
    (λ left was. subst (λ (l : List ℕ). Home pages l) (sym (only left was)) home)

-- a journal that is refused is not finished
pub finishes_looks : (bytes : List ℕ) (fault : StoreFault) → Looks bytes (Err fault) → Finishes bytes (Err fault)
finishes_looks bytes NotFormatted is = is
finishes_looks bytes NotEmpty is = is
finishes_looks bytes (BadStore page) is = is
finishes_looks bytes DiskFault is = is
finishes_looks bytes (StoreFull pages) is = is
finishes_looks bytes Broken is = is
finishes_looks bytes OutOfMemory is = is
