-- A store at rest that was not touched.
use Rattle.std.proofs.Common.{sym, subst, inl}
use Rattle.outside.specs.Disk.{DiskView, Goes}
use Rattle.page_journal.proofs.Moments.{started}
use Rattle.update_flow.specs.AtRest.{IsAt, IsAtEither, IsOfEither, RestsAt}
use Rattle.update_flow.specs.State.{State}
use Rattle.update_flow.specs.Stands.{StandsFor}

pub nothing_done : (state : State) (disk : DiskView) → IsAt state disk → RestsAt state disk disk
nothing_done state disk at = started (λ left. StandsFor left state) disk.crashes
    (λ left is. subst (λ bytes. StandsFor bytes state) (sym (at.only left is)) at.stands)

pub either_done : (state other : State) (disk : DiskView) → IsAt state disk → Goes (IsOfEither state other) disk.crashes disk.crashes
either_done state other disk at = started (IsOfEither state other) disk.crashes
    (λ left is. inl (subst (λ bytes. StandsFor bytes state) (sym (at.only left is)) at.stands))

pub either_open : (one other : State) (disk : DiskView) → IsAtEither one other disk → Goes (IsOfEither one other) disk.crashes disk.crashes
either_open one other disk at = started (IsOfEither one other) disk.crashes at.only
