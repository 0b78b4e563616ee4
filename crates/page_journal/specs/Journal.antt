-- What contracts see of a journal.
use Rattle.std.specs.Prelude.{ℕ, Bool}
use Rattle.std.specs.Borrow.{GName}
use Rattle.outside.specs.Disk.{DiskView}
use Rattle.outside.specs.declared.disk.Disk.{Ghosts}
use Rattle.page_journal.specs.declared.journal.Journal.{Journal}

-- the number of home pages, page 0 among them; the limit of that number; and whether an earlier call met a disk fault
abbrev pub home_count : {D : Type 0} {g : Ghosts D} → Journal D g → ℕ
home_count journal = journal.pages

abbrev pub page_limit : {D : Type 0} {g : Ghosts D} → Journal D g → ℕ
page_limit journal = journal.limit

abbrev pub is_broken : {D : Type 0} {g : Ghosts D} → Journal D g → Bool
is_broken journal = journal.broken

-- the disk that it has borrowed, what is seen of that disk, and the name of the loan
abbrev pub disk_of : {D : Type 0} {g : Ghosts D} → Journal D g → D
disk_of journal = journal.disk.now

abbrev pub view_of : {D : Type 0} {g : Ghosts D} → Journal D g → DiskView
view_of {D} {g} journal = g.view journal.disk.now

abbrev pub loan_of : {D : Type 0} {g : Ghosts D} → Journal D g → GName
loan_of journal = journal.disk.ghost_name
