-- The reads of a run of calls.
use Rattle.std.proofs.Common.{◌≡◌, ℕ, ◌+◌, ◌*◌, ◌≤◌, List, length, max, Option, Some, ◌∙◌, subst, arith}
use Rattle.std.specs.Prelude.{IfSome}
use Rattle.outside.specs.Disk.{ReadLog}
use Rattle.page_journal.specs.Pages.{first_page, number_pages, page_count}

-- what is said of two disks by their reads alone
abbrev Counted : ℕ → ℕ → Option ReadLog → Option ReadLog → Type 0
Counted count end old new = (before : ReadLog) → old ≡ Some before → (now : ReadLog) × (new ≡ Some now)
    × (now.count ≤ before.count + count) × (now.reach ≤ max before.reach end)

pub reads_none : (count end : ℕ) (old new : Option ReadLog) → new ≡ old → Counted count end old new
reads_none count end old new same = λ before told. (before, same ∙ told, omega arith, omega arith)

pub reads_quiet : (count end : ℕ) (old mid new : Option ReadLog) → Counted count end old mid → new ≡ mid → Counted count end old new
reads_quiet count end old mid new first same = λ before told.
    let between = first before told in
    (between.0, same ∙ between.1, between.2, between.3)

pub quiet_reads : (count end : ℕ) (old mid new : Option ReadLog) → mid ≡ old → Counted count end mid new → Counted count end old new
quiet_reads count end old mid new same reads = λ before told. reads before (same ∙ told)

pub reads_then : (one two end : ℕ) (old mid new : Option ReadLog) → Counted one end old mid → Counted two end mid new
    → Counted (one + two) end old new
reads_then one two end old mid new first second = λ before told.
    let between = first before told in
    let after = second between.0 between.1 in
    (after.0, after.1, omega (arith, between.2, after.2), omega (arith, between.3, after.3))

pub reads_more : (one two low high : ℕ) (old new : Option ReadLog) → one ≤ two → low ≤ high → Counted one low old new
    → Counted two high old new
reads_more one two low high old new fewer lower reads = λ before told.
    let after = reads before told in
    (after.0, after.1, omega (arith, fewer, after.2), omega (arith, lower, after.3))

-- where a journal was found, and then copied home
pub copied_reads : (found : Option (ℕ × ℕ)) (first count len : ℕ) (bytes : List ℕ) (old mid new : Option ReadLog)
    → found ≡ Some (first, count)
    → IfSome found (λ journal. 4096 * (journal.0 + number_pages journal.1 + journal.1) ≤ len)
    → IfSome found (λ journal. (journal.0 ≡ first_page bytes) × (journal.1 ≡ page_count bytes)) → len ≡ length bytes
    → Counted (page_count bytes) (length bytes) old mid → Counted (2 * count) (4096 * (first + number_pages count + count)) mid new
    → Counted (3 * page_count bytes) (length bytes) old new
copied_reads found first count len bytes old mid new is room same long looked copied =
    let fits : 4096 * (first + number_pages count + count) ≤ len =
    subst (λ (o : Option (ℕ × ℕ)). IfSome o (λ journal. 4096 * (journal.0 + number_pages journal.1 + journal.1) ≤ len)) is room in
    let are : (first ≡ first_page bytes) × (count ≡ page_count bytes) =
    subst (λ (o : Option (ℕ × ℕ)). IfSome o (λ journal. (journal.0 ≡ first_page bytes) × (journal.1 ≡ page_count bytes))) is same in
    let many : count ≡ page_count bytes = are.1 in
    reads_more (page_count bytes + 2 * count) (3 * page_count bytes) (length bytes) (length bytes) old new (omega (arith, many))
    (omega arith)
    (reads_then (page_count bytes) (2 * count) (length bytes) old mid new looked
    (reads_more (2 * count) (2 * count) (4096 * (first + number_pages count + count)) (length bytes) mid new (omega arith)
    (omega (arith, fits, long)) copied))
