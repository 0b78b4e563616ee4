use Rattle.std.proofs.Common.{◌≡◌, ◌+◌, ◌*◌, length, arith}
use Rattle.page_journal.specs.Pages.{number_pages, page_count}
use Rattle.page_journal.proofs.ReadCounts.{reads_more}
use Rattle.page_journal.proofs.opening.look.Goals as goal

pub returns-in_err-well-clause-reads : goal.returns-in_err-well-clause-reads
returns-in_err-well-clause-reads g c = λ bytes formatted long head.
    let count = c.head_number-count.result in
    let end = 4096 * (c.head_number-first.result + number_pages count + count) in
    let is : count ≡ page_count bytes = c.head_number-count.ensures.value bytes formatted.long head in
    let fits = c.fits.ensures.0 c.if-not-fits.false in
    reads_more count (page_count bytes) end (length bytes) _ _ (omega (arith, is)) (omega (arith, fits.1, long)) c.rises.ensures.reads.reads

pub returns-then-not-well-clause-reads : goal.returns-then-not-well-clause-reads
returns-then-not-well-clause-reads g c = λ bytes formatted long head.
    let count = c.head_number-count.result in
    let end = 4096 * (c.head_number-first.result + number_pages count + count) in
    let is : count ≡ page_count bytes = c.head_number-count.ensures.value bytes formatted.long head in
    let fits = c.fits.ensures.0 c.if-not-fits.false in
    reads_more count (page_count bytes) end (length bytes) _ _ (omega (arith, is)) (omega (arith, fits.1, long)) c.rises.ensures.reads.reads

pub returns-clause-reads : goal.returns-clause-reads
returns-clause-reads g c = λ bytes formatted long head.
    let count = c.head_number-count.result in
    let end = 4096 * (c.head_number-first.result + number_pages count + count) in
    let is : count ≡ page_count bytes = c.head_number-count.ensures.value bytes formatted.long head in
    let fits = c.fits.ensures.0 c.if-not-fits.false in
    reads_more count (page_count bytes) end (length bytes) _ _ (omega (arith, is)) (omega (arith, fits.1, long)) c.rises.ensures.reads.reads
