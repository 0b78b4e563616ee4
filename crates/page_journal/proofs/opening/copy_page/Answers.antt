use Rattle.std.proofs.Common.{◌≡◌, ◌≤◌, ℕ, ◌+◌, List, length, option_map, Some, ap, ◌∙◌, rules}
use Rattle.std.proofs.lemmas.List.{length-replicate}
use Rattle.outside.specs.Disk.{Tells, overlaid}
use Rattle.page_journal.specs.Pages.{page_from}
use Rattle.page_journal.proofs.Bytes.{page_read_whole}
use Rattle.page_journal.proofs.Causes.{cause_after, on_ok}
use Rattle.page_journal.proofs.Moments.{elapses_quiet, told_written}
use Rattle.page_journal.proofs.opening.copy_page.Goals as goal

pub returns-clause-put : goal.returns-clause-put
returns-clause-put g c =
    let old = g.D.Disk.view c.args.disk.now in
    let mid = g.D.Disk.view c.read_at.new.self in
    let new = g.D.Disk.view c.write_at.new.self in
    let page = c.read_at.new.buf in
    on_ok (new.content ≡ option_map (overlaid c.args.to page) mid.content)
    ((bytes : List ℕ) → Tells old bytes → c.args.from + 4096 ≤ length bytes
    → Tells new (overlaid c.args.to (page_from bytes c.args.from) bytes))
    c.write_at.result
    (λ written bytes told fits.
    let is : page ≡ page_from bytes c.args.from =
    page_read_whole bytes _ page c.args.from _ (length-replicate {A = ℕ} 4096 0) fits (c.in_ok-read_at.ensures.bytes bytes told) in
    told_written (overlaid c.args.to page) _ _ bytes (c.read_at.ensures.content ∙ told) written
    ∙ ap (λ (l : List ℕ). Some (overlaid c.args.to l bytes)) is)
    c.write_at.ensures.written

pub returns-clause-time : goal.returns-clause-time
returns-clause-time g c =
    let laws = g.met.D.Disk in
    elapses_quiet _ _ _ (laws.counts_now c.args.disk.now) c.read_at.ensures.crash c.read_at.ensures.time c.write_at.ensures.time

pub returns-clause-copies : goal.returns-clause-copies
returns-clause-copies g c = record {
  reads = search rules;
  cause = cause_after _ _ _ c.write_at.result c.read_at.ensures.cause.later c.write_at.ensures.cause;
}
