use Rattle.std.proofs.Common.{◌≡◌, ℕ, List, Some, length, sym, ◌∙◌, subst, arith}
use Rattle.outside.specs.Disk.{overlaid}
use Rattle.page_journal.specs.Home.{IsFresh}
use Rattle.page_journal.proofs.Fresh.{overlaid-none, fresh_settled}
use Rattle.page_journal.proofs.Moments.{told_written}
use Rattle.page_journal.proofs.formatting.format.Goals as goal

pub returns-clause-fresh : goal.returns-clause-fresh
returns-clause-fresh g c = λ bytes told.
    let new = c.fresh_bytes-bytes.result in
    let none : length bytes ≡ 0 = omega (arith, c.if-branch-ne0.false, c.in_ok-len.ensures.length bytes told) in
    let now : List ℕ = overlaid 0 new bytes in
    let tells : (g.D.Disk.view c.write_at.new.self).content ≡ Some now =
    told_written (overlaid 0 new) _ _ bytes (c.len.ensures.content ∙ told) c.in_ok-write_at.ensures.written in
    let is : IsFresh now = subst (λ (l : List ℕ). IsFresh l) (sym (overlaid-none new bytes none)) c.fresh_bytes-bytes.ensures in (
      now,
      is,
      fresh_settled now (g.D.Disk.view c.sync.new.self) is (c.sync.ensures.content ∙ tells)
          (c.in_ok-sync.ensures.durable now tells),
    )
