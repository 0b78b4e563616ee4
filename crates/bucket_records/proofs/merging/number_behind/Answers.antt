-- The record at the place is passed where it has the key.
use Rattle.std.proofs.Common.{sym, ◌∙◌, arith}
use Rattle.bucket_records.proofs.Merges.{behind_end, behind_here, behind_apart}
use Rattle.bucket_records.proofs.merging.number_behind.Goals as goal

pub returns-then-place-len-clause-next : goal.returns-then-place-len-clause-next
returns-then-place-len-clause-next c =
    behind_end c.args.records.now c.args.key c.args.place (omega (arith, c.if-place-len.true, c.len.ensures.len))

pub returns-then-own-key-clause-next : goal.returns-then-own-key-clause-next
returns-then-own-key-clause-next c =
    behind_here c.args.records.now c.args.key c.args.place (omega (arith, c.if-place-len.false, c.len.ensures.len))
    (sym c.at-own.ensures.key ∙ c.if-own-key.true)

pub returns-else-own-key-clause-next : goal.returns-else-own-key-clause-next
returns-else-own-key-clause-next c =
    behind_apart c.args.records.now c.args.key c.args.place (omega (arith, c.if-place-len.false, c.len.ensures.len))
    (λ same. c.if-own-key.false (c.at-own.ensures.key ∙ same))
