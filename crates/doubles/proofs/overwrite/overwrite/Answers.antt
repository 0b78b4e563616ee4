use Rattle.std.proofs.Common.{ℕ, List, ◌+◌, length, max, ap, ◌∙◌, arith}
use Rattle.outside.specs.Disk.{overlaid}
use Rattle.outside.proofs.Overlay.{length-padded, overlaid-padded}
use Rattle.doubles.proofs.overwrite.overwrite.Goals as goal

pub put_over-requires : goal.put_over-requires
put_over-requires c =
    let size = length-padded (max (length c.args.bytes.now.items) (c.args.at + length c.args.piece.now)) c.args.bytes.now.items in
    omega (arith, ap length c.in_ok-grow.ensures.ok, size)

pub returns-clause-ok : goal.returns-clause-ok
returns-clause-ok c =
    c.put_over.ensures ∙ ap (λ (l : List ℕ). overlaid c.args.at c.args.piece.now l) c.in_ok-grow.ensures.ok
    ∙ overlaid-padded c.args.at c.args.piece.now c.args.bytes.now.items
