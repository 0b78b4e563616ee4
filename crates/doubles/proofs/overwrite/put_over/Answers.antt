use Rattle.std.proofs.Common.{◌≡◌, ℕ, List, length, ap, ◌∙◌, arith}
use Rattle.std.proofs.lemmas.List.{take_at}
use Rattle.outside.specs.Disk.{overlaid}
use Rattle.outside.proofs.Overlay.{length-overlaid}
use Rattle.doubles.proofs.overwrite.put_over.Goals as goal

pub returns : goal.returns
returns c =
    let at = c.args.at in
    let piece = c.args.piece.now in
    let old = c.args.bytes.now.items in
    let written : c.put_into.new.bytes ≡ overlaid at piece old =
    c.put_into.ensures ∙ ap (λ (l : List ℕ). overlaid at piece l) c.deref_mut.ensures.value in
    take_at c.put_into.new.bytes _ c.args.bytes.now.len (
    omega (arith, c.requires, ap length written, length-overlaid at piece old, ap length c.deref_mut.ensures.value, c.deref_mut.ensures.len)
    ) ∙ written
