use Rattle.std.proofs.Common.{◌≡◌, ℕ, List, ◌+◌, ◌-◌, ◌++◌, take, drop, length, ap, sym, ◌∙◌, arith}
use Rattle.std.proofs.lemmas.List.{drop-drop}
use Rattle.outside.proofs.Overlay.{overlaid-within}
use Rattle.doubles.proofs.overwrite.put_into.Goals as goal

pub returns : goal.returns
returns c =
    let at = c.args.at in
    let piece = c.args.piece.now in
    let bytes = c.args.bytes.now in
    let end : at + (at + length piece - at) ≡ at + length piece = omega arith in
    let rest : drop (at + length piece - at) (drop at bytes) ≡ drop (at + length piece) bytes =
    drop-drop (at + length piece - at) at bytes ∙ ap (λ (n : ℕ). drop n bytes) end in
    rw c.copy_from_slice.ensures.after (
    ap (λ (l : List ℕ). take at bytes ++ (piece ++ l)) rest
    ∙ sym (overlaid-within at piece bytes (omega (arith, c.requires)))
    )
