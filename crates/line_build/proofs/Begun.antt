-- The line that a piece begins leaves a closed piece alone, and makes no pieces.
use Rattle.std.proofs.Common.{◌≡◌, ◌≤◌, true, false, cond, List, length, reverse, ◌∙◌, ap, arith}
use Rattle.piece_ends.specs.Pieces.{Line, is_closed}
use Rattle.piece_ends.specs.Walk.{extended}
use Rattle.piece_ends.proofs.Steps.{Found, found_of, extended-closed}
use Rattle.piece_ends.proofs.Lines.{Grows, length-extended}
use Rattle.piece_ends.specs.Joins.{extended_at_first, line_begun}

alone : (piece : Line) (unused : List Line) → is_closed piece ≡ true → line_begun piece unused ≡ found_of piece unused
alone piece unused closed =
    ap (λ (forward : Found). cond (is_closed forward.0) forward (extended_at_first forward.0 forward.1))
    (extended-closed (length unused) piece unused closed)
    ∙ ap (λ b. cond b (found_of piece unused) (extended_at_first piece unused)) closed

fewer : (piece : Line) (unused : List Line) → length (line_begun piece unused).1 ≤ length unused
fewer piece unused =
    let forward = extended (length unused) piece unused in
    let once = length-extended (length unused) piece unused in
    let twice = length-extended (length forward.1) (reverse forward.0) forward.1 in
    elim (is_closed forward.0) as (λ b. length (cond b forward (extended_at_first forward.0 forward.1)).1 ≤ length unused) [
      | true ↦ once
      | false ↦ omega (arith, once, twice)
    ]

pub line_begun-Grows : Grows line_begun
line_begun-Grows = record { alone = alone; fewer = fewer }
