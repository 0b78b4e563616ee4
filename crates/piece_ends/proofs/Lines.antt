-- The lines of pieces, one after another.
use Rattle.std.proofs.Common.{◌≡◌, ℕ, zero, suc, ◌<◌, ◌≤◌, true, false, cond, Some, None, Option, List, [], ◌∷◌, ◌++◌, append_assoc, length}
use Rattle.std.proofs.Common.{refl, sym, ◌∙◌, ap, arith}
use Rattle.std.specs.Option.{option_map_or}
use Rattle.piece_ends.specs.Pieces.{Line, last_place, is_closed}
use Rattle.piece_ends.specs.Walk.{next_at, appended, extended, lines_within, lines_by}
use Rattle.piece_ends.proofs.Steps.{Found, found_of, length-next_at}

-- a walk leaves no more pieces than there were
pub length-extended : (steps : ℕ) (line : Line) (unused : List Line) → length (extended steps line unused).1 ≤ length unused
unfolding extended
length-extended zero line unused = omega arith
length-extended (suc steps) line unused =
    elim (is_closed line) as (λ b. length (cond b (found_of line unused)
    (option_map_or {U = Found} (λ found. extended steps (appended line found.0) found.1) (next_at (last_place line) unused)
    (line, unused))).1 ≤ length unused) [
      | true ↦ omega arith
      | false ↦ after (next_at (last_place line) unused) (λ piece rest. length-extended steps (appended line piece) rest)
          (λ piece rest e. length-next_at (last_place line) unused piece rest e)
    ]
  where
    after : (found : Option Found) → ((piece : Line) (rest : List Line)
        → length (extended steps (appended line piece) rest).1 ≤ length rest)
        → ((piece : Line) (rest : List Line) → found ≡ Some (found_of piece rest) → length unused ≡ suc (length rest))
        → length (option_map_or {U = Found} (λ found. extended steps (appended line found.0) found.1) found (line, unused)).1
        ≤ length unused
    after None later less = omega arith
    after (Some (piece, rest)) later less = omega (arith, later piece rest, less piece rest refl)

-- what makes a line of a piece and of the others leaves a closed piece alone, and makes no pieces
pub record Grows (grown : Line → List Line → Line × List Line) : Type 0 where
  pub alone : (piece : Line) (unused : List Line) → is_closed piece ≡ true → grown piece unused ≡ found_of piece unused
  pub fewer : (piece : Line) (unused : List Line) → length (grown piece unused).1 ≤ length unused

module _ (grown : Line → List Line → Line × List Line) (grows : Grows grown) where
  -- the count of steps does not matter where it is enough
  lines_within-more : (count more : ℕ) (unused : List Line) → length unused ≤ count → length unused ≤ more
      → lines_within grown count unused ≡ lines_within grown more unused
  unfolding lines_within
  lines_within-more zero zero unused h g = refl
  lines_within-more zero (suc more) [] h g = refl
  lines_within-more zero (suc more) (piece ∷ unused) h g = absurd (omega arith)
  lines_within-more (suc count) zero [] h g = refl
  lines_within-more (suc count) zero (piece ∷ unused) h g = absurd (omega arith)
  lines_within-more (suc count) (suc more) [] h g = refl
  lines_within-more (suc count) (suc more) (piece ∷ unused) h g =
      let one = lines_within-more count more unused (omega arith) (omega arith) in
      let left = grows.fewer piece unused in
      let others = lines_within-more count more (grown piece unused).1 (omega arith) (omega arith) in
      ap (λ rest. cond (is_closed piece) (piece ∷ rest) ((grown piece unused).0 ∷ lines_within grown count (grown piece unused).1)) one
      ∙ ap (λ rest. cond (is_closed piece) (piece ∷ lines_within grown more unused) ((grown piece unused).0 ∷ rest)) others

  -- the first piece begins the first line
  pub lines_by-first : (piece : Line) (unused : List Line)
      → lines_by grown (piece ∷ unused) ≡ (grown piece unused).0 ∷ lines_by grown (grown piece unused).1
  unfolding lines_within
  lines_by-first piece unused =
      elim (is_closed piece) as (λ b. (b ≡ true → grown piece unused ≡ found_of piece unused)
      → cond b (piece ∷ lines_within grown (length unused) unused)
      ((grown piece unused).0 ∷ lines_within grown (length unused) (grown piece unused).1) ≡ (grown piece unused).0
      ∷ lines_by grown (grown piece unused).1) [
        | true ↦ λ alone. sym (ap (λ found. found.0 ∷ lines_by grown found.1) (alone refl))
        | false ↦ λ _. ap (λ rest. (grown piece unused).0 ∷ rest)
            (lines_within-more (length unused) (length (grown piece unused).1) (grown piece unused).1 (grows.fewer piece unused)
            (omega arith))
      ] (grows.alone piece unused)

  pub lines_by-none : lines_by grown [] ≡ []
  unfolding lines_within
  lines_by-none = refl

  -- a line more, and what is left then
  module _ (unused rest left : List Line) (piece line : Line) (is_first : unused ≡ piece ∷ rest)
      (is_grown : found_of line left ≡ grown piece rest) where
    pub lines_by-more : (done : List Line) → (done ++ line ∷ []) ++ lines_by grown left ≡ done ++ lines_by grown unused
    lines_by-more done =
        append_assoc done (line ∷ []) (lines_by grown left)
        ∙ ap (λ (found : Found). done ++ found.0 ∷ lines_by grown found.1) is_grown
        ∙ ap (λ others. done ++ others) (sym (lines_by-first piece rest))
        ∙ ap (λ pieces. done ++ lines_by grown pieces) (sym is_first)

    pub lines_by-fewer : length left < length unused
    lines_by-fewer =
        let all : length unused ≡ suc (length rest) = ap length is_first in
        let same : length left ≡ length (grown piece rest).1 = ap (λ (found : Found). length found.1) is_grown in
        omega (arith, grows.fewer piece rest)
