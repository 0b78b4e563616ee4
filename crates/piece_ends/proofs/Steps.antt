-- One step of a walk, and its end.
use Rattle.std.proofs.Common.{◌≡◌, ℕ, zero, suc, true, false, cond, Some, None, Option, List, [], ◌∷◌, length, refl, ◌∙◌, ap}
use Rattle.std.specs.Option.{option_map, option_map_or}
use Rattle.osm_base.specs.values.Place.{PlaceOf}
use Rattle.piece_ends.specs.Pieces.{Line, last_place, is_closed, fits}
use Rattle.piece_ends.specs.Walk.{next_at, appended, extended}

-- a piece, and the others
abbrev pub Found : Type 0
Found = Line × List Line

abbrev pub found_of : Line → List Line → Found
found_of piece rest = (piece, rest)

second : (a : Line) (b : List Line) (c : Line) (d : List Line) → Some (found_of a b) ≡ Some (found_of c d) → b ≡ d
second a b c d h = ap (λ found. option_map_or (λ (both : Found). both.1) found []) h

shorter : (own : Line) (unused : List Line) (piece : Line) (rest : List Line) (found : Option Found)
    → ((first : Line) (others : List Line) → found ≡ Some (found_of first others) → length unused ≡ suc (length others))
    → option_map {U = Found} (λ found. (found.0, own ∷ found.1)) found ≡ Some (found_of piece rest)
    → suc (length unused) ≡ suc (length rest)
shorter own unused piece rest None less h = absurd (cc)
shorter own unused piece rest (Some (first, others)) less h =
    ap suc (less first others refl ∙ ap length (second first (own ∷ others) piece rest h))

-- the pieces without the one that was found
pub length-next_at : (place : PlaceOf) (unused : List Line) (piece : Line) (rest : List Line) → next_at place unused ≡ Some (piece, rest)
    → length unused ≡ suc (length rest)
length-next_at place [] piece rest e = absurd (cc)
length-next_at place (own ∷ unused) piece rest e =
    elim (fits place own) as (λ b. cond b (Some (found_of own unused))
    (option_map {U = Found} (λ found. (found.0, own ∷ found.1)) (next_at place unused)) ≡ Some (found_of piece rest)
    → suc (length unused) ≡ suc (length rest)) [
      | true ↦ λ h. ap (λ all. suc (length all)) (second own unused piece rest h)
      | false ↦ λ h. shorter own unused piece rest (next_at place unused) (λ first others is. length-next_at place unused first others is) h
    ] e

-- a line that ends where it begins stays as it is
pub extended-closed : (steps : ℕ) (line : Line) (unused : List Line) → is_closed line ≡ true → extended steps line unused ≡ (line, unused)
unfolding extended
extended-closed zero line unused e = refl
extended-closed (suc steps) line unused e = rw e refl

-- and one for which there is no piece
pub extended-none : (steps : ℕ) (line : Line) (unused : List Line) → next_at (last_place line) unused ≡ None
    → extended steps line unused ≡ (line, unused)
unfolding extended
extended-none zero line unused e = refl
extended-none (suc steps) line unused e =
    elim (is_closed line) as (λ b. cond b (found_of line unused)
    (option_map_or {U = Found} (λ found. extended steps (appended line found.0) found.1) (next_at (last_place line) unused)
    (line, unused)) ≡ (line, unused)) [ true ↦ refl | false ↦ rw e refl ]

pub extended-some : (line : Line) (unused : List Line) (piece : Line) (rest : List Line) → is_closed line ≡ false
    → next_at (last_place line) unused ≡ Some (piece, rest)
    → extended (length unused) line unused ≡ extended (length rest) (appended line piece) rest
unfolding extended
extended-some line unused piece rest open_line e =
    ap (λ steps. extended steps line unused) (length-next_at (last_place line) unused piece rest e) ∙ rw (open_line, e) refl
