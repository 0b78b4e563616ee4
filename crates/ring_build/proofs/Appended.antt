-- The ends of a line with a piece behind it.
use Rattle.std.proofs.Common.{◌≡◌, ◌-◌, ◌<◌, ◌≤◌, true, false, [], ◌∷◌, ◌++◌, length, drop, reverse, get_or, refl, sym, ◌∙◌, ap, arith}
use Rattle.std.proofs.Common.{length-append}
use Rattle.std.proofs.lemmas.List.{get_or-append_right, get_or_append_left, get_or-reverse, length-reverse}
use Rattle.osm_base.specs.values.Place.{PlaceOf}
use Rattle.piece_ends.specs.Pieces.{Line, no_place, first_place, last_place, is_closed}
use Rattle.piece_ends.proofs.SamePlace.{same_place-itself}

-- an open piece has two points or more
pub two_points : (piece : Line) → is_closed piece ≡ false → 2 ≤ length piece
two_points [] open_piece = absurd (let h : is_closed [] ≡ true = same_place-itself no_place in cc)
two_points (place ∷ []) open_piece = absurd (let h : is_closed (place ∷ []) ≡ true = same_place-itself place in cc)
two_points (place ∷ other ∷ piece) open_piece = omega arith

pub first_place-append : (line piece : Line) → 0 < length line → first_place (line ++ piece) ≡ first_place line
first_place-append line piece some = get_or_append_left line piece no_place 0 some

last_place-cons : (line : Line) (place : PlaceOf) (piece : Line) → last_place (line ++ place ∷ piece) ≡ last_place (place ∷ piece)
last_place-cons line place piece =
    let all = length-append line (place ∷ piece) in
    let behind : length line ≤ length (line ++ place ∷ piece) - 1 = omega arith in
    let left : length (line ++ place ∷ piece) - 1 - length line ≡ length (place ∷ piece) - 1 = omega arith in
    get_or-append_right line (place ∷ piece) (length line) (length (line ++ place ∷ piece) - 1) no_place refl behind
    ∙ ap (λ index. get_or (place ∷ piece) index no_place) left

-- without its first point a piece ends where it did
pub last_place-append : (line piece : Line) → 2 ≤ length piece → last_place (line ++ drop 1 piece) ≡ last_place piece
last_place-append line [] two = absurd (omega arith)
last_place-append line (place ∷ []) two = absurd (omega arith)
last_place-append line (place ∷ other ∷ piece) two = last_place-cons line other piece ∙ sym (last_place-cons (place ∷ []) other piece)

pub last_place-reverse : (piece : Line) → 0 < length piece → last_place (reverse piece) ≡ first_place piece
last_place-reverse piece some =
    let same = length-reverse piece in
    let below : length (reverse piece) - 1 < length piece = omega arith in
    let start : length piece - 1 - (length (reverse piece) - 1) ≡ 0 = omega arith in
    get_or-reverse piece (length (reverse piece) - 1) no_place below ∙ ap (λ index. get_or piece index no_place) start
