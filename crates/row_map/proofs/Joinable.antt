-- The line of a way is a piece that may be joined to others: no two equal neighbours are left on it.
use Rattle.std.proofs.Common.{◌≡◌, ◌≢◌, ◌<◌, ℕ, zero, suc, ◌+◌, true, false, cond, Option, Some, None, List, [], ◌∷◌, length, refl, sym, ap}
use Rattle.std.proofs.Common.{subst, ◌∙◌, arith}
use Rattle.std.specs.Prelude.{nat_le}
use Rattle.std.specs.Option.{option_to_list}
use Rattle.std.specs.List.{cons_option, dedup, dedup_from, filter_map, slice_get}
use Rattle.std.proofs.lemmas.Bool.{leb-true}
use Rattle.std.proofs.lemmas.Option.{same_Some}
use Rattle.osm_base.specs.declared.values.object.Object.{Object}
use Rattle.osm_base.specs.declared.values.object.Object.TheVariants as objects
use Rattle.osm_base.specs.values.Key.{KeyOf}
use Rattle.osm_base.specs.values.Place.{PlaceOf}
use Rattle.piece_ends.specs.Pieces.{Line, IsPiece, ArePieces, same_place}
use Rattle.piece_ends.proofs.SamePlace.{same_place-itself}
use Rattle.piece_ends.specs.Points.{line, line_through, points}
use Rattle.row_rules.specs.Shape.{line_in, lines_along}

-- each point differs from the one before it
abbrev Moves : Line → Type 0
Moves [] = Unit {0}
Moves (place ∷ []) = Unit {0}
Moves (place ∷ next ∷ rest) = (same_place next place ≡ false) × Moves (next ∷ rest)

-- what is kept after a point begins with it, and moves
moves_from : (place : PlaceOf) (rest : Line) → (kept : Line) × (dedup_from same_place place rest ≡ place ∷ kept) × Moves (place ∷ kept)
moves_from place [] = ([], refl, tt)
moves_from place (next ∷ rest) =
    elim (same_place next place) as (λ b. same_place next place ≡ b
    → (kept : Line) × (cond b (dedup_from same_place place rest) (place ∷ dedup_from same_place next rest) ≡ place ∷ kept)
    × Moves (place ∷ kept)) [
      | true ↦ λ _. moves_from place rest
      | false ↦ λ apart. (let later = moves_from next rest in (next ∷ later.0, ap (λ l. place ∷ l) later.1, (apart, later.2)))
    ] refl

Moves-dedup : (places : Line) → Moves (dedup same_place places)
Moves-dedup [] = tt
Moves-dedup (place ∷ rest) = let kept = moves_from place rest in subst Moves (sym kept.1) kept.2

moves_at : (places : Line) (index : ℕ) → Moves places → index + 1 < length places → slice_get places index ≢ slice_get places (index + 1)
moves_at [] index moves lt same = absurd (omega (arith, lt))
moves_at (place ∷ []) index moves lt same = absurd (omega (arith, lt))
moves_at (place ∷ next ∷ rest) zero moves lt same =
    let one = same_Some place next same in
    let alike : same_place next place ≡ true = ap (same_place next) one ∙ same_place-itself next in
    absurd (cc (alike, moves.0))
moves_at (place ∷ next ∷ rest) (suc index) moves lt same =
    let step : suc index + 1 ≡ suc (index + 1) = omega arith in
    moves_at (next ∷ rest) index moves.1 (omega (arith, lt)) (same ∙ ap (slice_get (place ∷ next ∷ rest)) step)

IsPiece-through : (places found : Line) → Moves places → line_through places ≡ Some found → IsPiece found
IsPiece-through places found moves =
    elim (nat_le 2 (length places)) as (λ b. nat_le 2 (length places) ≡ b → cond b (Some places) None ≡ Some found → IsPiece found) [
      | true ↦ λ long is. subst IsPiece (same_Some places found is)
          (record { points = leb-true 2 (length places) long; moves = λ index lt. moves_at places index moves lt })
      | false ↦ λ _ is. absurd (cc)
    ] refl

-- a line of a way is a piece
pub IsPiece-line : (place : ℕ → Option PlaceOf) (nodes : List ℕ) (found : Line) → line place nodes ≡ Some found → IsPiece found
IsPiece-line place nodes found is = IsPiece-through (points place nodes) found (Moves-dedup (filter_map place nodes)) is

IsPiece-in : (place : ℕ → Option PlaceOf) (object : Option Object) (found : Line) → line_in place object ≡ Some found → IsPiece found
IsPiece-in place None found is = absurd (cc)
IsPiece-in place (Some (objects.Node own tags)) found is = absurd (cc)
IsPiece-in place (Some (objects.Way nodes tags)) found is = IsPiece-line place nodes found is
IsPiece-in place (Some (objects.Relation members tags)) found is = absurd (cc)

pieces-none : ArePieces []
pieces-none k d lt = absurd (omega (arith, lt))

pieces-cons : (piece : Line) (pieces : List Line) → IsPiece piece → ArePieces pieces → ArePieces (piece ∷ pieces)
pieces-cons piece pieces first rest zero d lt = first
pieces-cons piece pieces first rest (suc k) d lt = rest k d (omega (arith, lt))

pieces-more : (place : ℕ → Option PlaceOf) (object : Option Object) (pieces : List Line) (found : Option Line)
    → line_in place object ≡ found
    → ArePieces pieces → ArePieces (cons_option found pieces)
pieces-more place object pieces None is rest = rest
pieces-more place object pieces (Some piece) is rest = pieces-cons piece pieces (IsPiece-in place object piece is) rest

-- the line of a way, if it has one, is a list of pieces
pub pieces_of_one : (place : ℕ → Option PlaceOf) (nodes : List ℕ) → ArePieces (option_to_list (line place nodes))
pieces_of_one place nodes = go (line place nodes) refl
  where
    go : (found : Option Line) → line place nodes ≡ found → ArePieces (option_to_list found)
    go None is = pieces-none
    go (Some piece) is = pieces-cons piece [] (IsPiece-line place nodes piece is) pieces-none

-- the lines of ways are pieces
pub pieces_in : (place : ℕ → Option PlaceOf) (object : KeyOf → Option Object) (ways : List KeyOf)
    → ArePieces (lines_along place object ways)
pieces_in place object [] = pieces-none
pieces_in place object (way ∷ ways) =
    pieces-more place (object way) (lines_along place object ways) (line_in place (object way)) refl (pieces_in place object ways)
