-- A walk out of even ends stops where it began, and leaves even ends.
use Rattle.std.proofs.Common.{◌≡◌, ◌+◌, ◌%◌, ◌<◌, ◌≤◌, Bool, true, false, cond, Some, None, Option, List, [], ◌∷◌, ◌++◌, length, refl, sym}
use Rattle.std.proofs.Common.{◌∙◌, ap, subst, arith}
use Rattle.std.specs.Prelude.{nat_le, ◌&&◌}
use Rattle.std.specs.List.{list_all}
use Rattle.std.proofs.lemmas.Bool.{le-leb, leb-true}
use Rattle.std.proofs.lemmas.List.Folds.{list_all-append}
use Rattle.osm_base.specs.values.Place.{PlaceOf}
use Rattle.piece_ends.specs.Pieces.{Line, same_place, first_place, last_place, is_closed}
use Rattle.piece_ends.specs.Walk.{lines_by}
use Rattle.piece_ends.proofs.SamePlace.{same_place-itself}
use Rattle.piece_ends.proofs.Steps.{found_of, extended-closed}
use Rattle.piece_ends.proofs.Lines.{Grows, length-extended}
use Rattle.piece_ends.specs.Rings.{open_ends, has_odd_place, ring_begun, has_four_points, rings}
use Rattle.osm_base.specs.values.Line.{IsRing}
use Rattle.ring_build.proofs.Parity.{bit, touches, ends_at, ends_at-cons, own_ends-touches, touches-closed, IsWalked, walked}
use Rattle.ring_build.proofs.OddPlaces.{has_odd_place-true, has_odd_place-false}

pub ring_begun-Grows : Grows ring_begun
ring_begun-Grows = record {
  alone = λ piece unused closed. extended-closed (length unused) piece unused closed;
  fewer = λ piece unused. length-extended (length unused) piece unused;
}

-- the ends of the pieces that are left are as even as those of all
abbrev pub AreAlike : List Line → List Line → Type 0
AreAlike pieces unused = (place : PlaceOf) → (ends_at place pieces + ends_at place unused) % 2 ≡ 0

pub AreAlike-itself : (pieces : List Line) → AreAlike pieces pieces
AreAlike-itself pieces place = omega arith

module _ (pieces unused rest left : List Line) (piece ring : Line) (some : 0 < length piece) (is_first : unused ≡ piece ∷ rest)
    (is_begun : found_of ring left ≡ ring_begun piece rest) (alike : AreAlike pieces unused) where
  walk : IsWalked piece rest (found_of ring left)
  walk =
      let enough : length rest ≤ length rest = omega arith in
      subst (IsWalked piece rest) (sym is_begun) (walked (length rest) piece rest some enough)

  on : (place : PlaceOf) → (ends_at place pieces + ends_at place left + touches place ring) % 2 ≡ 0
  on place = omega (
    arith,
    alike place,
    ap (ends_at place) is_first,
    ends_at-cons place piece rest,
    own_ends-touches place piece,
    walk.even place,
  )

  pub AreAlike-closed : is_closed ring ≡ true → AreAlike pieces left
  AreAlike-closed closed place = omega (arith, on place, touches-closed place ring closed)

  -- a walk that stopped elsewhere shows a place with an odd number
  pub odd-open : is_closed ring ≡ false → has_odd_place (open_ends pieces) ≡ true
  odd-open open_ring =
      let place = last_place ring in
      let start : bit (same_place (first_place ring) place) ≡ 0 = ap bit open_ring in
      let end : bit (same_place place place) ≡ 1 = ap bit (same_place-itself place) in
      let odd : ends_at place pieces % 2 ≡ 1 = omega (arith, on place, walk.stuck open_ring) in
      has_odd_place-true (open_ends pieces) place odd

-- the three answers
abbrev answer : Bool → Bool → List Line → Option (List Line)
answer odd four closed = cond odd None (cond four (Some closed) None)

pub rings-odd : (pieces : List Line) → has_odd_place (open_ends pieces) ≡ true → rings pieces ≡ None
rings-odd pieces odd = ap (λ b. answer b (list_all has_four_points (lines_by ring_begun pieces)) (lines_by ring_begun pieces)) odd

pub rings-short : (pieces : List Line) → list_all has_four_points (lines_by ring_begun pieces) ≡ false → rings pieces ≡ None
rings-short pieces short =
    ap (λ b. answer (has_odd_place (open_ends pieces)) b (lines_by ring_begun pieces)) short ∙ both (has_odd_place (open_ends pieces))
  where
    both : (b : Bool) → answer b false (lines_by ring_begun pieces) ≡ None
    both true = refl
    both false = refl

-- all pieces are used, and each ring has four points
pub rings-all : (pieces closed : List Line) → lines_by ring_begun pieces ≡ closed → AreAlike pieces []
    → list_all has_four_points closed ≡ true → rings pieces ≡ Some closed
rings-all pieces closed is alike four =
    let even : has_odd_place (open_ends pieces) ≡ false = has_odd_place-false (open_ends pieces) (λ place. omega (arith, alike place)) in
    ap (λ b. answer b (list_all has_four_points (lines_by ring_begun pieces)) (lines_by ring_begun pieces)) even
    ∙ ap (λ lines. answer false (list_all has_four_points lines) lines) is
    ∙ ap (λ b. answer false b closed) four

-- a ring of fewer points among the rings
pub four-short : (done : List Line) (ring : Line) (others : List Line) → nat_le 4 (length ring) ≡ false
    → list_all has_four_points (done ++ ring ∷ others) ≡ false
four-short done ring others short =
    list_all-append has_four_points done (ring ∷ others)
    ∙ ap (λ b. list_all has_four_points done && (b && list_all has_four_points others)) short
    ∙ and_false (list_all has_four_points done)
  where
    and_false : (b : Bool) → (b && false) ≡ false
    and_false true = refl
    and_false false = refl

pub four-more : (done : List Line) (ring : Line) → list_all has_four_points done ≡ true → 4 ≤ length ring
    → list_all has_four_points (done ++ ring ∷ []) ≡ true
four-more done ring four points =
    list_all-append has_four_points done (ring ∷ []) ∙ ap (λ b. b && (has_four_points ring && true)) four
    ∙ ap (λ b. b && true) (le-leb 4 (length ring) points)

-- what is no ring: the answer is none
pub rings-not : (pieces done others : List Line) (ring : Line) → lines_by ring_begun pieces ≡ done ++ ring ∷ others
    → (is_closed ring ≡ false → has_odd_place (open_ends pieces) ≡ true) → (IsRing ring → ⊥) → rings pieces ≡ None
rings-not pieces done others ring is odd fails =
    elim (is_closed ring) as (λ b. is_closed ring ≡ b → rings pieces ≡ None) [
      | true ↦ λ closed. elim (nat_le 4 (length ring)) as (λ b. nat_le 4 (length ring) ≡ b → rings pieces ≡ None) [
        | true ↦ λ four. absurd (fails (record { points = leb-true 4 (length ring) four; closed = closed }))
        | false ↦ λ short. rings-short pieces (ap (list_all has_four_points) is ∙ four-short done ring others short)
      ] refl
      | false ↦ λ open_ring. rings-odd pieces (odd open_ring)
    ] refl
