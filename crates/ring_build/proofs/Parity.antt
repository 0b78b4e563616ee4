-- Ends come in pairs: what a walk takes from a place it leaves there.
use Rattle.std.proofs.Common.{◌≡◌, ℕ, zero, suc, ◌+◌, ◌%◌, ◌<◌, ◌≤◌, Bool, true, false, cond, Some, None, Option, List, [], ◌∷◌, ◌++◌}
use Rattle.std.proofs.Common.{length, drop, reverse, refl, sym, ◌∙◌, ap, arith, length-append}
use Rattle.std.specs.Prelude.{count_by, ◌&&◌, ◌||◌, not}
use Rattle.std.specs.Option.{option_map, option_map_or}
use Rattle.std.proofs.lemmas.List.{length-reverse}
use Rattle.std.proofs.lemmas.List.Sums.{sum_by-append}
use Rattle.osm_base.specs.values.Place.{PlaceOf}
use Rattle.piece_ends.specs.Pieces.{Line, same_place, first_place, last_place, is_closed, has_end, fits}
use Rattle.piece_ends.specs.Walk.{next_at, appended, turned_to, extended}
use Rattle.piece_ends.proofs.SamePlace.{one_place}
use Rattle.piece_ends.proofs.Steps.{Found, found_of, length-next_at}
use Rattle.piece_ends.specs.Rings.{ends_of, open_ends}
use Rattle.ring_build.proofs.Appended.{two_points, first_place-append, last_place-append, last_place-reverse}

abbrev pub bit : Bool → ℕ
bit b = cond b 1 0

-- how often an open line ends at a place
abbrev pub touches : PlaceOf → Line → ℕ
touches place line = bit (same_place (first_place line) place) + bit (same_place (last_place line) place)

-- how many ends of open pieces a place holds
abbrev pub ends_at : PlaceOf → List Line → ℕ
ends_at place pieces = count_by (λ end. same_place end place) (open_ends pieces)

abbrev pub own_ends : PlaceOf → Line → ℕ
own_ends place piece = count_by (λ end. same_place end place) (ends_of piece)

pub ends_at-cons : (place : PlaceOf) (piece : Line) (pieces : List Line)
    → ends_at place (piece ∷ pieces) ≡ own_ends place piece + ends_at place pieces
ends_at-cons place piece pieces = sum_by-append (λ end. bit (same_place end place)) (ends_of piece) (open_ends pieces)

pub own_ends-open : (place : PlaceOf) (piece : Line) → is_closed piece ≡ false → own_ends place piece ≡ touches place piece
own_ends-open place piece open_piece =
    ap (λ b. count_by (λ end. same_place end place) (cond b [] (first_place piece ∷ last_place piece ∷ []))) open_piece ∙ omega arith

pub own_ends-closed : (place : PlaceOf) (piece : Line) → is_closed piece ≡ true → own_ends place piece ≡ 0
own_ends-closed place piece closed =
    ap (λ b. count_by (λ end. same_place end place) (cond b [] (first_place piece ∷ last_place piece ∷ []))) closed

-- a closed line ends at a place twice or not at all
pub touches-closed : (place : PlaceOf) (line : Line) → is_closed line ≡ true → touches place line % 2 ≡ 0
touches-closed place line closed =
    let same : first_place line ≡ last_place line = one_place (first_place line) (last_place line) closed in
    let twice : bit (same_place (first_place line) place) ≡ bit (same_place (last_place line) place) =
    ap (λ end. bit (same_place end place)) same in
    omega arith

pub own_ends-touches : (place : PlaceOf) (piece : Line) → (own_ends place piece + touches place piece) % 2 ≡ 0
own_ends-touches place piece = elim (is_closed piece) as (λ b. is_closed piece ≡ b → (own_ends place piece + touches place piece) % 2 ≡ 0) [
  | true ↦ λ closed. omega (arith, own_ends-closed place piece closed, touches-closed place piece closed)
  | false ↦ λ open_piece. omega (arith, own_ends-open place piece open_piece)
] refl

-- a piece that was found fits, and its ends are those that are gone; where none was found, none was there
abbrev IsFound : PlaceOf → List Line → Option Found → Type 0
IsFound place unused None = ends_at place unused ≡ 0
IsFound place unused (Some (piece, rest)) =
    (fits place piece ≡ true) × ((q : PlaceOf) → ends_at q unused ≡ touches q piece + ends_at q rest)

-- a piece that does not fit has no open end there
off : (place : PlaceOf) (piece : Line) → fits place piece ≡ false → own_ends place piece ≡ 0
off place piece unfit = elim (is_closed piece) as
    (λ b. is_closed piece ≡ b → (not b && has_end piece place) ≡ false → own_ends place piece ≡ 0) [
      | true ↦ λ closed _. own_ends-closed place piece closed
      | false ↦ λ open_piece e. own_ends-open place piece open_piece
          ∙ neither (same_place (first_place piece) place) (same_place (last_place piece) place) e
    ] refl unfit
  where
    neither : (a b : Bool) → (true && (a || b)) ≡ false → bit a + bit b ≡ 0
    neither true b e = absurd (cc)
    neither false true e = absurd (cc)
    neither false false e = refl

open_fit : (place : PlaceOf) (piece : Line) → fits place piece ≡ true → is_closed piece ≡ false
open_fit place piece fit = elim (is_closed piece) as
    (λ b. (not b && has_end piece place) ≡ true → b ≡ false) [ true ↦ λ e. absurd (cc) | false ↦ λ _. refl ] fit

found_later : (place : PlaceOf) (own : Line) (unused : List Line) → fits place own ≡ false → (found : Option Found)
    → IsFound place unused found
    → IsFound place (own ∷ unused) (option_map {U = Found} (λ found. (found.0, own ∷ found.1)) found)
found_later place own unused unfit None none = omega (arith, ends_at-cons place own unused, off place own unfit, none)
found_later place own unused unfit (Some (piece, rest)) some =
    (some.0, λ q. omega (arith, ends_at-cons q own unused, ends_at-cons q own rest, some.1 q))

pub found_by : (place : PlaceOf) (unused : List Line) → IsFound place unused (next_at place unused)
found_by place [] = refl
found_by place (own ∷ unused) =
    let later = found_by place unused in
    elim (fits place own) as (λ b. fits place own ≡ b
    → IsFound place (own ∷ unused) (cond b (Some (found_of own unused))
    (option_map {U = Found} (λ found. (found.0, own ∷ found.1)) (next_at place unused)))) [
      | true ↦ λ fit. (fit, λ q. ends_at-cons q own unused ∙ ap (λ n. n + ends_at q unused) (own_ends-open q own (open_fit place own fit)))
      | false ↦ λ unfit. found_later place own unused unfit (next_at place unused) later
    ] refl

-- a fitting piece behind a line: the line ends where the piece does at its other end
module _ (line piece : Line) (some : 0 < length line) (fit : fits (last_place line) piece ≡ true) where
  two : 2 ≤ length piece
  two = two_points piece (open_fit (last_place line) piece fit)

  first_stays : first_place (appended line piece) ≡ first_place line
  first_stays = first_place-append line (drop 1 (turned_to (last_place line) piece)) some

  -- as it stands
  straight : same_place (first_place piece) (last_place line) ≡ true
      → (last_place (appended line piece) ≡ last_place piece) × (first_place piece ≡ last_place line)
  straight begins = (
    ap (λ b. last_place (line ++ drop 1 (cond b piece (reverse piece)))) begins ∙ last_place-append line piece two,
    one_place (first_place piece) (last_place line) begins,
  )

  -- turned round
  turned : same_place (first_place piece) (last_place line) ≡ false
      → (last_place (appended line piece) ≡ first_place piece) × (last_place piece ≡ last_place line)
  turned begins =
      let two_turned : 2 ≤ length (reverse piece) = omega (arith, length-reverse piece, two) in
      let some_place : 0 < length piece = omega (arith, two) in (
        ap (λ b. last_place (line ++ drop 1 (cond b piece (reverse piece)))) begins ∙ last_place-append line (reverse piece) two_turned
            ∙ last_place-reverse piece some_place,
        one_place (last_place piece) (last_place line)
            (ends (is_closed piece) (same_place (last_place piece) (last_place line))
            (ap (λ b. not (is_closed piece) && (b || same_place (last_place piece) (last_place line))) (sym begins) ∙ fit)),
      )
    where
      ends : (c b : Bool) → (not c && (false || b)) ≡ true → b ≡ true
      ends true b e = absurd (cc)
      ends false true e = refl
      ends false false e = absurd (cc)

  pub touches-appended : (q : PlaceOf) → (touches q (appended line piece) + touches q piece + touches q line) % 2 ≡ 0
  touches-appended q =
      let start : bit (same_place (first_place (appended line piece)) q) ≡ bit (same_place (first_place line) q) =
      ap (λ end. bit (same_place end q)) first_stays in
      elim (same_place (first_place piece) (last_place line)) as
      (λ b. same_place (first_place piece) (last_place line) ≡ b
      → (touches q (appended line piece) + touches q piece + touches q line) % 2 ≡ 0) [
        | true ↦ λ begins.
            let at_end : bit (same_place (last_place (appended line piece)) q) ≡ bit (same_place (last_place piece) q) =
            ap (λ end. bit (same_place end q)) (straight begins).0 in
            let at_seam : bit (same_place (first_place piece) q) ≡ bit (same_place (last_place line) q) =
            ap (λ end. bit (same_place end q)) (straight begins).1 in
            omega arith
        | false ↦ λ begins.
            let at_end : bit (same_place (last_place (appended line piece)) q) ≡ bit (same_place (first_place piece) q) =
            ap (λ end. bit (same_place end q)) (turned begins).0 in
            let at_seam : bit (same_place (last_place piece) q) ≡ bit (same_place (last_place line) q) =
            ap (λ end. bit (same_place end q)) (turned begins).1 in
            omega arith
      ] refl

-- what a walk that has come to its end leaves
pub record IsWalked (line : Line) (unused : List Line) (after : Found) : Type 0 where
  pub even : (q : PlaceOf) → (ends_at q unused + touches q line + (ends_at q after.1 + touches q after.0)) % 2 ≡ 0
  pub stuck : is_closed after.0 ≡ false → ends_at (last_place after.0) after.1 ≡ 0

stays : (line : Line) (unused : List Line) → (is_closed line ≡ false → ends_at (last_place line) unused ≡ 0)
    → IsWalked line unused (found_of line unused)
stays line unused stuck = record { even = λ q. omega arith; stuck = stuck }

walked_on : (steps : ℕ) (line : Line) (unused : List Line) → 0 < length line → length unused ≤ suc steps
    → ((longer : Line) (rest : List Line) → 0 < length longer → length rest ≤ steps → IsWalked longer rest (extended steps longer rest))
    → (found : Option Found) → ((piece : Line) (rest : List Line) → found ≡ Some (found_of piece rest) → length unused ≡ suc (length rest))
    → IsFound (last_place line) unused found
    → IsWalked line unused (option_map_or {U = Found} (λ found. extended steps (appended line found.0) found.1) found (line, unused))
walked_on steps line unused some bound later None less none = stays line unused (λ _. none)
walked_on steps line unused some bound later (Some (piece, rest)) less facts =
    let longer : 0 < length (appended line piece) = omega (arith, length-append line (drop 1 (turned_to (last_place line) piece))) in
    let fewer : length rest ≤ steps = omega (arith, less piece rest refl) in
    let walked = later (appended line piece) rest longer fewer in
    record {
      even = λ q. omega (arith, facts.1 q, touches-appended line piece some facts.0 q, walked.even q);
      stuck = walked.stuck;
    }

pub walked : (steps : ℕ) (line : Line) (unused : List Line) → 0 < length line → length unused ≤ steps
    → IsWalked line unused (extended steps line unused)
unfolding extended
walked zero line [] some bound = stays line [] (λ _. refl)
walked zero line (piece ∷ unused) some bound = absurd (omega arith)
walked (suc steps) line unused some bound =
    let on = walked_on steps line unused some bound (λ longer rest h g. walked steps longer rest h g) (next_at (last_place line) unused)
    (λ piece rest e. length-next_at (last_place line) unused piece rest e) (found_by (last_place line) unused) in
    elim (is_closed line) as (λ b. is_closed line ≡ b
    → IsWalked line unused (cond b (found_of line unused)
    (option_map_or {U = Found} (λ found. extended steps (appended line found.0) found.1) (next_at (last_place line) unused)
    (line, unused)))) [
      | true ↦ λ closed. stays line unused (λ open_line. absurd (cc))
      | false ↦ λ _. on
    ] refl
