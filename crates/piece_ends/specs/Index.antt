-- How the pieces that are not used yet are found by the places of their ends.
-- Each place has a list of pieces by rising numbers: a head, and behind each piece the next one.
use Rattle.std.specs.Prelude.{◌≡◌, ℕ, ◌+◌, ◌<◌, ◌≤◌, Bool, true, false, List, [], ◌∷◌, length, unwrap_or, slice_index_or, if◌then◌else◌}
use Rattle.std.specs.FinMap as map
use Rattle.osm_base.specs.values.Place.{PlaceOf}
use Rattle.piece_ends.specs.declared.index.Links.{Links}
use Rattle.piece_ends.specs.Heads.{HeadMap}
use Rattle.piece_ends.specs.Pieces.{Line, same_place, first_place, last_place, fits}

-- the pieces that are not used, in the order of their numbers
abbrev pub unused_of : List Bool → List Line → List Line
unused_of (true ∷ used) (piece ∷ pieces) = unused_of used pieces
unused_of (false ∷ used) (piece ∷ pieces) = piece ∷ unused_of used pieces
unused_of _ _ = []

abbrev pub piece_at : List Line → ℕ → Line
piece_at pieces number = slice_index_or pieces number []

-- each piece has a point
abbrev pub HavePoints : List Line → Type 0
HavePoints pieces = (number : ℕ) → number < length pieces → 0 < length (piece_at pieces number)

-- a piece is open and has an end at a place
pub record IsAt (pieces : List Line) (place : PlaceOf) (number : ℕ) : Type 0 where
  pub below : number < length pieces
  pub fit : fits place (piece_at pieces number) ≡ true

-- the piece that stands behind another at a place; the number of all pieces where there is none
abbrev pub next_of : List Line → List Links → PlaceOf → ℕ → ℕ
next_of pieces links place number =
    let behind = slice_index_or links number (record { first = 0; last = 0 }) in
    if same_place (first_place (piece_at pieces number)) place then behind.first else behind.last

-- the head at a place; the number of all pieces where there is none
abbrev pub head_among : ℕ → HeadMap → PlaceOf → ℕ
head_among count heads place = unwrap_or (map.get heads place) count

abbrev pub head_of : List Line → HeadMap → PlaceOf → ℕ
head_of pieces heads place = head_among (length pieces) heads place

-- the heads with a piece put before those at its first place, and then before those at its last
abbrev pub headed_first : HeadMap → Line → ℕ → HeadMap
headed_first heads piece number = map.insert heads (first_place piece) number

abbrev pub headed_both : HeadMap → Line → ℕ → HeadMap
headed_both heads piece number = map.insert (headed_first heads piece number) (last_place piece) number

-- a number is that of the next piece at a place, at or above a bound
pub record IsNext (pieces : List Line) (place : PlaceOf) (bound number : ℕ) : Type 0 where
  pub above : bound ≤ number
  pub at_place : number < length pieces → IsAt pieces place number
  pub lowest : (other : ℕ) → bound ≤ other → IsAt pieces place other → number ≤ other

-- behind each piece from a number on stands the next one at each of its places
abbrev pub AreLinks : List Line → List Links → ℕ → Type 0
AreLinks pieces links from =
    (place : PlaceOf) (number : ℕ) → from ≤ number → IsAt pieces place number
    → IsNext pieces place (number + 1) (next_of pieces links place number)

-- each head is the first of the pieces from a number on
abbrev pub AreHeadsFrom : List Line → HeadMap → ℕ → Type 0
AreHeadsFrom pieces heads from = (place : PlaceOf) → IsNext pieces place from (head_of pieces heads place)

-- each head is at its place, and no unused piece there stands before it
pub record AreHeads (pieces : List Line) (heads : HeadMap) (used : List Bool) : Type 0 where
  pub at_place : (place : PlaceOf) → head_of pieces heads place < length pieces → IsAt pieces place (head_of pieces heads place)
  pub lowest : (place : PlaceOf) (number : ℕ) → IsAt pieces place number → slice_index_or used number true ≡ false
      → head_of pieces heads place ≤ number

-- a piece is the lowest unused one at a place
pub record IsLowestAt (pieces : List Line) (used : List Bool) (place : PlaceOf) (number : ℕ) : Type 0 where
  pub at_place : IsAt pieces place number
  pub unused : slice_index_or used number true ≡ false
  pub lowest : (other : ℕ) → IsAt pieces place other → slice_index_or used other true ≡ false → number ≤ other

-- no unused piece is at a place
abbrev pub NoneAt : List Line → List Bool → PlaceOf → Type 0
NoneAt pieces used place = (number : ℕ) → IsAt pieces place number → slice_index_or used number true ≡ true

-- the parts of the index of pieces belong together
pub record IsIndex (pieces : List Line) (used : List Bool) (links : List Links) (heads : HeadMap) : Type 0 where
  pub marks : length used ≡ length pieces
  pub rows : length links ≡ length pieces
  pub points : HavePoints pieces
  pub linked : AreLinks pieces links 0
  pub headed : AreHeads pieces heads used

-- each piece below a number is used
abbrev pub AreUsedBelow : List Bool → ℕ → Type 0
AreUsedBelow used first = (number : ℕ) → number < first → slice_index_or used number true ≡ true

-- what always holds of the pieces that are not used yet: their index, and how far the lowest was sought
pub record IsUnused (pieces : List Line) (used : List Bool) (links : List Links) (heads : HeadMap) (first : ℕ) : Type 0 where
  pub index : IsIndex pieces used links heads
  pub within : first ≤ length used
  pub passed : AreUsedBelow used first
