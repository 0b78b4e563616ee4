-- The runs of tiles that events tell, from north to south and from west to east.
use Rattle.std.specs.Prelude.{◌≡◌, ℕ, ◌+◌, ◌*◌, ◌≤◌, ◌%◌, ◌==◌, nat_le, max, Bool, true, not, ◌&&◌, ◌||◌, if◌then◌else◌, List, [], ◌∷◌}
use Rattle.std.specs.Prelude.{count_by}
use Rattle.std.specs.List.{AllByRecursion, list_any}
use Rattle.tile_cover.specs.declared.events.Event.{Event}
use Rattle.tile_cover.specs.declared.runs.Run.{Run}
use Rattle.tile_cover.specs.declared.sweep.Cursor.{Cursor}
use Rattle.tile_cover.specs.Runs.{has, start_of, BeginsLater}
use Rattle.tile_cover.specs.Events.{is_at, is_beyond}

-- the place of an event's first column, counted over all rows
abbrev pub position_of : Event → ℕ
position_of event = event.row * 131072 + event.span.first

-- no event stands before one that it comes after
abbrev pub AreRising : List Event → Type 0
AreRising [] = Unit {0}
AreRising (event ∷ events) = AllByRecursion (λ other. position_of event ≤ position_of other) events × AreRising events

-- whether events tell a tile: one has it, or filled tiles count and those further east are odd in number
abbrev pub is_told : Bool → List Event → ℕ → ℕ → Bool
is_told filled events row x = list_any (is_at row x) events || (filled && (count_by (is_beyond row x) events % 2 == 1))

-- whether an event goes through the northern side of a row
abbrev pub goes_through : ℕ → Event → Bool
goes_through row event = (event.row == row) && event.span.straddles

-- whether those of a row are odd in number
abbrev pub is_odd_row : ℕ → List Event → Bool
is_odd_row row events = count_by (goes_through row) events % 2 == 1

-- whether a column lies from the cursor on
abbrev pub is_open : Cursor → ℕ → ℕ → Bool
is_open cursor row x = if cursor.row == row then nat_le cursor.edge x else true

-- the first column of the run that an event makes: from the cursor on where the tiles before the event are filled
abbrev pub from_of : Bool → Cursor → Event → ℕ
from_of filled cursor event = if (filled && cursor.odd) then cursor.edge else max cursor.edge event.span.first

abbrev pub edge_after : Bool → Cursor → Event → ℕ
edge_after filled cursor event = if nat_le (from_of filled cursor event) event.span.last then event.span.last + 1 else cursor.edge

-- what a set gains by an event, and where the cursor is then
pub record AddsEvent (zoom : ℕ) (filled : Bool) (cursor : Cursor) (event : Event) (old new : List Run) (next : Cursor) : Type 0 where
  pub row : next.row ≡ cursor.row
  pub edge : next.edge ≡ edge_after filled cursor event
  pub odd : next.odd ≡ (if event.span.straddles then not cursor.odd else cursor.odd)
  pub tiles : (z x y : ℕ) → has new z x y ≡
      (has old z x y || ((zoom == z) && ((cursor.row == y) && (nat_le (from_of filled cursor event) x && nat_le x event.span.last))))

-- no run of a set begins behind the cursor
abbrev pub StandsBefore : ℕ → Cursor → List Run → Type 0
StandsBefore zoom cursor set = (next : Run) → (zoom * 65536 + cursor.row) * 131072 + cursor.edge ≤ start_of next → BeginsLater set next

-- the cursor at the row of the next event
pub record IsAtRow (cursor here : Cursor) (events : List Event) (event : Event) : Type 0 where
  pub row : here.row ≡ event.row
  pub odd : here.odd ≡ is_odd_row event.row events
  pub edge : here.edge ≡ (if event.row == cursor.row then cursor.edge else 0)
