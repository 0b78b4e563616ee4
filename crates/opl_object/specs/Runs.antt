-- Runs of bytes of a class at the front of a text, as they are told sixteen bytes at a time.
use Rattle.std.specs.Prelude.{ℕ, ◌≡◌, ◌<◌, ◌≤◌, ◌+◌, ◌==◌, ◌&&◌, Bool, true, false, not, nat_le, if◌then◌else◌, List, slice_index}
use Rattle.std.specs.Int.{w64, trailing_zeros}
use Rattle.opl_object.specs.declared.lanes.TheConstants.{LANES}
use Rattle.opl_object.specs.Text.{is_reserved}

-- a byte that may stand in a text as it is
abbrev pub is_bare : ℕ → Bool
is_bare byte = not (is_reserved byte)

-- these first bytes may
abbrev pub AreBare : List ℕ → ℕ → Type 0
AreBare text run = (k : ℕ) → k < run → is_reserved (slice_index text k) ≡ false

-- these first bytes are of a class, no more of them than are tested at once
pub record Passes (test : ℕ → Bool) (text : List ℕ) (run : ℕ) : Type 0 where
  pub few : run ≤ LANES
  pub all : (k : ℕ) → k < run → test (slice_index text k) ≡ true

-- and the next byte that is tested with them is not
pub record IsRun (test : ℕ → Bool) (text : List ℕ) (run : ℕ) : Type 0 where
  pub passes : Passes test text run
  pub stops : run < LANES → test (slice_index text run) ≡ false

-- the place of the lowest bit that is set, or the number of lanes where none is
abbrev pub first_set : ℕ → ℕ
first_set mask = if mask == 0 then LANES else trailing_zeros w64 mask

-- a byte from the least to so many behind it
abbrev pub is_within : ℕ × (ℕ × ℕ) → Bool
is_within (byte, (least, room)) = nat_le least byte && nat_le byte (least + room)

-- the last byte of such a range is a byte
abbrev pub is_room : ℕ × ℕ → Bool
is_room (least, room) = nat_le (least + room) 255
