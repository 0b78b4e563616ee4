-- First pages are put into the bytes of directories and of the root page.
use Rattle.std.specs.Prelude.{ℕ, ◌+◌, ◌-◌, ◌*◌, ◌<◌, ◌≤◌, nat_le, nat_lt, ◌&&◌, ◌==◌, List, [], ◌∷◌, length, cond, if◌then◌else◌}
use Rattle.std.specs.Int.{w64, to_le_bytes}
use Rattle.outside.specs.Disk.{overlaid}
use Rattle.chain_store.specs.Marks.{same_pages}
use Rattle.chain_store.specs.Parts.{head_or}
use Rattle.chain_store.specs.declared.parts.Part.{Part}
use Rattle.chain_store.specs.declared.parts.Laid.{Laid}

-- the first page of a chain stands at its place, where it has one among `count` places from `at` on, of the chains from
-- `low` on
unfoldable pub first_put : ℕ → ℕ → ℕ → Laid → List ℕ → List ℕ
first_put at low count one bytes =
    if nat_le low one.number && nat_lt (one.number - low) count
    then overlaid (at + 8 * (one.number - low)) (to_le_bytes w64 (head_or one.pages 0)) bytes else bytes

abbrev pub firsts_put : ℕ → ℕ → ℕ → List Laid → List ℕ → List ℕ
firsts_put at low count [] bytes = bytes
firsts_put at low count (one ∷ others) bytes = firsts_put at low count others (first_put at low count one bytes)

-- the part is a directory, and so many first pages fit
abbrev pub MayFill : ℕ → Part → Type 0
MayFill count part = (8 ≤ part.number) × (part.number < 16) × (8 * count ≤ length part.bytes)

-- the directory with the first pages of these chains, and with marks for the pages that keep their bytes
abbrev pub filled_bytes : ℕ → List Laid → Part → List ℕ
filled_bytes count laid part = firsts_put 0 (16 + 65536 * (part.number - 8)) count laid part.bytes

abbrev pub filled : ℕ → List Laid → Part → Part
filled count laid part = record part { same = same_pages part.before (filled_bytes count laid part); bytes = filled_bytes count laid part }

-- where a chain begins once these are laid, and where it began
abbrev pub begins_at : List Laid → ℕ → ℕ → ℕ
begins_at [] n other = other
begins_at (one ∷ others) n other = begins_at others n (cond (one.number == n) (head_or one.pages 0) other)
