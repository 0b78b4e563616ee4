-- Pages that lie one behind the other and are held back, so that they go to the disk in one call.
use Rattle.std.specs.Prelude.{◌≡◌, ◌⊎◌, ℕ, ◌+◌, ◌^◌, ◌≤◌, List, [], ◌∷◌, length, take}
use Rattle.outside.specs.Disk.{DiskView, Tells, overlaid}
use Rattle.page_journal.specs.declared.layout.TheConstants.{PAGE_LEN}

-- a content with what is held back over it
abbrev pub shown : ℕ → List ℕ → List ℕ → List ℕ
shown at [] content = content
shown at (byte ∷ held) content = overlaid at (byte ∷ held) content

-- what is held fits its buffer and the disk
pub record Fits (at filled : ℕ) (buffer : List ℕ) : Type 0 where
  pub size : length buffer ≡ 65536
  pub inside : filled ≤ 65536
  pub room : at + filled ≤ 2 ^ 62

-- this is what a read gives once what is held is written
pub record Shows (at filled : ℕ) (buffer : List ℕ) (view : DiskView) (content : List ℕ) : Type 0 where
  pub now : List ℕ
  pub told : Tells view now
  pub is : content ≡ shown at (take filled buffer) now

-- with a page more, what is held ends behind it, and begins with it or, where it lay behind what was held, as before
pub record Grows (at filled place new_at new_filled : ℕ) : Type 0 where
  pub end : new_at + new_filled ≡ place + PAGE_LEN
  pub start : (new_at ≡ place) ⊎ ((new_at ≡ at) × (place ≡ at + filled))
