-- A disk, and what a crash may leave on it.
-- Between two syncs each written range, and what lies past the old end, may hold anything after a crash, and the
-- end may be anywhere from the old one to the new one. Bytes outside the written ranges stay. A write that fails
-- counts as written. A sync that succeeds leaves what a read gives, and one that fails promises nothing new.
use Rattle.std.specs.Prelude.{◌≡◌, ℕ, ◌+◌, ◌-◌, ◌<◌, ◌≤◌, ◌⊎◌, min, max, List, ◌++◌, length, take, drop, replicate, slice_index, Option}
use Rattle.std.specs.Prelude.{Some}
use Rattle.outside.specs.Counts.{one_more}

-- what crashes may leave: of a crash now, and of a crash at some moment from an earlier one on, inside a call or
-- between two. The clock of moments never goes back.
pub record Crashes : Type 1 where
  pub moment : ℕ
  pub outcomes : List ℕ → Type 0
  pub outcomes_since : ℕ → List ℕ → Type 0

-- how many reads there were, and where the furthest of the ranges ended that they asked for
pub record ReadLog : Type 0 where
  pub count : ℕ
  pub reach : ℕ

-- the reads after one more, of so many bytes from this place on
abbrev pub one_read : ℕ → ℕ → ReadLog → ReadLog
one_read at len log = record { count = one_more log.count; reach = max log.reach (at + len) }

-- what a disk is: what a read gives, where it tells that; what crashes may leave; how many calls have failed; and
-- the reads, where it tells them
pub record DiskView : Type 1 where
  pub content : Option (List ℕ)
  pub crashes : Crashes
  pub faults : ℕ
  pub reads : Option ReadLog

-- the disk tells that a read gives this
abbrev pub Tells : DiskView → List ℕ → Type 0
Tells view content = view.content ≡ Some content

-- where the reads are told, there were at most so many more, and none of them past this end
abbrev pub ReadsAtMost : ℕ → ℕ → DiskView → DiskView → Type 0
ReadsAtMost count end old new = (before : ReadLog) → old.reads ≡ Some before → (now : ReadLog) × (new.reads ≡ Some now)
    × (now.count ≤ before.count + count) × (now.reach ≤ max before.reach end)

-- the front of a content, made longer by zeros where it is too short
unfoldable pub padded : ℕ → List ℕ → List ℕ
padded at content = take at content ++ replicate (at - length content) 0

-- a content with these bytes written over it, with zeros in a gap behind its end
unfoldable pub overlaid : ℕ → List ℕ → List ℕ → List ℕ
overlaid at bytes content = padded at content ++ bytes ++ drop (at + length bytes) content

-- what a crash may make of a content while so many bytes are written to it from here on: any bytes in the range
-- and past the old end, and the same elsewhere
pub record Torn (at count : ℕ) (old new : List ℕ) : Type 0 where
  pub no_shorter : length old ≤ length new
  pub no_longer : length new ≤ max (length old) (at + count)
  pub below : (i : ℕ) → i < length old → i < at → slice_index new i ≡ slice_index old i
  pub above : (i : ℕ) → i < length old → at + count ≤ i → slice_index new i ≡ slice_index old i

-- each outcome of a crash now is an earlier outcome after this step
abbrev pub Follows : (List ℕ → List ℕ → Type 0) → Crashes → Crashes → Type 0
Follows step old new = (left : List ℕ) → new.outcomes left → (before : List ℕ) × old.outcomes before × step before left

-- no crash leaves what an earlier one could not leave
abbrev pub NoneNew : Crashes → Crashes → Type 0
NoneNew old new = (left : List ℕ) → new.outcomes left → old.outcomes left

-- a crash leaves this and nothing else
abbrev pub Only : List ℕ → Crashes → Type 0
Only content crashes = (left : List ℕ) → crashes.outcomes left → left ≡ content

-- each outcome of a crash now is such a content
abbrev pub Within : (List ℕ → Type 0) → Crashes → Type 0
Within P crashes = (left : List ℕ) → crashes.outcomes left → P left

-- time goes on: a crash since a moment might have left what it might have left before, or what it may leave now
pub record Elapses (old new : Crashes) : Type 0 where
  pub later : old.moment ≤ new.moment
  pub each : (since : ℕ) (left : List ℕ) → since ≤ old.moment → new.outcomes_since since left
      → old.outcomes_since since left ⊎ new.outcomes left
  pub keeps : (since : ℕ) (left : List ℕ) → since ≤ old.moment → old.outcomes_since since left
      → new.outcomes_since since left

-- time went on, and each outcome of a crash at a moment since then is one from before or such a content
pub record Goes (P : List ℕ → Type 0) (old new : Crashes) : Type 0 where
  pub later : old.moment ≤ new.moment
  pub each : (since : ℕ) (left : List ℕ) → since ≤ old.moment → new.outcomes_since since left
      → old.outcomes_since since left ⊎ P left
  pub now : Within P new

-- only looks were made: what a read gives is as before, and no crash leaves anything new
pub record Stays (old new : DiskView) : Type 0 where
  pub content : new.content ≡ old.content
  pub runs : Goes old.crashes.outcomes old.crashes new.crashes

-- so many bytes of a content from here on stand at the front of the buffer, whose rest is as it was
pub record ReadsFrom (at count : ℕ) (content old new : List ℕ) : Type 0 where
  pub many : count ≡ min (length old) (length content - at)
  pub bytes : new ≡ take count (drop at content) ++ drop count old

-- where this content is told, another that is told is the same
pub told_is : (content told : List ℕ) → Some content ≡ Some told → told ≡ content
told_is content told is = cc
