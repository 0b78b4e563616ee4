-- What a commit writes, as it was gathered.
use Rattle.std.specs.Prelude.{◌≡◌, ◌≢◌, ◌⊎◌, ℕ, ◌+◌, ◌*◌, List, [], ◌∷◌, Bool, cond, replicate, Some, None}
use Rattle.std.specs.FinMap as map
use Rattle.chain_store.specs.Known.{Lists}
use Rattle.chain_store.specs.declared.parts.Part.{Part}
use Rattle.chain_store.specs.declared.walking.Walked.{Walked}

-- no part has this number
abbrev pub IsNoNumber : ℕ → List Part → Type 0
IsNoNumber n [] = Unit {0}
IsNoNumber n (part ∷ parts) = (n ≢ part.number) × IsNoNumber n parts

abbrev pub AreApart : List Part → Type 0
AreApart [] = Unit {0}
AreApart (part ∷ parts) = IsNoNumber part.number parts × AreApart parts

-- a part has the bytes that were written, the pages that were read, and the marks of pages that stay, or none
abbrev pub IsGathered : Lists → Lists → Lists → Part → Type 0
IsGathered written read before part = (map.get written part.number ≡ Some part.bytes) × (map.get read part.number ≡ Some part.old)
    × ((part.same ≡ []) ⊎ (map.get before part.number ≡ Some part.same))

abbrev pub EachGathered : Lists → Lists → Lists → List Part → Type 0
EachGathered written read before [] = Unit {0}
EachGathered written read before (part ∷ parts) = IsGathered written read before part × EachGathered written read before parts

-- these are all chains that were written
pub record AreGathered (written read before : Lists) (parts : List Part) : Type 0 where
  pub each : EachGathered written read before parts
  pub apart : AreApart parts
  pub whole : (n : ℕ) → IsNoNumber n parts → map.get written n ≡ None

-- as far as that has come
pub record IsGathering (written read before : Lists) (parts : List Part) (left known had : Lists) : Type 0 where
  pub each : EachGathered written read before parts
  pub apart : AreApart parts
  pub others : (n : ℕ) → IsNoNumber n parts
      → (map.get left n ≡ map.get written n) × (map.get known n ≡ map.get read n) × (map.get had n ≡ map.get before n)
  pub gone : (n : ℕ) → (IsNoNumber n parts → ⊥) → map.get left n ≡ None

-- the directories as parts, before first pages are put into them: as they are where each map has as many buckets as
-- before, and else without any first page
abbrev pub base_of : Bool → ℕ → List ℕ → List ℕ
base_of same count bytes = cond same bytes (replicate (8 * count) 0)

abbrev pub base_parts : Bool → ℕ → ℕ → List Walked → List Part
base_parts same count number [] = []
base_parts same count number (walked ∷ others) = record {
  number = number;
  old = walked.pages.items;
  before = walked.bytes.items;
  same = [];
  bytes = base_of same count walked.bytes.items;
} ∷ base_parts same count (number + 1) others
