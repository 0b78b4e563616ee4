-- The blocks of a feed, as whoever reads lines tells them apart.
use Rattle.std.specs.Prelude.{◌≡◌, ◌≢◌, ◌⊎◌, ℕ, nat_eq, List, [], ◌∷◌, ◌++◌, codes, filter, length}
use Rattle.std.specs.List.{AllByRecursion}
use Rattle.delta_feed.specs.Text.{ended_lines}

-- how many lines there are
abbrev pub lines_in : List ℕ → ℕ
lines_in bytes = length (filter (nat_eq 10) bytes)

-- a line that is not the last one of a block
abbrev pub IsInner : List ℕ → Type 0
IsInner line = (lines_in line ≡ 0) × (line ≢ codes "end")

-- one block: lines, of which the last one and no other is `end`
pub record IsFeedBlock (text : List ℕ) : Type 0 where
  pub lines : List (List ℕ)
  pub inner : AllByRecursion IsInner lines
  pub is : text ≡ ended_lines (lines ++ codes "end" ∷ [])

-- nothing, or the front of a block that lacks some of it
abbrev pub IsPart : List ℕ → Type 0
IsPart part = (part ≡ [])
    ⊎ ((text : List ℕ) × (rest : List ℕ) × IsFeedBlock text × (text ≡ part ++ rest) × (rest ≢ []))
