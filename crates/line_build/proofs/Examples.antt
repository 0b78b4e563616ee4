-- Pieces whose lines were written down by hand.
use Rattle.std.proofs.Common.{◌≡◌, [], ◌∷◌, refl}
use Rattle.std.specs.Prelude.{ℤ, pos, neg_ℤ}
use Rattle.osm_base.specs.values.Place.{PlaceOf}
use Rattle.piece_ends.specs.Walk.{extended, lines_within}
use Rattle.piece_ends.specs.Joins.{joined_lines}

abbrev at : ℤ → ℤ → PlaceOf
at lon lat = record { lon = lon; lat = lat }

abbrev a : PlaceOf
a = at (pos 0) (pos 10000000)

abbrev b : PlaceOf
b = at (pos 10000000) (pos 10000000)

abbrev c : PlaceOf
c = at (pos 20000000) (pos 10000000)

abbrev d : PlaceOf
d = at (neg_ℤ (pos 1800000000)) (neg_ℤ (pos 900000000))

-- two ways that run towards each other
pub joined_lines-turned : joined_lines ((a ∷ b ∷ []) ∷ (c ∷ b ∷ []) ∷ []) ≡ (a ∷ b ∷ c ∷ []) ∷ []
unfolding extended lines_within
joined_lines-turned = refl

-- a piece at each end of the first: the last place comes first, and then the first place
pub joined_lines-both_ends : joined_lines ((a ∷ b ∷ []) ∷ (a ∷ d ∷ []) ∷ (b ∷ c ∷ []) ∷ []) ≡ (d ∷ a ∷ b ∷ c ∷ []) ∷ []
unfolding extended lines_within
joined_lines-both_ends = refl

-- three ends in one place: the lowest goes on, and the third is a line of its own
pub joined_lines-three : joined_lines ((a ∷ b ∷ []) ∷ (b ∷ c ∷ []) ∷ (d ∷ b ∷ []) ∷ []) ≡ (a ∷ b ∷ c ∷ []) ∷ (d ∷ b ∷ []) ∷ []
unfolding extended lines_within
joined_lines-three = refl

-- a closed piece is a line by itself, although others end there
pub joined_lines-closed : joined_lines ((a ∷ b ∷ []) ∷ (b ∷ c ∷ d ∷ b ∷ []) ∷ (b ∷ d ∷ []) ∷ []) ≡ (a ∷ b ∷ d ∷ []) ∷ (b ∷ c ∷ d ∷ b ∷ []) ∷ []
unfolding extended lines_within
joined_lines-closed = refl

-- a line that has come back to its start takes no more
pub joined_lines-loop : joined_lines ((a ∷ b ∷ []) ∷ (b ∷ c ∷ a ∷ []) ∷ (a ∷ d ∷ []) ∷ []) ≡ (a ∷ b ∷ c ∷ a ∷ []) ∷ (a ∷ d ∷ []) ∷ []
unfolding extended lines_within
joined_lines-loop = refl
