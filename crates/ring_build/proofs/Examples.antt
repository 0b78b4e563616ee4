-- Pieces whose rings were written down by hand.
use Rattle.std.proofs.Common.{◌≡◌, [], ◌∷◌, Some, None, refl}
use Rattle.std.specs.Prelude.{ℤ, pos, neg_ℤ}
use Rattle.osm_base.specs.values.Place.{PlaceOf}
use Rattle.piece_ends.specs.Walk.{extended, lines_within}
use Rattle.piece_ends.specs.Rings.{rings}

abbrev at : ℤ → ℤ → PlaceOf
at lon lat = record { lon = lon; lat = lat }

abbrev two : ℤ
two = pos 20000000

abbrev a : PlaceOf
a = at (pos 0) (pos 0)

abbrev b : PlaceOf
b = at two (pos 0)

abbrev c : PlaceOf
c = at two two

abbrev d : PlaceOf
d = at (pos 0) two

abbrev e : PlaceOf
e = at (neg_ℤ two) (pos 0)

abbrev f : PlaceOf
f = at (neg_ℤ two) (neg_ℤ two)

abbrev g : PlaceOf
g = at (pos 0) (neg_ℤ two)

-- two squares that touch at a corner
pub rings-touching : rings ((a ∷ b ∷ c ∷ []) ∷ (c ∷ d ∷ a ∷ []) ∷ (a ∷ e ∷ f ∷ []) ∷ (f ∷ g ∷ a ∷ []) ∷ [])
    ≡ Some ((a ∷ b ∷ c ∷ d ∷ a ∷ []) ∷ (a ∷ e ∷ f ∷ g ∷ a ∷ []) ∷ [])
unfolding extended lines_within
rings-touching = refl

-- without the last piece two places hold an odd number of ends
pub rings-odd : rings ((a ∷ b ∷ c ∷ []) ∷ (c ∷ d ∷ a ∷ []) ∷ (a ∷ e ∷ f ∷ []) ∷ []) ≡ None
unfolding extended lines_within
rings-odd = refl

-- a closed piece is a ring, and a piece that runs the other way is turned
pub rings-turned : rings ((a ∷ b ∷ c ∷ []) ∷ (e ∷ f ∷ g ∷ e ∷ []) ∷ (a ∷ d ∷ c ∷ []) ∷ [])
    ≡ Some ((a ∷ b ∷ c ∷ d ∷ a ∷ []) ∷ (e ∷ f ∷ g ∷ e ∷ []) ∷ [])
unfolding extended lines_within
rings-turned = refl

-- there and back again is no ring
pub rings-short : rings ((a ∷ b ∷ []) ∷ (b ∷ a ∷ []) ∷ []) ≡ None
unfolding extended lines_within
rings-short = refl

-- and no pieces make no rings
pub rings-none : rings [] ≡ Some []
unfolding extended lines_within
rings-none = refl
