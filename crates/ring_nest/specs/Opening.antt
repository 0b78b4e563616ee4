-- Rings that any half line enters as often as it leaves them, or once more: whether they hold a place is then a difference of two counts.
use Rattle.std.specs.Prelude.{◌≡◌, ◌⊎◌, ◌<◌, ◌≤◌, ◌+◌, ◌&&◌, ℕ, Bool, nat_lt, List, [], ◌∷◌, count_by}
use Rattle.ring_nest.specs.Edge.{EdgeOf}
use Rattle.ring_nest.specs.Edges.{passes}

-- so many edges pass on the one side, and as many or one more on the other
abbrev pub IsOpened : (minus plus : ℕ) → Type 0
IsOpened minus plus = (plus ≡ minus) ⊎ (plus ≡ minus + 1)

-- between two latitudes
abbrev pub OpensIn : (low high : ℕ) → (minus plus : List EdgeOf) → Type 0
OpensIn low high minus plus = (north east : ℕ) → low ≤ north → north < high → IsOpened (count_by (passes north east) minus) (count_by (passes north east) plus)

-- edges of both sides, one after another
abbrev pub woven : (minus plus : List EdgeOf) → List EdgeOf
woven [] plus = plus
woven (edge ∷ minus) [] = edge ∷ minus
woven (edge ∷ minus) (next ∷ plus) = edge ∷ next ∷ woven minus plus

-- whether an edge has some of the latitudes between two others
abbrev pub overlaps : (low high : ℕ) → EdgeOf → Bool
overlaps low high edge = nat_lt low edge.high && nat_lt edge.low high
