-- Rows by ids.
use Rattle.std.specs.Prelude.{ℕ, List, [], ◌∷◌, flat_map}
use Rattle.std.specs.Ordering.{nat_cmp}
use Rattle.std.specs.FinMap as finite

-- the row of each id that has one
abbrev pub RowMap : Type 0
RowMap = finite.FinMap nat_cmp (List ℕ)

-- with this row at an id, or with none where it is empty
abbrev pub set_row : RowMap → ℕ → List ℕ → RowMap
set_row rows id [] = finite.remove rows id
set_row rows id (byte ∷ bytes) = finite.insert rows id (byte ∷ bytes)

-- the rows one after another, by rising id
abbrev pub all_rows_text : RowMap → List ℕ
all_rows_text rows = flat_map (λ (id, row). row) (finite.entries rows)
