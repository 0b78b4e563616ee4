-- The causes of a line that is no query.
use Rattle.std.specs.Prelude.{◌≡◌, ℕ, Result, Ok, Err}
use Rattle.map_query.specs.declared.fault.QueryWhy.{QueryWhy}
use Rattle.map_query.specs.declared.fault.QueryWhy.TheVariants.{Form, UnknownTable, Number, EmptyBox}

-- the number of a cause
abbrev pub cause_number : QueryWhy → ℕ
cause_number Form = 1
cause_number UnknownTable = 2
cause_number Number = 3
cause_number EmptyBox = 4

-- one reading after the other: the first cause stands
infixl 10 ◌>>=◌
abbrev pub ◌>>=◌ : {A B : Type 0} → Result A QueryWhy → (A → Result B QueryWhy) → Result B QueryWhy
(Ok x) >>= next = next x
(Err why) >>= next = Err why

-- what a function returned, seen by view, is what a definition gives
abbrev pub Tells : {X Y : Type 0} → (X → Y) → Result X QueryWhy → Result Y QueryWhy → Type 0
Tells view (Ok x) read = read ≡ Ok (view x)
Tells view (Err why) read = read ≡ Err why
