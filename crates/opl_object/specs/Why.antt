-- The causes of a line without an entry, and how what a function returned agrees with what a line gives.
use Rattle.std.specs.Prelude.{◌≡◌, ℕ, List, [], ◌∷◌, Option, None, Some, Result, Ok, Err}
use Rattle.opl_object.specs.declared.why.Why.{Why}
use Rattle.opl_object.specs.declared.why.Why.TheVariants.{Utf8, Kind, Id, Field, Repeated, Number, Range, Escape, Tag, RepeatedKey, Member}
use Rattle.opl_object.specs.declared.why.Why.TheVariants.{HalfPlace, Order}
use Rattle.opl_object.specs.declared.why.LineRefused.{LineRefused}
use Rattle.opl_object.specs.declared.why.LineRefused.TheVariants.{Bad, OutOfMemory}

-- the number of a cause
abbrev pub cause_number : Why → ℕ
cause_number Utf8 = 1
cause_number Kind = 2
cause_number Id = 3
cause_number Field = 4
cause_number Repeated = 5
cause_number Number = 6
cause_number Range = 7
cause_number Escape = 8
cause_number Tag = 9
cause_number RepeatedKey = 10
cause_number Member = 11
cause_number HalfPlace = 12
cause_number (Order earlier later) = 13

-- one reading after the other: the first cause stands
infixl 10 ◌>>=◌
abbrev pub ◌>>=◌ : {A B : Type 0} → Result A Why → (A → Result B Why) → Result B Why
(Ok x) >>= next = next x
(Err why) >>= next = Err why

-- one piece after the other, from left to right
unfoldable pub each_piece : {A : Type 0} → (A → List ℕ → Result A Why) → A → List (List ℕ) → Result A Why
each_piece step front [] = Ok front
each_piece step front (piece ∷ pieces) = step front piece >>= λ next. each_piece step next pieces

-- a value that is there, or else this cause
abbrev pub given : {A : Type 0} → Why → Option A → Result A Why
given why None = Err why
given why (Some x) = Ok x

-- the cause of a refusal is that of the reading, unless memory ran out
abbrev pub Refuses : {Y : Type 0} → LineRefused → Result Y Why → Type 0
Refuses (Bad why) read = read ≡ Err why
Refuses OutOfMemory read = Unit {0}

-- what a function returned, seen by view, is what the reading gives, unless memory ran out
abbrev pub Gives : {X Y : Type 0} → (X → Y) → Result X LineRefused → Result Y Why → Type 0
Gives view (Ok x) read = read ≡ Ok (view x)
Gives view (Err refused) read = Refuses refused read

-- the same of a function that takes no memory
abbrev pub Tells : {X Y : Type 0} → (X → Y) → Result X Why → Result Y Why → Type 0
Tells view (Ok x) read = read ≡ Ok (view x)
Tells view (Err why) read = read ≡ Err why
