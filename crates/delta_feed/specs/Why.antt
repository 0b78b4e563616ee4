-- The causes of a line that is none of a feed.
use Rattle.std.specs.Prelude.{◌≡◌, ℕ, Result, Ok, Err}
use Rattle.delta_feed.specs.declared.fault.FeedWhy.{FeedWhy}
use Rattle.delta_feed.specs.declared.fault.FeedWhy.TheVariants as whys
use Rattle.delta_feed.specs.declared.fault.LineRefused.{LineRefused}
use Rattle.delta_feed.specs.declared.fault.LineRefused.TheVariants.{Bad, OutOfMemory}

-- the number of a cause
abbrev pub cause_number : FeedWhy → ℕ
cause_number whys.Form = 1
cause_number whys.Number = 2
cause_number whys.Hex = 3
cause_number whys.Row = 4
cause_number whys.Order = 5
cause_number whys.End = 6

-- one reading after the other: the first cause stands
infixl 10 ◌>>=◌
abbrev pub ◌>>=◌ : {A B : Type 0} → Result A FeedWhy → (A → Result B FeedWhy) → Result B FeedWhy
(Ok x) >>= next = next x
(Err why) >>= next = Err why

-- what a function returned, seen by view, is what a definition gives
abbrev pub Tells : {X Y : Type 0} → (X → Y) → Result X FeedWhy → Result Y FeedWhy → Type 0
Tells view (Ok x) read = read ≡ Ok (view x)
Tells view (Err why) read = read ≡ Err why

-- the same, unless memory ran out
abbrev pub Gives : {X : Type 0} → Result X LineRefused → Result X FeedWhy → Type 0
Gives (Ok x) read = read ≡ Ok x
Gives (Err (Bad why)) read = read ≡ Err why
Gives (Err OutOfMemory) read = Unit {0}

-- a function returned what is said, unless memory ran out
abbrev pub Shows : {X : Type 0} → Result X LineRefused → (Result X FeedWhy → Type 0) → Type 0
Shows (Ok x) Is = Is (Ok x)
Shows (Err (Bad why)) Is = Is (Err why)
Shows (Err OutOfMemory) Is = Unit {0}

-- a cause comes only with this fact, and it is that of no row
abbrev pub IsRowFault : Type 0 → LineRefused → Type 0
IsRowFault Fact (Bad why) = (why ≡ whys.Row) × Fact
IsRowFault Fact OutOfMemory = Unit {0}
