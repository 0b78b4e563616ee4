-- Why the reading of a block stops.
use Rattle.delta_feed.specs.declared.fault.FeedFault.{FeedFault}
use Rattle.delta_feed.specs.declared.fault.FeedFault.TheVariants.{Bad, NoBase, Limit, ReadFault, OutOfMemory}

-- a line has a fault, of which this is so; a read failed, and this is so; or memory ran out
abbrev pub Stops : (FeedFault → Type 0) → Type 0 → FeedFault → Type 0
Stops found failed (Bad line why) = found (Bad line why)
Stops found failed (NoBase line) = found (NoBase line)
Stops found failed (Limit which value) = found (Limit which value)
Stops found failed ReadFault = failed
Stops found failed OutOfMemory = Unit {0}

-- the same where no line is judged
abbrev pub StopsOutside : Type 0 → FeedFault → Type 0
StopsOutside failed fault = Stops (λ _. ⊥) failed fault

-- the same where nothing is read from outside
abbrev pub StopsAt : (FeedFault → Type 0) → FeedFault → Type 0
StopsAt found fault = Stops found ⊥ fault
