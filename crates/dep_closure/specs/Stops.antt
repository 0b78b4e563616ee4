-- Why what a change makes due is not known.
use Rattle.std.specs.Prelude.{ℕ}
use Rattle.dep_closure.specs.declared.fault.PendingFault.{PendingFault}
use Rattle.dep_closure.specs.declared.fault.PendingFault.TheVariants.{Back, TooMany, OutOfMemory}

-- the index refused, and this is so of its refusal; there are too many, and this is so of their number; or memory ran out
abbrev pub Stops : {E : Type 0} → (E → Type 0) → (ℕ → Type 0) → PendingFault E → Type 0
Stops refused many (Back refusal) = refused refusal
Stops refused many (TooMany value) = many value
Stops refused many OutOfMemory = Unit {0}

-- this is so unless the index refused
abbrev pub UnlessRefused : {E : Type 0} → Type 0 → PendingFault E → Type 0
UnlessRefused claim (Back refusal) = Unit {0}
UnlessRefused claim (TooMany value) = claim
UnlessRefused claim OutOfMemory = claim
