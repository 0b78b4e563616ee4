-- `check STORE`.
use Rattle.std.specs.Prelude.{ℕ, List, Option}
use Rattle.run_promise.specs.CommandOf.{CommandOf, check_of}
use Rattle.run_promise.specs.declared.fault.Fault.{Fault}
use Rattle.run_promise.specs.declared.fault.Fault.TheVariants.{OldFormat, WriteFault}
use Rattle.updater.specs.Forms.{stored}

-- the form of its words
abbrev pub form : (options words : List (List ℕ)) → (place : ℕ) → Option CommandOf
form options words place = stored check_of options words

-- what still ends it once all of the store was looked at: its format, or the output
abbrev pub EndsCheck : Fault → Type 0
EndsCheck OldFormat = Unit {0}
EndsCheck WriteFault = Unit {0}
EndsCheck _ = ⊥
