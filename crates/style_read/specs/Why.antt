-- The numbers of the causes, by which an operator is told them.
use Rattle.std.specs.Prelude.{ℕ}
use Rattle.style_read.specs.declared.fault.StyleWhy.{StyleWhy}
use Rattle.style_read.specs.declared.fault.StyleWhy.TheVariants.{Toml, UnknownKey, MissingKey, WrongType, Name, SourceGeometry, Condition}
use Rattle.style_read.specs.declared.fault.StyleWhy.TheVariants.{Column, UnknownSelection, TooMany}

-- the number of a cause
abbrev pub cause_number : StyleWhy → ℕ
cause_number Toml = 1
cause_number UnknownKey = 2
cause_number MissingKey = 3
cause_number WrongType = 4
cause_number Name = 5
cause_number SourceGeometry = 6
cause_number Condition = 7
cause_number Column = 8
cause_number UnknownSelection = 9
cause_number TooMany = 10
