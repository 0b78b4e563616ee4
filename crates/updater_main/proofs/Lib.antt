pub mod WrongUse
