-- A text as a function hands it on.
use Rattle.std.specs.Prelude.{ℕ, List}
use Rattle.std.specs.String.{string_bytes}
use Rattle.opl_object.specs.declared.text.Spelled.{Spelled}
use Rattle.opl_object.specs.declared.text.Spelled.TheVariants.{Plain, Resolved}

-- its bytes in UTF-8
abbrev pub spelled_bytes : Spelled → List ℕ
spelled_bytes (Plain text) = text.now
spelled_bytes (Resolved text) = string_bytes text
