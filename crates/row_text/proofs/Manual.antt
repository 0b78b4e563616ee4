-- Texts and numbers that were written down by hand.
use Rattle.std.proofs.Common.{◌≡◌, [], ◌∷◌, true, false, refl}
use Rattle.std.specs.Prelude.{codes, pos, negsuc}
use Rattle.osm_base.specs.declared.values.key.Kind.TheVariants as kinds
use Rattle.osm_base.specs.declared.values.row.Cell.TheVariants as cells
use Rattle.row_text.specs.CopyText.{copy_text, text_of_byte}
use Rattle.row_text.specs.Row.{cell_text, signed_number}

-- each byte with an escape, and text that needs none
pub copy_text-escapes : copy_text (8 ∷ 9 ∷ 10 ∷ 11 ∷ 12 ∷ 13 ∷ 92 ∷ []) ≡ codes "\\b\\t\\n\\v\\f\\r\\\\"
unfolding text_of_byte
copy_text-escapes = refl

pub copy_text-plain : copy_text (codes "N. 5,\"x\"") ≡ codes "N. 5,\"x\""
unfolding text_of_byte
copy_text-plain = refl

-- a backslash in a text is no NULL
pub copy_text-backslash : copy_text (codes "\\N") ≡ codes "\\\\N"
unfolding text_of_byte
copy_text-backslash = refl

pub cell_text-null : cell_text cells.Null ≡ codes "\\N"
cell_text-null = refl

-- the relation 5 in a table of areas, the way 5 there, and the relation 5 elsewhere
pub signed_number-area : signed_number true (record { kind = kinds.Relation; id = 5 }) ≡ negsuc 4
signed_number-area = refl

pub signed_number-way : signed_number true (record { kind = kinds.Way; id = 5 }) ≡ pos 5
signed_number-way = refl

pub signed_number-line : signed_number false (record { kind = kinds.Relation; id = 5 }) ≡ pos 5
signed_number-line = refl
