use Rattle.std.proofs.Common.{refl, sym, ap, ◌∙◌, ◌∷◌, arith, subst}
use Rattle.std.proofs.lemmas.Int.{to_z-of_z}
use Rattle.std.specs.Int.{w64}
use Rattle.std.specs.Str.{chars}
use Rattle.osm_base.specs.declared.values.row.Cell.TheVariants as cells
use Rattle.value_bytes.specs.Forms.{IsFront}
use Rattle.value_bytes.specs.Numbers.{int_bytes, IsInt}
use Rattle.value_bytes.specs.Rows.{cell_bytes, IsCell}
use Rattle.value_bytes.specs.Texts.{text_bytes, IsText}
use Rattle.value_bytes.proofs.RowLaws.{null_cell, text_cell, int_cell, other_cell, no_cell}
use Rattle.value_bytes.proofs.Variants.{variant_front, variant_frontless, front_nothing, nothing, IsNothing}
use Rattle.value_bytes.proofs.rows.CellSpelled.front.Goals as goal

pub returns-in_default-clause-refused : goal.returns-in_default-clause-refused
returns-in_default-clause-refused c = no_cell c.args.bytes.now (c.in_default.ensures.none refl)

pub returns-in_default-byte-clause-refused : goal.returns-in_default-byte-clause-refused
returns-in_default-byte-clause-refused c =
    other_cell c.args.bytes.now c.in-Some.byte c.in-Some.behind.now c.in-Some.ensures.byte (λ e. omega arith) (λ e. omega arith)
    (λ e. omega arith)

pub returns-in-0-clause-value : goal.returns-in-0-clause-value
returns-in-0-clause-value c =
    variant_front 0 nothing IsNothing cell_bytes IsCell
    (λ _. cells.Null) null_cell c.args.bytes.now c.in-Some.behind.now tt c.in-Some.behind.now
    (c.in-Some.ensures.byte ∙ ap (λ b. b ∷ c.in-Some.behind.now) c.in-0.is) (front_nothing c.in-Some.behind.now)

pub returns-in-None-clause-refused : goal.returns-in-None-clause-refused
returns-in-None-clause-refused c =
    variant_frontless 1 text_bytes IsText cell_bytes IsCell cells.Text text_cell c.args.bytes.now c.in-Some.behind.now
    (c.in-Some.ensures.byte ∙ ap (λ b. b ∷ c.in-Some.behind.now) c.in-1.is) (c.in-None.ensures.none refl)

pub returns-in_ok-from_str-in-Some-front_text-clause-value : goal.returns-in_ok-from_str-in-Some-front_text-clause-value
returns-in_ok-from_str-in-Some-front_text-clause-value c =
    subst (λ l. IsFront cell_bytes IsCell c.args.bytes.now (cells.Text l) c.in-Some-front_text.rest.now)
    (sym c.in_ok-from_str-in-Some-front_text.ensures.characters)
    (variant_front 1 text_bytes IsText cell_bytes IsCell cells.Text text_cell c.args.bytes.now c.in-Some.behind.now
    (chars c.in-Some-front_text.text.now)
    c.in-Some-front_text.rest.now (c.in-Some.ensures.byte ∙ ap (λ b. b ∷ c.in-Some.behind.now) c.in-1.is) c.in-Some-front_text.ensures.text)

pub returns-in-Some-front_int-clause-value : goal.returns-in-Some-front_int-clause-value
returns-in-Some-front_int-clause-value c =
    let front = c.in-Some-front_int.ensures.number in
    rw (to_z-of_z w64 c.in-Some-front_int.number front.begins.is)
    (variant_front 2 int_bytes IsInt cell_bytes IsCell cells.Int int_cell c.args.bytes.now c.in-Some.behind.now c.in-Some-front_int.number
    c.in-Some-front_int.rest.now (c.in-Some.ensures.byte ∙ ap (λ b. b ∷ c.in-Some.behind.now) c.in-2.is) front)

pub returns-in-None-front_int-clause-refused : goal.returns-in-None-front_int-clause-refused
returns-in-None-front_int-clause-refused c =
    variant_frontless 2 int_bytes IsInt cell_bytes IsCell cells.Int int_cell c.args.bytes.now c.in-Some.behind.now
    (c.in-Some.ensures.byte ∙ ap (λ b. b ∷ c.in-Some.behind.now) c.in-2.is) (c.in-None-front_int.ensures.none refl)
