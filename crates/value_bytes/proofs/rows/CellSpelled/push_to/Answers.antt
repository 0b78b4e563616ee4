use Rattle.std.proofs.Common.{sym, ap, ◌∙◌, List, ℕ, ◌++◌, subst, rules}
use Rattle.std.proofs.lemmas.Int.{to_z-of_z}
use Rattle.std.specs.Int.{w64}
use mir.Val.{SFits}
use Rattle.osm_base.specs.declared.values.row.Cell.TheVariants as cells
use Rattle.value_bytes.specs.Numbers.{int_bytes, IsInt}
use Rattle.value_bytes.specs.Rows.{cell_bytes, IsCell}
use Rattle.value_bytes.specs.Texts.{text_bytes, IsText}
use Rattle.value_bytes.proofs.RowLaws.{null_cell, text_cell, int_cell}
use Rattle.value_bytes.proofs.Variants.{variant_put}
use Rattle.value_bytes.proofs.rows.CellSpelled.push_to.Goals as goal

pub returns-in_ok-push-in-Null-clause-ok : goal.returns-in_ok-push-in-Null-clause-ok
returns-in_ok-push-in-Null-clause-ok c =
    c.in_ok-push-in-Null.ensures.items ∙ ap (λ (l : List ℕ). c.args.out.now.items ++ l) (sym (null_cell.told tt))
    ∙ ap (λ cell. c.args.out.now.items ++ cell_bytes cell) (sym c.in-Null.is)

pub returns-in_ok-push-in-Null-clause-is : goal.returns-in_ok-push-in-Null-clause-is
returns-in_ok-push-in-Null-clause-is c = subst IsCell (sym c.in-Null.is) (null_cell.is tt tt)

pub returns-in_ok-push_text-in-Text-clause-ok : goal.returns-in_ok-push_text-in-Text-clause-ok
returns-in_ok-push_text-in-Text-clause-ok c =
    c.in_ok-push_text-in-Text.ensures.ok ∙ ap (λ (l : List ℕ). c.push-in-Text.new.self.items ++ text_bytes l) c.as_str.ensures.characters
    ∙ ap (λ (l : List ℕ). l ++ text_bytes c.in-Text.text) c.in_ok-push-in-Text.ensures.items
    ∙ variant_put 1 text_bytes IsText cell_bytes IsCell cells.Text text_cell c.in-Text.text c.args.out.now.items
    ∙ ap (λ cell. c.args.out.now.items ++ cell_bytes cell) (sym c.in-Text.is)

pub returns-in_ok-push_text-in-Text-clause-is : goal.returns-in_ok-push_text-in-Text-clause-is
returns-in_ok-push_text-in-Text-clause-is c =
    subst IsCell (sym c.in-Text.is) (text_cell.is c.in-Text.text
    (subst IsText c.as_str.ensures.characters c.in_ok-push_text-in-Text.ensures.is))

pub returns-in_ok-push_int-in-Int-clause-ok : goal.returns-in_ok-push_int-in-Int-clause-ok
returns-in_ok-push_int-in-Int-clause-ok c =
    let fits : SFits w64 c.in-Int.number = search rules in
    (rw (to_z-of_z w64 c.in-Int.number fits) at c.in_ok-push_int-in-Int.ensures.ok)
    ∙ ap (λ (l : List ℕ). l ++ int_bytes c.in-Int.number) c.in_ok-push-in-Int.ensures.items
    ∙ variant_put 2 int_bytes IsInt cell_bytes IsCell cells.Int int_cell c.in-Int.number c.args.out.now.items
    ∙ ap (λ cell. c.args.out.now.items ++ cell_bytes cell) (sym c.in-Int.is)

pub returns-in_ok-push_int-in-Int-clause-is : goal.returns-in_ok-push_int-in-Int-clause-is
returns-in_ok-push_int-in-Int-clause-is c =
    let fits : SFits w64 c.in-Int.number = search rules in
    subst IsCell (sym c.in-Int.is) (int_cell.is c.in-Int.number fits)
