use Rattle.std.proofs.Common.{◌∙◌, ap, codes, sym}
use Rattle.std.specs.Prelude.{◌||◌}
use Rattle.std.specs.Str.{chars}
use Rattle.row_rules.specs.Condition.{has_value}
use Rattle.row_map.proofs.Literals.{chars-type, chars-multipolygon, chars-boundary}
use Rattle.row_map.proofs.area.is_area.Goals as goal

pub returns-then-has_text : goal.returns-then-has_text
returns-then-has_text c =
    let tags = c.args.tags.now in
    let first = c.has_text.ensures.value ∙ ap (λ key. has_value tags key (chars (codes "multipolygon"))) chars-type
    ∙ ap (has_value tags (codes "type")) chars-multipolygon in
    record { area = c.if-has_text.true ∙ ap (λ b. b || has_value tags (codes "type") (codes "boundary")) (sym c.if-has_text.true ∙ first) }

pub returns-else-has_text : goal.returns-else-has_text
returns-else-has_text c =
    let tags = c.args.tags.now in
    let first = c.has_text.ensures.value ∙ ap (λ key. has_value tags key (chars (codes "multipolygon"))) chars-type
    ∙ ap (has_value tags (codes "type")) chars-multipolygon in
    let second = c.has_text-else-has_text.ensures.value ∙ ap (λ key. has_value tags key (chars (codes "boundary"))) chars-type
    ∙ ap (has_value tags (codes "type")) chars-boundary in
    record { area = second ∙ ap (λ b. b || has_value tags (codes "type") (codes "boundary")) (sym c.if-has_text.false ∙ first) }
