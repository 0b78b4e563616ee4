use Rattle.std.proofs.Common.{List, ℕ, refl, sym, subst}
use Rattle.std.specs.Str.{chars}
use Rattle.value_bytes.specs.Forms.{IsFront}
use Rattle.value_bytes.specs.Texts.{text_bytes, IsText}
use Rattle.value_bytes.proofs.TextLaws.{text_front, text_frontless, text_unseen}
use Rattle.value_bytes.proofs.texts.front_text.Goals as goal

pub returns-in_default-clause-none : goal.returns-in_default-clause-none
returns-in_default-clause-none c none = text_frontless c.args.bytes.now (c.in_default.ensures.none refl)

pub returns-in-Ok-clause-text : goal.returns-in-Ok-clause-text
returns-in-Ok-clause-text c =
    subst (λ (l : List ℕ). IsFront text_bytes IsText c.args.bytes.now (chars l) c.in-Some.rest.now) (sym c.in-Ok.ensures.cases.0)
    (text_front c.args.bytes.now c.in-Some.text.now c.in-Some.rest.now c.in-Ok.ensures.cases.1 c.in-Some.ensures.counted)

pub returns-in-Err-clause-none : goal.returns-in-Err-clause-none
returns-in-Err-clause-none c none =
    text_unseen c.args.bytes.now c.in-Some.text.now c.in-Some.rest.now c.in-Err.ensures.cases.0 c.in-Some.ensures.counted
