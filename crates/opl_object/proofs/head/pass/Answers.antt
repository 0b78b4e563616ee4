use Rattle.std.proofs.Common.{◌≡◌, ◌∷◌, ap, sym, ◌∙◌, arith}
use Rattle.std.specs.Prelude.{take}
use Rattle.std.specs.List.{position_or_len}
use Rattle.opl_object.specs.Fields.{is_blank}
use Rattle.opl_object.specs.Letter.{byte_of}
use Rattle.opl_object.specs.Parts.{with_value}
use Rattle.opl_object.proofs.Cuts.{blank-ascii, boundary_before}
use Rattle.opl_object.proofs.FieldSteps.{passes_letter}
use Rattle.opl_object.proofs.SpelledLists.{behind_is}
use Rattle.opl_object.proofs.head.pass.Goals as goal

pub split_at-requires : goal.split_at-requires
split_at-requires c =
    let place : c.in_ok-end.end ≡ position_or_len is_blank c.in_ok-value.value.now =
    c.in_ok-end.ensures.end.place ∙ ap (position_or_len is_blank) c.as_bytes.ensures.value in
    rw place (boundary_before is_blank c.in_ok-value.value.now blank-ascii)

pub returns : goal.returns
returns c =
    let place : c.in_ok-end.end ≡ position_or_len is_blank c.in_ok-value.value.now =
    c.in_ok-end.ensures.end.place ∙ ap (position_or_len is_blank) c.as_bytes.ensures.value in
    let spaced : c.args.text.now ≡ 32 ∷ c.in_ok-field.field.now =
    behind_is 32 c.args.text.now c.in_ok-field.field.now (omega arith) (sym c.in_ok-field.ensures.value) in
    let lettered : c.in_ok-field.field.now ≡ byte_of c.args.letter ∷ c.in_ok-value.value.now
    = behind_is c.byte.result c.in_ok-field.field.now c.in_ok-value.value.now c.byte.ensures.some (sym c.in_ok-value.ensures.value)
    ∙ ap (λ b. b ∷ c.in_ok-value.value.now) c.byte.ensures.value in
    record {
      passes = passes_letter c.args.letter c.args.text.now c.in_ok-field.field.now c.in_ok-value.value.now c.split_at.result.1.now
          c.in_ok-end.end spaced lettered place c.split_at.ensures.back
          (λ parts. ap (λ t. with_value c.args.letter (take c.in_ok-end.end t) parts) (sym c.as_bytes.ensures.value)
          ∙ c.in_ok-end.ensures.end.value parts) c.in_ok-end.ensures.common;
    }
