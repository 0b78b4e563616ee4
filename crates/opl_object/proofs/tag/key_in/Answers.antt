use Rattle.std.proofs.Common.{ap, ◌∙◌, sym}
use Rattle.std.proofs.lemmas.Result.{err_from_is_err_and}
use Rattle.std.specs.Option.{option_map}
use Rattle.opl_object.proofs.MixedTags.{key_fails, value_fails, is_tag}
use Rattle.opl_object.proofs.tag.key_in.Goals as goal

pub returns-in_err-check_text : goal.returns-in_err-check_text
returns-in_err-check_text c =
    let cut = ap (λ rest. (c.cut.result.0.now, option_map (λ text. text.now) rest)) (sym c.in-Some.is) ∙ c.cut.ensures.value in
    let p = err_from_is_err_and c.from_residual.result c.from_residual.ensures.1 in
    record {
      tag = rw (p.1, p.2) (key_fails c.args.piece.now c.cut.result.0.now c.in-Some.value.now cut c.in_err-check_text.field-0.0
          c.in_err-check_text.ensures.value);
    }

pub returns-in_err-check_text-2 : goal.returns-in_err-check_text-2
returns-in_err-check_text-2 c =
    let cut = ap (λ rest. (c.cut.result.0.now, option_map (λ text. text.now) rest)) (sym c.in-Some.is) ∙ c.cut.ensures.value in
    let p = err_from_is_err_and c.from_residual-in_err-check_text-2.result c.from_residual-in_err-check_text-2.ensures.1 in
    record {
      tag = rw (p.1, p.2) (value_fails c.args.piece.now c.cut.result.0.now c.in-Some.value.now cut c.in_err-check_text-2.field-0.0
          c.in_ok-check_text.field-0
          c.in_ok-check_text.ensures.value c.in_err-check_text-2.ensures.value);
    }

pub returns : goal.returns
returns c =
    let cut = ap (λ rest. (c.cut.result.0.now, option_map (λ text. text.now) rest)) (sym c.in-Some.is) ∙ c.cut.ensures.value in
    record {
      tag = is_tag c.args.piece.now c.cut.result.0.now c.in-Some.value.now cut c.in_ok-check_text.field-0 c.in_ok-check_text-2.field-0
          c.in_ok-check_text.ensures.value c.in_ok-check_text-2.ensures.value;
    }
