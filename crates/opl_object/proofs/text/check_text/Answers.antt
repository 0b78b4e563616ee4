use Rattle.std.proofs.Common.{◌≡◌, [], ◌∷◌, ◌++◌, ◌∙◌, ap, sym, true, false, Ok, Err, rules}
use Rattle.std.specs.Char.{encode_utf8}
use Rattle.std.specs.List.{slice_split}
use Rattle.std.specs.Option.{option_map}
use Rattle.std.proofs.lemmas.Result.{err_from_is_err_and}
use Rattle.opl_object.specs.Fields.{is, later_pieces}
use Rattle.opl_object.specs.Text.{is_plain, escaped, resolved, bytes_of, checked_text}
use Rattle.opl_object.proofs.Resolving.{resolved-reserved, resolved-last, resolved-open, resolved-escape, resolved-no_escape, kept_none}
use Rattle.opl_object.proofs.Resolving.{resolved-any}
use Rattle.opl_object.proofs.text.check_text.Goals as goal

pub returns-then-not-is_plain : goal.returns-then-not-is_plain
unfolding checked_text bytes_of
returns-then-not-is_plain c =
    let fails : is_plain c.cut.result.0.now ≡ false =
    ap is_plain (sym c.as_bytes.ensures.value) ∙ sym c.is_plain.ensures.value ∙ c.if-not-is_plain.true in
    record {
      value = sym (sym c.loop-escape.invariant.1 ∙ ap (λ pieces. kept_none (resolved [] pieces)) c.cut.ensures.pieces
          ∙ ap kept_none (resolved-reserved [] c.cut.result.0.now _ fails));
    }

pub returns-in_default : goal.returns-in_default
unfolding checked_text bytes_of
returns-in_default c =
    let holds : is_plain c.cut.result.0.now ≡ true =
    ap is_plain (sym c.as_bytes.ensures.value) ∙ sym c.is_plain.ensures.value ∙ c.if-not-is_plain.false in
    let last : slice_split (is 37) c.loop-escape.rest.now ≡ c.cut.result.0.now ∷ [] =
    c.cut.ensures.pieces ∙ ap (λ o. c.cut.result.0.now ∷ later_pieces (is 37) (option_map (λ rest. rest.now) o)) c.in_default.is in
    record {
      value = sym (sym c.loop-escape.invariant.1 ∙ ap (λ pieces. kept_none (resolved [] pieces)) last
          ∙ ap kept_none (resolved-last [] c.cut.result.0.now holds));
    }

pub returns-in_default-after : goal.returns-in_default-after
unfolding checked_text bytes_of
returns-in_default-after c =
    let holds : is_plain c.cut.result.0.now ≡ true =
    ap is_plain (sym c.as_bytes.ensures.value) ∙ sym c.is_plain.ensures.value ∙ c.if-not-is_plain.false in
    let first : slice_split (is 37) c.loop-escape.rest.now ≡ c.cut.result.0.now ∷ slice_split (is 37) c.in-Some.escape.now =
    c.cut.ensures.pieces ∙ ap (λ o. c.cut.result.0.now ∷ later_pieces (is 37) (option_map (λ rest. rest.now) o)) c.in-Some.is in
    let last : slice_split (is 37) c.in-Some.escape.now ≡ c.cut-in-loop-escape.result.0.now ∷ [] =
    c.cut-in-loop-escape.ensures.pieces ∙ ap
    (λ o. c.cut-in-loop-escape.result.0.now ∷ later_pieces (is 37) (option_map (λ rest. rest.now) o)) c.in_default-after.is in
    record {
      value = sym (sym c.loop-escape.invariant.1
          ∙ ap (λ pieces. kept_none (resolved [] pieces)) (first ∙ ap (λ pieces. c.cut.result.0.now ∷ pieces) last)
          ∙ ap kept_none (resolved-open [] c.cut.result.0.now c.cut-in-loop-escape.result.0.now holds));
    }

pub returns-in_err-escaped : goal.returns-in_err-escaped
unfolding checked_text bytes_of
returns-in_err-escaped c =
    let holds : is_plain c.cut.result.0.now ≡ true =
    ap is_plain (sym c.as_bytes.ensures.value) ∙ sym c.is_plain.ensures.value ∙ c.if-not-is_plain.false in
    let first : slice_split (is 37) c.loop-escape.rest.now ≡ c.cut.result.0.now ∷ slice_split (is 37) c.in-Some.escape.now =
    c.cut.ensures.pieces ∙ ap (λ o. c.cut.result.0.now ∷ later_pieces (is 37) (option_map (λ rest. rest.now) o)) c.in-Some.is in
    let second : slice_split (is 37) c.in-Some.escape.now ≡ c.cut-in-loop-escape.result.0.now
    ∷ slice_split (is 37) c.in-Some-after.after.now =
    c.cut-in-loop-escape.ensures.pieces ∙ ap
    (λ o. c.cut-in-loop-escape.result.0.now ∷ later_pieces (is 37) (option_map (λ rest. rest.now) o)) c.in-Some-after.is in
    let none : escaped c.cut-in-loop-escape.result.0.now ≡ Err c.in_err-escaped.field-0.0 =
    ap escaped (sym c.as_bytes-in-loop-escape.ensures.value) ∙ sym c.in_err-escaped.ensures.value in
    let p = err_from_is_err_and c.from_residual.result c.from_residual.ensures.1 in
    record {
      value = rw (p.1, p.2) (sym (sym c.loop-escape.invariant.1
          ∙ ap (λ pieces. kept_none (resolved [] pieces)) (first ∙ ap (λ pieces. c.cut.result.0.now ∷ pieces) second)
          ∙ ap kept_none (resolved-no_escape [] c.cut.result.0.now c.cut-in-loop-escape.result.0.now _ _ holds none)));
    }

pub loop-escape-preserved : goal.loop-escape-preserved
loop-escape-preserved c =
    let holds : is_plain c.cut.result.0.now ≡ true =
    ap is_plain (sym c.as_bytes.ensures.value) ∙ sym c.is_plain.ensures.value ∙ c.if-not-is_plain.false in
    let first : slice_split (is 37) c.loop-escape.rest.now ≡ c.cut.result.0.now ∷ slice_split (is 37) c.in-Some.escape.now =
    c.cut.ensures.pieces ∙ ap (λ o. c.cut.result.0.now ∷ later_pieces (is 37) (option_map (λ rest. rest.now) o)) c.in-Some.is in
    let second : slice_split (is 37) c.in-Some.escape.now ≡ c.cut-in-loop-escape.result.0.now
    ∷ slice_split (is 37) c.in-Some-after.after.now =
    c.cut-in-loop-escape.ensures.pieces ∙ ap
    (λ o. c.cut-in-loop-escape.result.0.now ∷ later_pieces (is 37) (option_map (λ rest. rest.now) o)) c.in-Some-after.is in
    let found : escaped c.cut-in-loop-escape.result.0.now ≡ Ok c.in_ok-escaped.field-0 =
    ap escaped (sym c.as_bytes-in-loop-escape.ensures.value) ∙ sym c.in_ok-escaped.ensures.value in (
      search rules,
      resolved-any [] (([] ++ c.cut.result.0.now) ++ encode_utf8 c.in_ok-escaped.field-0) (slice_split (is 37) c.in-Some-after.after.now)
          ∙ sym (ap (λ pieces. kept_none (resolved [] pieces)) (first ∙ ap (λ pieces. c.cut.result.0.now ∷ pieces) second)
          ∙ ap kept_none (resolved-escape [] c.cut.result.0.now c.cut-in-loop-escape.result.0.now _ _ holds found))
          ∙ c.loop-escape.invariant.1,
    )
