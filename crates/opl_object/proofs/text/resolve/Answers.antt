use Rattle.std.proofs.Common.{◌≡◌, [], ◌∷◌, ◌++◌, ◌∙◌, ap, sym, true, false, Ok, Err, rules}
use Rattle.std.specs.Char.{encode_utf8}
use Rattle.std.specs.List.{slice_split}
use Rattle.std.specs.Option.{option_map}
use Rattle.std.specs.String.{string_bytes}
use Rattle.std.proofs.lemmas.Result.{err_from_is_err_and}
use Rattle.opl_object.specs.Fields.{is, later_pieces}
use Rattle.opl_object.specs.Text.{is_plain, escaped, resolved, bytes_of}
use Rattle.opl_object.proofs.Resolving.{resolved-reserved, resolved-last, resolved-open, resolved-escape, resolved-no_escape}
use Rattle.opl_object.proofs.text.resolve.Goals as goal

pub returns-then-not-is_plain : goal.returns-then-not-is_plain
unfolding bytes_of
returns-then-not-is_plain c =
    let fails : is_plain c.cut.result.0.now ≡ false =
    ap is_plain (sym c.as_bytes.ensures.value) ∙ sym c.is_plain.ensures.value ∙ c.if-not-is_plain.true in
    record {
      bytes = sym c.loop-plain.invariant.1 ∙ ap (resolved (string_bytes c.loop-plain.text)) c.cut.ensures.pieces
          ∙ resolved-reserved _ c.cut.result.0.now _ fails;
    }

pub returns-in_default : goal.returns-in_default
unfolding bytes_of
returns-in_default c =
    let front = c.cut.result.0.now in
    let holds : is_plain c.cut.result.0.now ≡ true =
    ap is_plain (sym c.as_bytes.ensures.value) ∙ sym c.is_plain.ensures.value ∙ c.if-not-is_plain.false in
    let last : slice_split (is 37) c.loop-plain.rest.now ≡ c.cut.result.0.now ∷ [] =
    c.cut.ensures.pieces ∙ ap (λ o. c.cut.result.0.now ∷ later_pieces (is 37) (option_map (λ rest. rest.now) o)) c.in_default.is in
    record {
      bytes = sym c.loop-plain.invariant.1 ∙ ap (resolved (string_bytes c.loop-plain.text)) last
          ∙ resolved-last _ c.cut.result.0.now holds ∙ ap Ok (sym c.in_ok-push_str.ensures.bytes);
    }

pub returns-in_default-after : goal.returns-in_default-after
unfolding bytes_of
returns-in_default-after c =
    let front = c.cut.result.0.now in
    let holds : is_plain c.cut.result.0.now ≡ true =
    ap is_plain (sym c.as_bytes.ensures.value) ∙ sym c.is_plain.ensures.value ∙ c.if-not-is_plain.false in
    let first : slice_split (is 37) c.loop-plain.rest.now ≡ c.cut.result.0.now ∷ slice_split (is 37) c.in-Some.escape.now =
    c.cut.ensures.pieces ∙ ap (λ o. c.cut.result.0.now ∷ later_pieces (is 37) (option_map (λ rest. rest.now) o)) c.in-Some.is in
    let last : slice_split (is 37) c.in-Some.escape.now ≡ c.cut-in-loop-plain.result.0.now ∷ [] =
    c.cut-in-loop-plain.ensures.pieces ∙ ap (λ o. c.cut-in-loop-plain.result.0.now
    ∷ later_pieces (is 37) (option_map (λ rest. rest.now) o)) c.in_default-after.is in
    record {
      bytes = sym c.loop-plain.invariant.1
          ∙ ap (resolved (string_bytes c.loop-plain.text)) (first ∙ ap (λ pieces. c.cut.result.0.now ∷ pieces) last)
          ∙ resolved-open _ c.cut.result.0.now c.cut-in-loop-plain.result.0.now holds;
    }

pub returns-in_err-escaped : goal.returns-in_err-escaped
unfolding bytes_of
returns-in_err-escaped c =
    let front = c.cut.result.0.now in
    let holds : is_plain c.cut.result.0.now ≡ true =
    ap is_plain (sym c.as_bytes.ensures.value) ∙ sym c.is_plain.ensures.value ∙ c.if-not-is_plain.false in
    let first : slice_split (is 37) c.loop-plain.rest.now ≡ c.cut.result.0.now ∷ slice_split (is 37) c.in-Some.escape.now =
    c.cut.ensures.pieces ∙ ap (λ o. c.cut.result.0.now ∷ later_pieces (is 37) (option_map (λ rest. rest.now) o)) c.in-Some.is in
    let second : slice_split (is 37) c.in-Some.escape.now ≡ c.cut-in-loop-plain.result.0.now
    ∷ slice_split (is 37) c.in-Some-after.after.now =
    c.cut-in-loop-plain.ensures.pieces ∙ ap (λ o. c.cut-in-loop-plain.result.0.now
    ∷ later_pieces (is 37) (option_map (λ rest. rest.now) o)) c.in-Some-after.is in
    let none : escaped c.cut-in-loop-plain.result.0.now ≡ Err c.in_err-escaped.field-0.0 =
    ap escaped (sym c.as_bytes-in-loop-plain.ensures.value) ∙ sym c.in_err-escaped.ensures.value in
    let p = err_from_is_err_and c.from_residual-in_err-escaped.result c.from_residual-in_err-escaped.ensures.1 in
    record {
      bytes = rw (p.1, p.2) (sym c.loop-plain.invariant.1
          ∙ ap (resolved (string_bytes c.loop-plain.text)) (first ∙ ap (λ pieces. c.cut.result.0.now ∷ pieces) second)
          ∙ resolved-no_escape _ c.cut.result.0.now c.cut-in-loop-plain.result.0.now _ _ holds none);
    }

pub loop-plain-preserved : goal.loop-plain-preserved
loop-plain-preserved c =
    let front = c.cut.result.0.now in
    let holds : is_plain c.cut.result.0.now ≡ true =
    ap is_plain (sym c.as_bytes.ensures.value) ∙ sym c.is_plain.ensures.value ∙ c.if-not-is_plain.false in
    let first : slice_split (is 37) c.loop-plain.rest.now ≡ c.cut.result.0.now ∷ slice_split (is 37) c.in-Some.escape.now =
    c.cut.ensures.pieces ∙ ap (λ o. c.cut.result.0.now ∷ later_pieces (is 37) (option_map (λ rest. rest.now) o)) c.in-Some.is in
    let second : slice_split (is 37) c.in-Some.escape.now ≡ c.cut-in-loop-plain.result.0.now
    ∷ slice_split (is 37) c.in-Some-after.after.now =
    c.cut-in-loop-plain.ensures.pieces ∙ ap (λ o. c.cut-in-loop-plain.result.0.now
    ∷ later_pieces (is 37) (option_map (λ rest. rest.now) o)) c.in-Some-after.is in
    let found : escaped c.cut-in-loop-plain.result.0.now ≡ Ok c.in_ok-escaped.field-0 =
    ap escaped (sym c.as_bytes-in-loop-plain.ensures.value) ∙ sym c.in_ok-escaped.ensures.value in
    let text : string_bytes c.push.new.self ≡ (string_bytes c.loop-plain.text ++ c.cut.result.0.now)
    ++ encode_utf8 c.in_ok-escaped.field-0 =
    c.in_ok-push.ensures.bytes ∙ ap (λ t. t ++ encode_utf8 c.in_ok-escaped.field-0) c.in_ok-push_str.ensures.bytes in (
      search rules,
      ap (λ t. resolved t (slice_split (is 37) c.in-Some-after.after.now)) text
          ∙ sym (ap (resolved (string_bytes c.loop-plain.text)) (first ∙ ap (λ pieces. c.cut.result.0.now ∷ pieces) second)
          ∙ resolved-escape _ c.cut.result.0.now c.cut-in-loop-plain.result.0.now _ _ holds found) ∙ c.loop-plain.invariant.1,
    )
