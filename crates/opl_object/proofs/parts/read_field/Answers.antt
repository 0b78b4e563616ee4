use Rattle.std.proofs.Common.{◌≡◌, ◌∙◌, false, Some, Ok, ap, sym, subst, refl}
use Rattle.std.specs.Prelude.{take}
use Rattle.std.specs.List.{position_or_len, before_first}
use Rattle.std.proofs.lemmas.Result.{err_from_is_err_and}
use Rattle.opl_object.specs.Fields.{is_blank}
use Rattle.opl_object.specs.Letter.{letter_at, also}
use Rattle.opl_object.specs.Parts.{with_value}
use Rattle.opl_object.specs.Seen.{stands}
use Rattle.opl_object.specs.Why.{◌>>=◌, Refuses}
use Rattle.opl_object.proofs.Cuts.{blank-ascii, boundary_before}
use Rattle.opl_object.proofs.FieldSteps.{field_read, same_letters}
use Rattle.opl_object.proofs.Pieces.{refused_then}
use Rattle.opl_object.proofs.parts.read_field.Goals as goal

pub split_at-requires : goal.split_at-requires
split_at-requires c =
    let place : c.blank_place-end.result ≡ position_or_len is_blank c.in-Some.value.now =
    c.blank_place-end.ensures.place ∙ ap (position_or_len is_blank) c.as_bytes-2.ensures.value in
    rw place (boundary_before is_blank c.in-Some.value.now blank-ascii)

pub returns-in_err-add-clause-parts : goal.returns-in_err-add-clause-parts
returns-in_err-add-clause-parts c =
    let place : position_or_len is_blank c.in-Some.value.now ≡ c.blank_place-end.result =
    sym (c.blank_place-end.ensures.place ∙ ap (position_or_len is_blank) c.as_bytes-2.ensures.value) in
    let front : before_first is_blank c.in-Some.value.now ≡ c.split_at.result.0.now =
    ap (λ n. take n c.in-Some.value.now) place ∙ sym c.split_at.ensures.front in
    let kept : c.add_usual.new.self ≡ c.args.parts.now = c.add_usual.ensures.kept (rw c.in_default-add_usual.is refl) in
    let same : with_value c.in-Some.letter c.split_at.result.0.now c.add_usual.new.self
    ≡ with_value c.in-Some.letter (before_first is_blank c.in-Some.value.now) c.args.parts.now
    = ap (with_value c.in-Some.letter c.split_at.result.0.now) kept
    ∙ ap (λ t. with_value c.in-Some.letter t c.args.parts.now) (sym front) in
    let found : letter_at c.args.kind c.args.text.now ≡ Some (c.in-Some.letter, c.in-Some.value.now) = sym c.in-Some.ensures.value in
    let new : stands c.args.seen.now c.in-Some.letter ≡ false = sym c.add.ensures.before ∙ c.if-add.false in
    let field = field_read c.args.kind (stands c.args.seen.now) c.args.parts.now c.args.text.now c.in-Some.value.now c.in-Some.letter
    c.requires found new in
    let refused = subst (Refuses c.in_err-add.field-0.0) same c.in_err-add.ensures.parts in
    let p = err_from_is_err_and c.from_residual.result c.from_residual.ensures.1 in
    rw (p.1, p.2) (subst (Refuses c.in_err-add.field-0.0) (sym field)
    (refused_then c.in_err-add.field-0.0 (with_value c.in-Some.letter (before_first is_blank c.in-Some.value.now) c.args.parts.now)
    (λ next. Ok (also (stands c.args.seen.now) c.in-Some.letter, next)) refused))

pub returns-clause-parts : goal.returns-clause-parts
returns-clause-parts c =
    let place : position_or_len is_blank c.in-Some.value.now ≡ c.blank_place-end.result =
    sym (c.blank_place-end.ensures.place ∙ ap (position_or_len is_blank) c.as_bytes-2.ensures.value) in
    let front : before_first is_blank c.in-Some.value.now ≡ c.split_at.result.0.now =
    ap (λ n. take n c.in-Some.value.now) place ∙ sym c.split_at.ensures.front in
    let kept : c.add_usual.new.self ≡ c.args.parts.now = c.add_usual.ensures.kept (rw c.in_default-add_usual.is refl) in
    let same : with_value c.in-Some.letter (before_first is_blank c.in-Some.value.now) c.args.parts.now
    ≡ with_value c.in-Some.letter c.split_at.result.0.now c.add_usual.new.self
    = ap (λ t. with_value c.in-Some.letter t c.args.parts.now) front
    ∙ ap (with_value c.in-Some.letter c.split_at.result.0.now) (sym kept) in
    let found : letter_at c.args.kind c.args.text.now ≡ Some (c.in-Some.letter, c.in-Some.value.now) = sym c.in-Some.ensures.value in
    let new : stands c.args.seen.now c.in-Some.letter ≡ false = sym c.add.ensures.before ∙ c.if-add.false in
    let field = field_read c.args.kind (stands c.args.seen.now) c.args.parts.now c.args.text.now c.in-Some.value.now c.in-Some.letter
    c.requires found new in
    let stood = same_letters (also (stands c.args.seen.now) c.in-Some.letter) (stands c.add.new.self) c.add.ensures.after in
    field ∙ ap (λ read. read >>= λ next. Ok (also (stands c.args.seen.now) c.in-Some.letter, next)) (same ∙ c.in_ok-add.ensures.parts)
    ∙ ap (λ letters. Ok (letters, c.add-2.new.self)) stood
