use Rattle.std.proofs.Common.{◌≡◌, ◌∙◌, ap, sym, not, Ok}
use Rattle.std.specs.List.{position_or_len}
use Rattle.std.specs.Char.{is_ascii_digit}
use Rattle.opl_object.specs.Fields.{is_blank}
use Rattle.opl_object.specs.Nodes.{digits_len}
use Rattle.opl_object.proofs.FirstKeys.{front_key}
use Rattle.opl_object.proofs.Fronts.{ends_stopped, digits_stop}
use Rattle.opl_object.proofs.line.usual_key.Goals as goal

pub returns-clause-fields : goal.returns-clause-fields
returns-clause-fields c =
    let place : c.in_ok-id.len ≡ position_or_len is_blank c.in_ok-kind.digits.now =
    ends_stopped (λ byte. not (is_ascii_digit byte)) c.in_ok-kind.digits.now c.in_ok-id.len digits_stop
    (c.in_ok-id.ensures.len ∙ ap digits_len c.as_bytes.ensures.value)
    (rw (← c.as_bytes-2.ensures.value) (c.ends_at.ensures.blank c.if-not-ends_at.false)) in
    (front_key c.args.text.now c.in_ok-kind.kind c.in_ok-kind.digits.now c.split_at.result.1.now c.in_ok-id.len c.in_ok-id.id
    c.in_ok-kind.ensures.value place c.split_at.ensures.back (rw (← c.as_bytes.ensures.value) c.in_ok-id.ensures.id)).fields

pub returns-clause-key : goal.returns-clause-key
returns-clause-key c =
    let place : c.in_ok-id.len ≡ position_or_len is_blank c.in_ok-kind.digits.now =
    ends_stopped (λ byte. not (is_ascii_digit byte)) c.in_ok-kind.digits.now c.in_ok-id.len digits_stop
    (c.in_ok-id.ensures.len ∙ ap digits_len c.as_bytes.ensures.value)
    (rw (← c.as_bytes-2.ensures.value) (c.ends_at.ensures.blank c.if-not-ends_at.false)) in
    (front_key c.args.text.now c.in_ok-kind.kind c.in_ok-kind.digits.now c.split_at.result.1.now c.in_ok-id.len c.in_ok-id.id
    c.in_ok-kind.ensures.value place c.split_at.ensures.back (rw (← c.as_bytes.ensures.value) c.in_ok-id.ensures.id)).key
    ∙ ap Ok (sym c.new.ensures.fields)
