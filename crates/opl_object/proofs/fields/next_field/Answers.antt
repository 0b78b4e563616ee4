use Rattle.std.proofs.Common.{◌≡◌, ◌∙◌, ap, sym, refl}
use Rattle.std.specs.List.{position_or_len}
use Rattle.opl_object.specs.Fields.{is_blank}
use Rattle.opl_object.proofs.Cuts.{blank-ascii, boundary_before}
use Rattle.opl_object.proofs.fields.next_field.Goals as goal

pub split_at-requires : goal.split_at-requires
split_at-requires c =
    let place : c.blank_place-end.result ≡ position_or_len is_blank c.in-Some.field.now =
    c.blank_place-end.ensures.place ∙ ap (position_or_len is_blank) c.as_bytes.ensures.value in
    rw place (boundary_before is_blank c.in-Some.field.now blank-ascii)

pub returns : goal.returns
returns c =
    let place : position_or_len is_blank c.in-Some.field.now ≡ c.blank_place-end.result =
    sym (c.blank_place-end.ensures.place ∙ ap (position_or_len is_blank) c.as_bytes.ensures.value) in
    record { fields = c.in-Some.ensures.fields ∙ rw (place, ← c.split_at.ensures.front, ← c.split_at.ensures.back) refl }
