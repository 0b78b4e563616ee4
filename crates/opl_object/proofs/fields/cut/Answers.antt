use Rattle.std.proofs.Common.{◌≡◌, ◌∙◌, refl, ap, arith}
use Rattle.std.specs.List.{position_or_len}
use Rattle.opl_object.specs.Fields.{is}
use Rattle.opl_object.proofs.Cuts.{place_le, is-ascii, boundary_before, boundary_after, split_none, split_first}
use Rattle.opl_object.proofs.fields.cut.Goals as goal

pub returns-then-place-text-clause-pieces : goal.returns-then-place-text-clause-pieces
returns-then-place-text-clause-pieces c =
    let place : c.place_of-place.result ≡ position_or_len (is c.args.end) c.args.text.now =
    c.place_of-place.ensures.place ∙ ap (position_or_len (is c.args.end)) c.as_bytes.ensures.value in
    split_none (is c.args.end) c.args.text.now (omega arith)

pub split_at-requires : goal.split_at-requires
split_at-requires c =
    let place : c.place_of-place.result ≡ position_or_len (is c.args.end) c.args.text.now =
    c.place_of-place.ensures.place ∙ ap (position_or_len (is c.args.end)) c.as_bytes.ensures.value in
    rw place (boundary_before (is c.args.end) c.args.text.now (is-ascii c.args.end c.requires))

pub split_at-requires-2 : goal.split_at-requires-2
split_at-requires-2 c =
    let place : c.place_of-place.result ≡ position_or_len (is c.args.end) c.args.text.now =
    c.place_of-place.ensures.place ∙ ap (position_or_len (is c.args.end)) c.as_bytes.ensures.value in
    rw place (boundary_after (is c.args.end) c.args.text.now (is-ascii c.args.end c.requires) c.utf8.text
    (omega (arith, place_le (is c.args.end) c.args.text.now)))

pub returns-clause-pieces : goal.returns-clause-pieces
returns-clause-pieces c =
    let place : c.place_of-place.result ≡ position_or_len (is c.args.end) c.args.text.now =
    c.place_of-place.ensures.place ∙ ap (position_or_len (is c.args.end)) c.as_bytes.ensures.value in
    let first = split_first (is c.args.end) c.args.text.now (omega (arith, place_le (is c.args.end) c.args.text.now)) in
    first ∙ rw (← place, ← c.split_at.ensures.front, ← c.split_at-2.ensures.back) refl
