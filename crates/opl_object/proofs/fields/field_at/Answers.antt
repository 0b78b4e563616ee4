use Rattle.std.proofs.Common.{◌≡◌, ℕ, ◌<◌, ◌∙◌, subst, ap, sym, arith, length, drop, not}
use Rattle.std.specs.List.{position_or_len}
use Rattle.opl_object.specs.Fields.{is_blank, fields_of}
use Rattle.opl_object.proofs.Cuts.{place_le, blank-ascii, boundary_behind, fields_none, fields_of-blanks, begins_behind, Begins}
use Rattle.opl_object.proofs.fields.field_at.Goals as goal

pub returns-then-start-text-clause-fields : goal.returns-then-start-text-clause-fields
returns-then-start-text-clause-fields c =
    let place : c.field_place-start.result ≡ position_or_len {X = ℕ} (λ byte. not (is_blank byte)) c.args.text.now =
    c.field_place-start.ensures.place ∙ ap (position_or_len {X = ℕ} (λ byte. not (is_blank byte))) c.as_bytes.ensures.value in
    fields_none c.args.text.now (omega arith)

pub split_at-requires : goal.split_at-requires
split_at-requires c =
    let place : c.field_place-start.result ≡ position_or_len {X = ℕ} (λ byte. not (is_blank byte)) c.args.text.now =
    c.field_place-start.ensures.place ∙ ap (position_or_len {X = ℕ} (λ byte. not (is_blank byte))) c.as_bytes.ensures.value in
    rw place (boundary_behind is_blank c.args.text.now blank-ascii c.utf8.text)

pub returns-clause-fields : goal.returns-clause-fields
returns-clause-fields c =
    let start : c.field_place-start.result ≡ position_or_len {X = ℕ} (λ byte. not (is_blank byte)) c.args.text.now =
    c.field_place-start.ensures.place ∙ ap (position_or_len {X = ℕ} (λ byte. not (is_blank byte))) c.as_bytes.ensures.value in
    let lt : position_or_len {X = ℕ} (λ byte. not (is_blank byte)) c.args.text.now < length c.args.text.now =
    omega (arith, place_le {X = ℕ} (λ byte. not (is_blank byte)) c.args.text.now) in
    let behind : drop (position_or_len {X = ℕ} (λ byte. not (is_blank byte)) c.args.text.now) c.args.text.now ≡ c.split_at.result.1.now =
    ap (λ n. drop n c.args.text.now) (sym start) ∙ sym c.split_at.ensures.back in
    let first = subst Begins behind (begins_behind c.args.text.now lt) in
    fields_of-blanks c.args.text.now ∙ ap fields_of behind ∙ first.first

pub returns-clause-some : goal.returns-clause-some
returns-clause-some c =
    let start : c.field_place-start.result ≡ position_or_len {X = ℕ} (λ byte. not (is_blank byte)) c.args.text.now =
    c.field_place-start.ensures.place ∙ ap (position_or_len {X = ℕ} (λ byte. not (is_blank byte))) c.as_bytes.ensures.value in
    let lt : position_or_len {X = ℕ} (λ byte. not (is_blank byte)) c.args.text.now < length c.args.text.now =
    omega (arith, place_le {X = ℕ} (λ byte. not (is_blank byte)) c.args.text.now) in
    let behind : drop (position_or_len {X = ℕ} (λ byte. not (is_blank byte)) c.args.text.now) c.args.text.now ≡ c.split_at.result.1.now =
    ap (λ n. drop n c.args.text.now) (sym start) ∙ sym c.split_at.ensures.back in
    let first = subst Begins behind (begins_behind c.args.text.now lt) in
    first.some
