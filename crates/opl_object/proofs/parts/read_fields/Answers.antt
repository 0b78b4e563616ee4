use Rattle.std.proofs.Common.{◌≡◌, ◌∙◌, ap, sym, Ok, rules}
use Rattle.std.specs.Prelude.{drop}
use Rattle.std.specs.List.{before_first}
use Rattle.std.proofs.lemmas.Result.{err_from_is_err_and}
use Rattle.opl_object.specs.Fields.{is_blank, from_blank, fields_of}
use Rattle.opl_object.specs.Parts.{with_field, parts_of}
use Rattle.opl_object.specs.Seen.{stands}
use Rattle.opl_object.specs.Why.{◌>>=◌, each_piece}
use Rattle.opl_object.proofs.Cuts.{blank-ascii, boundary_before}
use Rattle.opl_object.proofs.OnEarth.{parts_near}
use Rattle.opl_object.proofs.Pieces.{goes_on, refused_at, none_left, refused_then}
use Rattle.opl_object.proofs.parts.read_fields.Goals as goal

pub split_at-requires : goal.split_at-requires
split_at-requires c = rw c.in_ok-end.ensures.end (boundary_before is_blank c.in-Some.field.now blank-ascii)

pub returns-in_err-end-clause-parts : goal.returns-in_err-end-clause-parts
unfolding parts_of
returns-in_err-end-clause-parts c =
    let so_far = ap (each_piece (with_field c.args.kind) (stands c.loop-field.seen, c.loop-field.parts)) (sym c.in-Some.ensures.fields)
    ∙ c.loop-field.invariant.1 in
    let p = err_from_is_err_and c.from_residual.result c.from_residual.ensures.1 in
    let no = refused_at (with_field c.args.kind) (stands c.loop-field.seen, c.loop-field.parts) (before_first is_blank c.in-Some.field.now)
    (fields_of (from_blank c.in-Some.field.now)) _ c.in_err-end.field-0.0 so_far c.in_err-end.ensures.parts in
    rw (p.1, p.2) (refused_then c.in_err-end.field-0.0 _ (λ last. Ok last.1) no)

pub loop-field-preserved : goal.loop-field-preserved
loop-field-preserved c =
    let so_far = ap (each_piece (with_field c.args.kind) (stands c.loop-field.seen, c.loop-field.parts)) (sym c.in-Some.ensures.fields)
    ∙ c.loop-field.invariant.1 in
    let later : c.split_at.result.1.now ≡ from_blank c.in-Some.field.now =
    c.split_at.ensures.back ∙ ap (λ n. drop n c.in-Some.field.now) c.in_ok-end.ensures.end in (
      search rules,
      ap (λ text. each_piece (with_field c.args.kind) (stands c.read_field.new.seen, c.read_field.new.parts) (fields_of text)) later
          ∙ goes_on (with_field c.args.kind) (stands c.loop-field.seen, c.loop-field.parts) (before_first is_blank c.in-Some.field.now)
          (fields_of (from_blank c.in-Some.field.now)) _
          (stands c.read_field.new.seen, c.read_field.new.parts) so_far c.in_ok-end.ensures.parts,
    )

pub returns-clause-parts : goal.returns-clause-parts
unfolding parts_of
returns-clause-parts c =
    let last = none_left (with_field c.args.kind) (stands c.loop-field.seen, c.loop-field.parts) _
    (ap (each_piece (with_field c.args.kind) (stands c.loop-field.seen, c.loop-field.parts)) (sym c.in_default.ensures.fields)
    ∙ c.loop-field.invariant.1) in
    ap (λ r. r >>= λ last. Ok last.1) last

pub returns-clause-earth : goal.returns-clause-earth
returns-clause-earth c = parts_near c.args.kind (fields_of c.args.text.now) c.loop-field.parts (returns-clause-parts c)
