use Rattle.std.proofs.Common.{ap, sym, ◌∙◌, Ok}
use Rattle.std.specs.FinMap as map
use Rattle.std.specs.List.{slice_split}
use Rattle.std.specs.Option.{option_map}
use Rattle.opl_object.specs.declared.ascii.TheConstants.{COMMA}
use Rattle.opl_object.specs.Fields.{is, later_pieces}
use Rattle.opl_object.specs.Tags.{with_piece, with_tags}
use Rattle.opl_object.specs.Why.{◌>>=◌, each_piece}
use Rattle.opl_object.proofs.GatheredTags.{gathers, stops_there, starts, ends}
use Rattle.opl_object.proofs.MixedTags.{listed-tag}
use Rattle.opl_object.proofs.tags.add_in_turn.Goals as goal

pub loop-left-preserved : goal.loop-left-preserved
loop-left-preserved c =
    let so_far = c.loop-left.invariant
    ∙ ap (λ left. with_tags map.empty c.loop-left.list >>= λ tags.
    each_piece with_piece tags (later_pieces (is COMMA) (option_map (λ text. text.now) left))) c.in-Some.is
    ∙ ap (λ pieces. with_tags map.empty c.loop-left.list >>= λ tags. each_piece with_piece tags pieces) c.cut.ensures.pieces in
    gathers c.loop-left.list c.cut.result.0.now _ _ so_far c.add_piece.new.list c.in-Ok.ensures.tags

pub loop-left-preserved-in-Some-usual_tag : goal.loop-left-preserved-in-Some-usual_tag
loop-left-preserved-in-Some-usual_tag c =
    let so_far = c.loop-left.invariant
    ∙ ap (λ left. with_tags map.empty c.loop-left.list >>= λ tags.
    each_piece with_piece tags (later_pieces (is COMMA) (option_map (λ text. text.now) left))) c.in-Some.is
    ∙ ap (λ pieces. with_tags map.empty c.loop-left.list >>= λ tags. each_piece with_piece tags pieces)
    c.in-Some-usual_tag.ensures.pieces in
    gathers c.loop-left.list _ _ _ so_far c.push.new.self
    (listed-tag c.loop-left.list _ _ c.in-Some-usual_tag.ensures.tag ∙ ap Ok (sym c.in_ok-push.ensures.ok))

pub loop-left-init : goal.loop-left-init
loop-left-init c = starts c.args.list.now (slice_split (is COMMA) c.args.text.now) c.requires

pub returns-in-Err-Bad : goal.returns-in-Err-Bad
returns-in-Err-Bad c =
    let so_far = c.loop-left.invariant
    ∙ ap (λ left. with_tags map.empty c.loop-left.list >>= λ tags.
    each_piece with_piece tags (later_pieces (is COMMA) (option_map (λ text. text.now) left))) c.in-Some.is
    ∙ ap (λ pieces. with_tags map.empty c.loop-left.list >>= λ tags. each_piece with_piece tags pieces) c.cut.ensures.pieces in
    record {
      tags = stops_there c.loop-left.list c.cut.result.0.now _ _ so_far _ c.add_piece.new.list c.in-Err-Bad.ensures.kept
          c.in-Err-Bad.field-0
          (let is = c.in-Err-Bad.field-0-is in let own = c.in-Err-Bad.why-is in cc) c.in-Err-Bad.ensures.tags;
    }

pub returns : goal.returns
returns c =
    let left = ap (λ left. with_tags map.empty c.loop-left.list >>= λ tags.
    each_piece with_piece tags (later_pieces (is COMMA) (option_map (λ text. text.now) left))) c.in_default.is in
    record { tags = ends c.loop-left.list _ (c.loop-left.invariant ∙ left) }
