use Rattle.std.proofs.Common.{ap, sym, ◌∙◌, Ok}
use Rattle.std.specs.FinMap as map
use Rattle.std.specs.List.{slice_split}
use Rattle.std.specs.Option.{option_map}
use Rattle.opl_object.specs.declared.ascii.TheConstants.{COMMA}
use Rattle.opl_object.specs.Fields.{is, later_pieces}
use Rattle.opl_object.specs.Mixed.{tags_in}
use Rattle.opl_object.specs.Tags.{tag_of, with_piece, with_tags}
use Rattle.opl_object.specs.Why.{◌>>=◌, each_piece}
use Rattle.opl_object.proofs.GatheredTags.{gathers, stops, starts, ends}
use Rattle.opl_object.proofs.MixedTags.{listed-tag, listed-none, tags_in-push}
use Rattle.opl_object.proofs.mixed.find_tags.Goals as goal

pub loop-left-init : goal.loop-left-init
loop-left-init c = starts (tags_in c.args.found.now.items) (slice_split (is COMMA) c.args.text.now) (ap tags_in c.requires)

pub loop-left-preserved : goal.loop-left-preserved
loop-left-preserved c =
    let tags = tags_in c.loop-left.found.items in
    let so_far = c.loop-left.invariant
    ∙ ap (λ left. with_tags map.empty tags >>= λ tags.
    each_piece with_piece tags (later_pieces (is COMMA) (option_map (λ text. text.now) left))) c.in-Some.is
    ∙ ap (λ pieces. with_tags map.empty tags >>= λ tags. each_piece with_piece tags pieces) c.cut.ensures.pieces in
    let pushed = tags_in-push c.loop-left.found.items _ in
    gathers tags c.cut.result.0.now _ _ so_far (tags_in c.push.new.self.items)
    (listed-tag tags c.cut.result.0.now (tag_of c.cut.result.0.now) c.in-Ok.ensures.tag
    ∙ ap Ok (sym (ap tags_in c.in_ok-push-in-Ok.ensures.items ∙ pushed)))

pub returns-in-Err : goal.returns-in-Err
returns-in-Err c =
    let tags = tags_in c.loop-left.found.items in
    let so_far = c.loop-left.invariant
    ∙ ap (λ left. with_tags map.empty tags >>= λ tags.
    each_piece with_piece tags (later_pieces (is COMMA) (option_map (λ text. text.now) left))) c.in-Some.is
    ∙ ap (λ pieces. with_tags map.empty tags >>= λ tags. each_piece with_piece tags pieces) c.cut.ensures.pieces in
    record {
      tags = stops tags c.cut.result.0.now _ _ so_far c.in-Err.why
          (listed-none tags c.cut.result.0.now c.in-Err.why c.in-Err.ensures.tag);
    }

pub returns : goal.returns
returns c =
    let tags = tags_in c.loop-left.found.items in
    let left = ap (λ left. with_tags map.empty tags >>= λ tags.
    each_piece with_piece tags (later_pieces (is COMMA) (option_map (λ text. text.now) left))) c.in_default.is in
    record { tags = ends tags _ (c.loop-left.invariant ∙ left) }
