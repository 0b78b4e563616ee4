use Rattle.std.proofs.Common.{◌≡◌, ℕ, List, ◌≤◌, length, take, arith}
use Rattle.std.proofs.lemmas.List.{take_all}
use Rattle.std.specs.FinMap as map
use Rattle.std.specs.Str.{chars}
use Rattle.opl_object.specs.Escapes.{IsText}
use Rattle.opl_object.specs.Lists.{tag_text, tags_text, OfTag}
use Rattle.opl_object.proofs.Puts.{comma-err, item-err, item-ok, AllByRecursion-take}
use Rattle.opl_object.proofs.lists.put_tags.Goals as goal

pub returns-in_err-put_comma-clause-err : goal.returns-in_err-put_comma-clause-err
unfolding tags_text
returns-in_err-put_comma-clause-err g c =
    comma-err tag_text (map.entries c.args.tags.now) c.loop-index.index
    (chars c.nth.result.0.now, chars c.nth.result.1.now) c.nth.ensures.tag _ _ c.loop-index.invariant.taken
    c.from_residual.result _ c.in_err-put_comma.ensures.err

pub returns-in_err-put_tag-clause-err : goal.returns-in_err-put_tag-clause-err
unfolding tags_text
returns-in_err-put_tag-clause-err g c =
    item-err tag_text (map.entries c.args.tags.now) c.loop-index.index
    (chars c.nth.result.0.now, chars c.nth.result.1.now) c.nth.ensures.tag _ _ c.loop-index.invariant.taken
    c.from_residual-in_err-put_tag.result _ _ c.in_ok-put_comma.ensures.ok c.in_err-put_tag.ensures.err

pub loop-index-preserved : goal.loop-index-preserved
loop-index-preserved g c =
    let tag : List ℕ × List ℕ = (chars c.nth.result.0.now, chars c.nth.result.1.now) in
    record {
      taken = item-ok tag_text (map.entries c.args.tags.now) c.loop-index.index tag c.nth.ensures.tag _ _ c.loop-index.invariant.taken _ _
          c.in_ok-put_comma.ensures.ok c.in_ok-put_tag.ensures.ok;
      later = omega (arith, c.loop-index.invariant.later, c.in_ok-put_comma.ensures.cause.later, c.in_ok-put_tag.ensures.cause.later);
      each = AllByRecursion-take (OfTag IsText)
          (map.entries c.args.tags.now) c.loop-index.index tag c.nth.ensures.tag c.loop-index.invariant.each c.in_ok-put_tag.ensures.texts;
    }

pub returns-clause-ok : goal.returns-clause-ok
unfolding tags_text
returns-clause-ok g c =
    let whole : length (map.entries c.args.tags.now) ≤ c.loop-index.index =
    omega (arith, c.len-index-end.ensures.count, map.len-entries c.args.tags.now) in
    let all : take c.loop-index.index (map.entries c.args.tags.now) ≡ map.entries c.args.tags.now =
    take_all c.loop-index.index (map.entries c.args.tags.now) whole in
    rw all at c.loop-index.invariant.taken

pub returns-clause-texts : goal.returns-clause-texts
returns-clause-texts g c =
    let whole : length (map.entries c.args.tags.now) ≤ c.loop-index.index =
    omega (arith, c.len-index-end.ensures.count, map.len-entries c.args.tags.now) in
    let all : take c.loop-index.index (map.entries c.args.tags.now) ≡ map.entries c.args.tags.now =
    take_all c.loop-index.index (map.entries c.args.tags.now) whole in
    rw all at c.loop-index.invariant.each
