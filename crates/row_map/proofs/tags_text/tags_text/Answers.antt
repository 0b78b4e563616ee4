use Rattle.std.proofs.Common.{◌≤◌, ◌++◌, ◌∙◌, length, ap, sym, subst, arith}
use Rattle.std.specs.FinMap as map
use Rattle.std.specs.Str.{IsUtf8}
use Rattle.json.specs.Print.{print}
use Rattle.serde_json.specs.Data.{object}
use Rattle.serde_json.proofs.Texts.{print-outline}
use Rattle.row_rules.specs.Cell.{members_of}
use Rattle.row_map.proofs.TagTokens.{written-more, written-all}
use Rattle.row_map.proofs.tags_text.tags_text.Goals as goal

pub loop-index-preserved : goal.loop-index-preserved
loop-index-preserved c = (
  c.write_tag.ensures.before ∙ c.loop-index.invariant.0,
  written-more (map.entries c.args.tags.now) c.loop-index.index _ _ _ _ _ c.nth.ensures.tag c.in_ok-write_tag.ensures.member
      c.loop-index.invariant.1,
)

pub from_utf8_unchecked-requires : goal.from_utf8_unchecked-requires
from_utf8_unchecked-requires c =
    let before = c.in_ok-end_object.ensures.room.0 ∙ c.loop-index.invariant.0 in
    let items = c.into_inner.ensures.items ∙ ap (λ front. front ++ print c.end_object.new.self.tokens) before in
    subst IsUtf8 (sym items) c.into_inner.ensures.utf8

pub returns : goal.returns
returns c =
    let tags = map.entries c.args.tags.now in
    let before = c.in_ok-end_object.ensures.room.0 ∙ c.loop-index.invariant.0 in
    let items = c.into_inner.ensures.items ∙ ap (λ front. front ++ print c.end_object.new.self.tokens) before in
    let count = c.len-index-end.ensures.count ∙ map.len-entries c.args.tags.now in
    let passed : length tags ≤ c.loop-index.index = omega (arith, count, c.loop-index-test.false) in
    let all = c.in_ok-end_object.ensures.ok ∙ written-all tags c.loop-index.index _ _ passed c.loop-index.invariant.1 in
    record {
      text = ap (λ bytes. bytes.items) c.from_utf8_unchecked.ensures.value ∙ items ∙ ap print all
          ∙ print-outline (object (members_of tags));
    }
