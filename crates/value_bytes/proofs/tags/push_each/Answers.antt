use Rattle.std.proofs.Common.{◌≡◌, sym, ap, ◌∙◌, List, ℕ, ◌++◌, take, length, get_or, ◌<◌, append_assoc, subst, arith}
use Rattle.std.proofs.lemmas.Option.{get_or_from_slice_get}
use Rattle.std.proofs.lemmas.List.{take_all}
use Rattle.std.specs.List.{AllByRecursion}
use Rattle.std.specs.FinMap as map
use Rattle.std.specs.Str.{chars}
use Rattle.value_bytes.specs.Forms.{all_bytes}
use Rattle.value_bytes.specs.Tags.{tag_bytes, IsTag}
use Rattle.value_bytes.proofs.ListLaws.{bytes_more, each_more}
use Rattle.value_bytes.proofs.tags.push_each.Goals as goal

pub loop-index-preserved : goal.loop-index-preserved
loop-index-preserved c =
    let entries = map.entries c.args.tags.now in
    let place = c.loop-index.index in
    let tag : List ℕ × List ℕ = (chars c.nth.result.0.now, chars c.nth.result.1.now) in
    let within : place < length entries = omega (arith, c.len-index-end.ensures.count, map.len-entries c.args.tags.now) in
    let is : tag ≡ get_or entries place tag = sym (get_or_from_slice_get entries place tag tag c.nth.ensures.tag) in
    record {
      put = c.in_ok-push_tag.ensures.ok ∙ ap (λ (l : List ℕ). l ++ tag_bytes tag) c.loop-index.invariant.put
          ∙ append_assoc c.args.out.now.items (all_bytes tag_bytes (take place entries)) (tag_bytes tag)
          ∙ ap (λ (l : List ℕ). c.args.out.now.items ++ l) (sym (bytes_more tag_bytes entries place tag within is));
      are = each_more IsTag entries place tag within is c.loop-index.invariant.are c.in_ok-push_tag.ensures.is;
    }

pub returns-clause-ok : goal.returns-clause-ok
returns-clause-ok c =
    let entries = map.entries c.args.tags.now in
    let whole : take c.loop-index.index entries ≡ entries =
    take_all c.loop-index.index entries (omega (arith, c.len-index-end.ensures.count, map.len-entries c.args.tags.now)) in
    c.loop-index.invariant.put ∙ ap (λ (l : List _). c.args.out.now.items ++ all_bytes tag_bytes l) whole

pub returns-clause-is : goal.returns-clause-is
returns-clause-is c =
    let entries = map.entries c.args.tags.now in
    let whole : take c.loop-index.index entries ≡ entries =
    take_all c.loop-index.index entries (omega (arith, c.len-index-end.ensures.count, map.len-entries c.args.tags.now)) in
    subst (λ l. AllByRecursion IsTag l) whole c.loop-index.invariant.are
