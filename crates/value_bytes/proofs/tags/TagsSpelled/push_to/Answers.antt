use Rattle.std.proofs.Common.{◌≡◌, ◌<◌, ◌^◌, ap, ◌∙◌, List, ℕ, ◌++◌, length, subst}
use Rattle.std.specs.FinMap as map
use Rattle.value_bytes.specs.Forms.{all_bytes}
use Rattle.value_bytes.specs.Numbers.{number_bytes}
use Rattle.value_bytes.specs.Tags.{tag_bytes}
use Rattle.value_bytes.proofs.TagLaws.{tags_put, tags_are}
use Rattle.value_bytes.proofs.ListLaws.{list_put}
use Rattle.value_bytes.proofs.tags.TagsSpelled.push_to.Goals as goal

pub returns-clause-ok : goal.returns-clause-ok
returns-clause-ok c =
    let entries = map.entries c.args.self.now in
    let long : c.len.result ≡ length entries = c.len.ensures.count ∙ map.len-entries c.args.self.now in
    c.in_ok-push_each.ensures.ok ∙ ap (λ (l : List ℕ). l ++ all_bytes tag_bytes entries) c.in_ok-push_number.ensures.ok
    ∙ ap (λ (n : ℕ). (c.args.out.now.items ++ number_bytes n) ++ all_bytes tag_bytes entries) long
    ∙ list_put tag_bytes entries c.args.out.now.items
    ∙ ap (λ (l : List ℕ). c.args.out.now.items ++ l) (tags_put c.args.self.now)

pub returns-clause-is : goal.returns-clause-is
returns-clause-is c =
    let entries = map.entries c.args.self.now in
    let long : c.len.result ≡ length entries = c.len.ensures.count ∙ map.len-entries c.args.self.now in
    tags_are c.args.self.now (record {
      few = subst (λ (n : ℕ). n < 2 ^ 64) long c.in_ok-push_number.ensures.is;
      each =
          c.in_ok-push_each.ensures.is;
    })
