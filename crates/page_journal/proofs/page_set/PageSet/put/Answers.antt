use Rattle.std.proofs.Common.{◌≡◌, ℕ, List, length, ap, ◌∙◌, rules}
use Rattle.std.specs.Ordering.{nat_cmp}
use Rattle.std.specs.FinMap as map
use Rattle.page_journal.specs.PageSet.{PageMap, padded, plain}
use Rattle.page_journal.proofs.Padding.{padded_whole}
use Rattle.page_journal.proofs.Trees.{tree_put, view_put}
use Rattle.page_journal.proofs.page_set.PageSet.put.Goals as goal

pub returns-clause-ok : goal.returns-clause-ok
returns-clause-ok c =
    let copied : c.in_ok-copy.copy.items ≡ c.args.bytes.now = search rules in
    let whole : padded c.in_ok-copy.copy.items ≡ c.args.bytes.now =
    padded_whole c.in_ok-copy.copy.items (ap length copied ∙ c.told-bytes) ∙ copied in
    let size : length (padded c.in_ok-copy.copy.items) ≡ 4096 = ap length whole ∙ c.told-bytes in
    view_put _ _ c.args.page c.in_ok-copy.copy c.self.invariant size c.in_ok-insert.ensures.entries
    ∙ ap (λ (page : List ℕ). map.insert (map.from_sorted {R = nat_cmp} (plain c.self.inside.pages.entries)) c.args.page page) whole
    ∙ ap (λ (set : PageMap). map.insert set c.args.page c.args.bytes.now) c.self.view_is

pub invariant_of-self-2 : goal.invariant_of-self-2
invariant_of-self-2 c =
    let copied : c.in_ok-copy.copy.items ≡ c.args.bytes.now = search rules in
    let whole : padded c.in_ok-copy.copy.items ≡ c.args.bytes.now =
    padded_whole c.in_ok-copy.copy.items (ap length copied ∙ c.told-bytes) ∙ copied in
    let size : length (padded c.in_ok-copy.copy.items) ≡ 4096 = ap length whole ∙ c.told-bytes in
    tree_put _ _ c.args.page c.in_ok-copy.copy c.self.invariant size c.in_ok-insert.ensures.entries
