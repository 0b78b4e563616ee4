use Rattle.std.proofs.Common.{List, ℕ, ap, ◌∙◌}
use Rattle.std.specs.FinMap as map
use Rattle.page_journal.specs.PageSet.{PageMap, padded}
use Rattle.page_journal.proofs.Padding.{padded_long, padded_whole}
use Rattle.page_journal.proofs.Trees.{tree_put, view_put}
use Rattle.page_journal.proofs.page_set.PageSet.put_owned.Goals as goal

pub returns-clause-ok : goal.returns-clause-ok
returns-clause-ok c =
    let size = padded_long c.args.bytes.items c.requires in
    view_put _ _ c.args.page c.args.bytes c.self.invariant size c.in_ok-insert.ensures.entries
    ∙ ap (λ (set : PageMap). map.insert set c.args.page (padded c.args.bytes.items)) c.self.view_is

pub returns-clause-whole : goal.returns-clause-whole
returns-clause-whole c = λ whole.
    let size = padded_long c.args.bytes.items c.requires in
    view_put _ _ c.args.page c.args.bytes c.self.invariant size c.in_ok-insert.ensures.entries
    ∙ ap (λ (set : PageMap). map.insert set c.args.page (padded c.args.bytes.items)) c.self.view_is
    ∙ ap (λ (page : List ℕ). map.insert c.args.self.now c.args.page page) (padded_whole c.args.bytes.items whole)

pub invariant_of-self-2 : goal.invariant_of-self-2
invariant_of-self-2 c =
    tree_put _ _ c.args.page c.args.bytes c.self.invariant (padded_long c.args.bytes.items c.requires) c.in_ok-insert.ensures.entries
