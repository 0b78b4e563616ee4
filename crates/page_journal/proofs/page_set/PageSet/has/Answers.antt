use Rattle.std.proofs.Common.{ap, sym, ◌∙◌}
use Rattle.std.specs.FinMap as map
use Rattle.std.specs.Option.{is_some}
use Rattle.page_journal.specs.PageSet.{PageMap}
use Rattle.page_journal.proofs.Members.{has_in}
use Rattle.page_journal.proofs.page_set.PageSet.has.Goals as goal

pub returns : goal.returns
returns c =
    c.contains_key.ensures ∙ sym (
    ap (λ (set : PageMap). is_some (map.get set c.args.page)) (sym c.self.view_is)
    ∙ has_in c.self.inside.pages.entries c.self.invariant c.args.page
    )
