use Rattle.std.proofs.Common.{◌≤◌, ℕ, List, Option, Some, Vec, length, option_map, ap, sym, ◌∙◌, subst}
use Rattle.std.specs.FinMap as map
use Rattle.std.specs.declared.alloc.Global.{Global}
use Rattle.page_journal.specs.PageSet.{PageMap, padded}
use Rattle.page_journal.proofs.Members.{got_in, sized_in}
use Rattle.page_journal.proofs.Padding.{padded_few}
use Rattle.page_journal.proofs.page_set.PageSet.get.Goals as goal

pub page_of-requires : goal.page_of-requires
page_of-requires c =
    subst (λ (l : List ℕ). length l ≤ 4096) (sym c.as_slice.ensures.value)
    (padded_few c.in-Some.bytes.now.items
    (sized_in c.self.inside.pages.entries c.args.page c.in-Some.bytes.now c.self.invariant.sized (sym c.in-Some.ensures.value)))

pub returns-in-Some-clause-page : goal.returns-in-Some-clause-page
returns-in-Some-clause-page c =
    ap (λ (set : PageMap). map.get set c.args.page) (sym c.self.view_is) ∙ got_in c.self.inside.pages.entries c.self.invariant c.args.page
    ∙ ap (λ (o : Option (Vec ℕ Global)). option_map (λ (v : Vec ℕ Global). padded v.items) o) (sym c.in-Some.ensures.value)
    ∙ ap (λ (l : List ℕ). Some (padded l)) (sym c.as_slice.ensures.value)
    ∙ ap (λ (l : List ℕ). Some l) (sym c.page_of.ensures)

pub returns-in-None-clause-page : goal.returns-in-None-clause-page
returns-in-None-clause-page c =
    ap (λ (set : PageMap). map.get set c.args.page) (sym c.self.view_is) ∙ got_in c.self.inside.pages.entries c.self.invariant c.args.page
    ∙ ap (λ (o : Option (Vec ℕ Global)). option_map (λ (v : Vec ℕ Global). padded v.items) o) (sym c.in-None.ensures.value)
