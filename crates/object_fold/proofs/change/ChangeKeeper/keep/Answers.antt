use Rattle.std.proofs.Common.{None, List, sym, ◌∙◌, ap, subst}
use Rattle.osm_base.specs.declared.values.object.Entry.{Entry}
use Rattle.object_fold.specs.Change.{Follows, last_key}
use Rattle.object_fold.proofs.Rising.{RiseFrom-pushed, last_key-pushed}
use Rattle.object_fold.proofs.change.ChangeKeeper.keep.Goals as goal

pub invariant_of-self-2 : goal.invariant_of-self-2
invariant_of-self-2 c =
    rw c.in_ok-push.ensures.items (RiseFrom-pushed None c.self.inside.entries.items c.args.entry c.self.invariant
    (subst (λ (entries : List Entry). Follows (last_key None entries) c.args.entry.key) (sym c.self.view_is) c.requires.takes)
    c.requires.proper)

pub returns-clause-rises : goal.returns-clause-rises
returns-clause-rises c =
    λ next below. subst (λ last. Follows last next)
    (sym (ap (last_key None) c.in_ok-push.ensures.items ∙ last_key-pushed None c.self.inside.entries.items c.args.entry)) below
