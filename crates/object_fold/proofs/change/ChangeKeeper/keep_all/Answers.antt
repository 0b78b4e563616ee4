use Rattle.std.proofs.Common.{◌∙◌, None, List, ap, fold, subst, sym}
use Rattle.osm_base.specs.declared.values.object.Entry.{Entry}
use Rattle.osm_base.specs.values.Key.{KeyOf}
use Rattle.object_fold.specs.Change.{Follows, last_key}
use Rattle.object_fold.specs.Keeps.{pushed}
use Rattle.object_fold.proofs.Joined.{fold-pushed, follows_joined, rise_joined}
use Rattle.object_fold.proofs.change.ChangeKeeper.keep_all.Goals as goal

pub invariant_of-self-2 : goal.invariant_of-self-2
invariant_of-self-2 c =
    let own = c.self.inside.entries.items in
    let later = subst (λ (front : List Entry). (next : KeyOf) → Follows c.args.last next → Follows (last_key None front) next)
    (sym c.self.view_is) c.requires.takes in
    rw c.in_ok-append.ensures.items (rise_joined c.args.last own c.args.entries.items c.self.invariant later c.requires.rise)

pub returns-clause-kept : goal.returns-clause-kept
returns-clause-kept c =
    c.in_ok-append.ensures.items ∙ sym (fold-pushed c.self.inside.entries.items c.args.entries.items)
    ∙ ap (λ (front : List Entry). fold pushed front c.args.entries.items) c.self.view_is

pub returns-clause-takes : goal.returns-clause-takes
returns-clause-takes c = λ next follows.
    let own = c.self.inside.entries.items in
    let later = subst (λ (front : List Entry). (next : KeyOf) → Follows c.args.last next → Follows (last_key None front) next)
    (sym c.self.view_is) c.requires.takes in
    subst (λ (entries : List Entry). Follows (last_key None entries) next) (sym c.in_ok-append.ensures.items)
    (follows_joined c.args.last own c.args.entries.items later next follows)
