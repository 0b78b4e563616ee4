use Rattle.std.proofs.Common.{None, ap, sym, subst, ◌∙◌}
use Rattle.object_fold.specs.Change.{Follows, last_key}
use Rattle.tag_rows.specs.TrimmedChange.{TrimmedEntries, trimmed_entry}
use Rattle.tag_rows.proofs.RestLaws.{last_key-more}
use Rattle.tag_rows.proofs.trimmed_change.TrimmedChangeKeeper.keep.Goals as goal

pub returns-clause-rises : goal.returns-clause-rises
returns-clause-rises c = λ next below.
    let own = c.args.self.now in
    subst (λ last. Follows last next)
    (sym (ap (λ (now : TrimmedEntries). last_key None now.entries) c.in_ok-keep_from.ensures.ok
    ∙ last_key-more None own.entries (trimmed_entry own.key c.args.entry))) below
