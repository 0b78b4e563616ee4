use Rattle.std.proofs.Common.{◌≡◌, [], ap, sym, ◌∙◌, subst, refl}
use Rattle.osm_base.specs.values.Tags.{HasEachKeyOnce}
use Rattle.osm_base.specs.values.TagRow.{pairs_in}
use Rattle.osm_base.proofs.TagLists.{once-rising}
use Rattle.osm_base.proofs.values.tags.list.TagList.into_tags.Goals as goal

pub returns-in_default-clause-once : goal.returns-in_default-clause-once
returns-in_default-clause-once c =
    let empty : [] ≡ c.args.self = sym (ap pairs_in c.in_default.is) ∙ c.self.view_is in
    (λ _. subst HasEachKeyOnce empty (once-rising [] tt), λ _. refl)
