use Rattle.std.proofs.Common.{◌∙◌, ◌++◌, ap, subst}
use Rattle.std.specs.Str.{chars, IsUtf8}
use Rattle.std.proofs.lemmas.Str.{chars-append}
use Rattle.osm_base.proofs.values.text.Text.push_str.Goals as goal

pub returns-clause-ok : goal.returns-clause-ok
returns-clause-ok c =
    ap chars c.in_ok-push_str.ensures.bytes
    ∙ chars-append _ c.args.text.now (subst IsUtf8 c.as_str-before.ensures.value c.as_str-before.utf8)
    ∙ ap (λ own. own ++ chars c.args.text.now) c.self.view_is
