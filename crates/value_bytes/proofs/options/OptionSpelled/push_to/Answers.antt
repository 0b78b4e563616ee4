use Rattle.std.proofs.Common.{sym, ap, ◌∙◌, ◌++◌, subst}
use Rattle.value_bytes.specs.Options.{option_bytes, IsOption}
use Rattle.value_bytes.proofs.OptionLaws.{option_absent, option_present, is_absent, is_present}
use Rattle.value_bytes.proofs.options.OptionSpelled.push_to.Goals as goal

pub returns-in_ok-push-in-None-clause-ok : goal.returns-in_ok-push-in-None-clause-ok
returns-in_ok-push-in-None-clause-ok g c =
    c.in_ok-push-in-None.ensures.items ∙ option_absent g.T.Spelled.spell c.args.out.now.items
    ∙ ap (λ o. c.args.out.now.items ++ option_bytes g.T.Spelled.spell o) (sym c.in-None.is)

pub returns-in_ok-push-in-None-clause-is : goal.returns-in_ok-push-in-None-clause-is
returns-in_ok-push-in-None-clause-is g c = subst (λ o. IsOption g.T.Spelled.is o) (sym c.in-None.is) (is_absent g.T.Spelled.is)

pub returns-in_ok-push_form-in-Some-clause-ok : goal.returns-in_ok-push_form-in-Some-clause-ok
returns-in_ok-push_form-in-Some-clause-ok g c =
    c.in_ok-push_form-in-Some.ensures.ok ∙ option_present g.T.Spelled.spell c.in-Some.value c.args.out.now.items
    ∙ ap (λ o. c.args.out.now.items ++ option_bytes g.T.Spelled.spell o) (sym c.in-Some.is)

pub returns-in_ok-push_form-in-Some-clause-is : goal.returns-in_ok-push_form-in-Some-clause-is
returns-in_ok-push_form-in-Some-clause-is g c =
    subst (λ o. IsOption g.T.Spelled.is o) (sym c.in-Some.is)
    (is_present g.T.Spelled.is c.in-Some.value c.in_ok-push_form-in-Some.ensures.is)
