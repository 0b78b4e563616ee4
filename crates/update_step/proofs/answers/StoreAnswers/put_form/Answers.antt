use Rattle.std.proofs.Common.{ap}
use Rattle.std.specs.FinMap as finite
use Rattle.osm_base.specs.values.KeyOrder.{key_cmp}
use Rattle.osm_base.proofs.KeyLaws.{key_cmp_total, key_cmp-IsAntisymmetric}
use Rattle.update_step.specs.Gather.{gathered_in}
use Rattle.update_step.specs.Named.{named_in}
use Rattle.update_step.proofs.Asking.{before-put}
use Rattle.update_step.proofs.Trees.{put_key}
use Rattle.update_step.proofs.answers.StoreAnswers.put_form.Goals as goal

pub returns : goal.returns
returns c =
    let kept = finite.get (finite.from_entries {R = key_cmp} c.args.self.now.forms.entries) in
    let new = finite.get (finite.from_entries {R = key_cmp} c.insert.new.self.entries) in
    let put = before-put key_cmp_total key_cmp-IsAntisymmetric kept c.args.key c.args.form (named_in c.args.self.now.change.now) new
    c.requires.anew (put_key c.args.self.now.forms c.insert.new.self c.args.key c.args.form c.in_ok-insert.ensures.updates) in
    record { ok = ap (λ forms. record (gathered_in c.args.self.now) { forms = forms }) (λ i other. put other i) }
