use Rattle.std.proofs.Common.{ap}
use Rattle.std.specs.Cmp.{nat_cmp_total}
use Rattle.std.specs.FinMap as finite
use Rattle.std.specs.FinMap.{nat_cmp-IsAntisymmetric}
use Rattle.std.specs.Ordering.{nat_cmp}
use Rattle.update_step.specs.Gather.{gathered_in, said_by}
use Rattle.update_step.proofs.Asking.{before-put}
use Rattle.update_step.proofs.Trees.{put_id}
use Rattle.update_step.proofs.answers.StoreAnswers.put_place.Goals as goal

pub returns : goal.returns
returns c =
    let kept = finite.get (finite.from_entries {R = nat_cmp} c.args.self.now.places.entries) in
    let new = finite.get (finite.from_entries {R = nat_cmp} c.insert.new.self.entries) in
    let put = before-put nat_cmp_total nat_cmp-IsAntisymmetric kept c.args.id c.args.place (said_by c.args.self.now.change.now).places new
    c.requires.anew (put_id c.args.self.now.places c.insert.new.self c.args.id c.args.place c.in_ok-insert.ensures.updates) in
    record { ok = ap (λ places. record (gathered_in c.args.self.now) { places = places }) (λ i other. put other i) }
