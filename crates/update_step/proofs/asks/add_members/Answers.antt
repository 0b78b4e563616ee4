use Rattle.std.proofs.Common.{◌++◌, List, append_assoc, ap, sym, take, ◌∙◌}
use Rattle.std.specs.List.{flat_map}
use Rattle.update_step.specs.Gather.{Ask}
use Rattle.update_step.specs.Rounds.{member_asked}
use Rattle.update_step.proofs.KeyedLists.{flat-more}
use Rattle.update_step.proofs.asks.add_members.Goals as goal

pub loop-member-preserved : goal.loop-member-preserved
loop-member-preserved c =
    let own = c.member-item.result in
    let front : List Ask = flat_map member_asked (take c.loop-member.member-index c.args.members.now) in
    c.in_ok-add_member.ensures.added
    ∙ ap (λ (asks : List Ask). asks ++ member_asked own) c.loop-member.invariant
    ∙ append_assoc c.args.asks.now.items front (member_asked own)
    ∙ ap (λ (rest : List Ask). c.args.asks.now.items ++ rest) (sym (flat-more member_asked c.args.members.now c.loop-member.member-index
    own own c.loop-member-test.true c.member-item.is))
