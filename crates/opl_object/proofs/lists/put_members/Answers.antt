use Rattle.std.proofs.Common.{◌≡◌, ◌≤◌, length, take, refl, arith}
use Rattle.std.proofs.lemmas.List.{take_all}
use Rattle.std.proofs.lemmas.Option.{slice_get_read}
use Rattle.opl_object.specs.Lists.{member_text, members_text}
use Rattle.opl_object.proofs.Puts.{comma-err, item-err}
use Rattle.opl_object.proofs.lists.put_members.Goals as goal

pub returns-in_err-put_comma-clause-err : goal.returns-in_err-put_comma-clause-err
unfolding members_text
returns-in_err-put_comma-clause-err g c =
    comma-err member_text c.args.members.now c.loop-index.index c.index-members-index.result
    (slice_get_read c.args.members.now (length c.args.members.now) c.loop-index.index c.index-members-index.result refl
    (omega arith) c.index-members-index.is) _ _ c.loop-index.invariant.taken
    c.from_residual.result _ c.in_err-put_comma.ensures.err

pub returns-in_err-put_member-clause-err : goal.returns-in_err-put_member-clause-err
unfolding members_text
returns-in_err-put_member-clause-err g c =
    item-err member_text c.args.members.now c.loop-index.index c.index-members-index.result
    (slice_get_read c.args.members.now (length c.args.members.now) c.loop-index.index c.index-members-index.result refl
    (omega arith) c.index-members-index.is) _ _ c.loop-index.invariant.taken
    c.from_residual-in_err-put_member.result _ _ c.in_ok-put_comma.ensures.ok c.in_err-put_member.ensures.err

pub returns-clause-ok : goal.returns-clause-ok
unfolding members_text
returns-clause-ok g c =
    let whole : length c.args.members.now ≤ c.loop-index.index = omega arith in
    let all : take c.loop-index.index c.args.members.now ≡ c.args.members.now = take_all c.loop-index.index c.args.members.now whole in
    rw all at c.loop-index.invariant.taken
