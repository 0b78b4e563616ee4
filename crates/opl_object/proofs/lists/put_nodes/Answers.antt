use Rattle.std.proofs.Common.{◌≡◌, ◌≤◌, length, take, arith}
use Rattle.std.proofs.lemmas.List.{take_all}
use Rattle.std.proofs.lemmas.Option.{slice_get-get_or}
use Rattle.opl_object.specs.Lists.{node_text, nodes_text}
use Rattle.opl_object.proofs.Puts.{comma-err, item-err}
use Rattle.opl_object.proofs.lists.put_nodes.Goals as goal

pub returns-in_err-put_comma-clause-err : goal.returns-in_err-put_comma-clause-err
unfolding nodes_text
returns-in_err-put_comma-clause-err g c =
    comma-err node_text c.args.nodes.now c.loop-index.index _
    (slice_get-get_or c.args.nodes.now c.loop-index.index 0 (omega arith)) _ _ c.loop-index.invariant.taken
    c.from_residual.result _ c.in_err-put_comma.ensures.err

pub returns-in_err-put_key-clause-err : goal.returns-in_err-put_key-clause-err
unfolding nodes_text
returns-in_err-put_key-clause-err g c =
    item-err node_text c.args.nodes.now c.loop-index.index _
    (slice_get-get_or c.args.nodes.now c.loop-index.index 0 (omega arith)) _ _ c.loop-index.invariant.taken
    c.from_residual-in_err-put_key.result _ _ c.in_ok-put_comma.ensures.ok (rw c.new.ensures.fields at c.in_err-put_key.ensures.err)

pub returns-clause-ok : goal.returns-clause-ok
unfolding nodes_text
returns-clause-ok g c =
    let whole : length c.args.nodes.now ≤ c.loop-index.index = omega arith in
    let all : take c.loop-index.index c.args.nodes.now ≡ c.args.nodes.now = take_all c.loop-index.index c.args.nodes.now whole in
    rw all at c.loop-index.invariant.taken
