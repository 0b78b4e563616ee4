use Rattle.std.specs.Prelude.{codes}
use Rattle.opl_object.specs.Lists.{nodes_text}
use Rattle.opl_object.proofs.Puts.{err-first, ok-after, err-after, cause-after}
use Rattle.opl_object.proofs.written.put_node_field.Goals as goal

pub returns-in_err-put_all-clause-err : goal.returns-in_err-put_all-clause-err
returns-in_err-put_all-clause-err g c =
    err-first c.from_residual.result _ _ (codes " N") (nodes_text c.args.nodes.now) c.in_err-put_all.ensures.err

pub returns-clause-ok : goal.returns-clause-ok
returns-clause-ok g c =
    ok-after c.put_nodes.result _ _ _ (codes " N") (nodes_text c.args.nodes.now) c.in_ok-put_all.ensures.ok c.put_nodes.ensures.ok

pub returns-clause-err : goal.returns-clause-err
returns-clause-err g c =
    err-after c.put_nodes.result _ _ _ (codes " N") (nodes_text c.args.nodes.now) c.in_ok-put_all.ensures.ok c.put_nodes.ensures.err

pub returns-clause-cause : goal.returns-clause-cause
returns-clause-cause g c =
    cause-after c.put_nodes.result _ _ _ c.in_ok-put_all.ensures.cause.later c.put_nodes.ensures.cause
