use Rattle.std.specs.Prelude.{codes}
use Rattle.opl_object.specs.Escapes.{written_text}
use Rattle.opl_object.specs.Lists.{key_text}
use Rattle.opl_object.proofs.Puts.{err-of-three, err-second}
use Rattle.opl_object.proofs.lists.put_member.Goals as goal

pub returns-in_err-put_key-clause-err : goal.returns-in_err-put_key-clause-err
returns-in_err-put_key-clause-err g c =
    err-of-three c.from_residual.result _ _ (key_text c.args.member.now.key) (codes "@")
    (written_text c.args.member.now.role) c.in_err-put_key.ensures.err

pub returns-in_err-put_all-clause-err : goal.returns-in_err-put_all-clause-err
returns-in_err-put_all-clause-err g c =
    err-second c.from_residual-in_err-put_all.result _ _ _ (key_text c.args.member.now.key) (codes "@")
    (written_text c.args.member.now.role) c.in_ok-put_key.ensures.ok c.in_err-put_all.ensures.err
