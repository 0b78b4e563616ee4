use Rattle.std.specs.Prelude.{codes}
use Rattle.std.specs.Str.{chars}
use Rattle.opl_object.specs.Escapes.{written_text}
use Rattle.opl_object.proofs.Puts.{err-of-three, err-second, err-third}
use Rattle.opl_object.proofs.lists.put_tag.Goals as goal

pub returns-in_err-put_text-clause-err : goal.returns-in_err-put_text-clause-err
returns-in_err-put_text-clause-err g c =
    err-of-three c.from_residual.result _ _ (written_text (chars c.args.key.now)) (codes "=")
    (written_text (chars c.args.value.now)) c.in_err-put_text.ensures.err

pub returns-in_err-put_all-clause-err : goal.returns-in_err-put_all-clause-err
returns-in_err-put_all-clause-err g c =
    err-second c.from_residual-in_err-put_all.result _ _ _ (written_text (chars c.args.key.now)) (codes "=")
    (written_text (chars c.args.value.now)) c.in_ok-put_text.ensures.ok c.in_err-put_all.ensures.err

pub returns-in_err-put_text-2-clause-err : goal.returns-in_err-put_text-2-clause-err
returns-in_err-put_text-2-clause-err g c =
    err-third c.from_residual-in_err-put_text-2.result _ _ _ _ (written_text (chars c.args.key.now)) (codes "=")
    (written_text (chars c.args.value.now))
    c.in_ok-put_text.ensures.ok c.in_ok-put_all.ensures.ok c.in_err-put_text-2.ensures.err
