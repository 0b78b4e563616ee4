use Rattle.opl_object.proofs.Puts.{cause-after, object-err_first, object-ok, object-err, object-sound}
use Rattle.opl_object.proofs.written.put_object.Goals as goal

pub returns-in_err-put_tag_field-clause-err : goal.returns-in_err-put_tag_field-clause-err
returns-in_err-put_tag_field-clause-err g c =
    object-err_first c.from_residual.result c.args.object.now c.tags_in.result.now c.tags_in.ensures.tags _ _
    c.in_err-put_tag_field.ensures.err

pub returns-clause-ok : goal.returns-clause-ok
returns-clause-ok g c =
    object-ok c.put_own.result c.args.object.now c.tags_in.result.now c.tags_in.ensures.tags _ _ _ c.in_ok-put_tag_field.ensures.ok
    c.put_own.ensures.ok

pub returns-clause-err : goal.returns-clause-err
returns-clause-err g c =
    object-err c.put_own.result c.args.object.now c.tags_in.result.now c.tags_in.ensures.tags _ _ _ c.in_ok-put_tag_field.ensures.ok
    c.put_own.ensures.err

pub returns-clause-cause : goal.returns-clause-cause
returns-clause-cause g c =
    cause-after c.put_own.result _ _ _ c.in_ok-put_tag_field.ensures.cause.later c.put_own.ensures.cause

pub returns-clause-sound : goal.returns-clause-sound
returns-clause-sound g c =
    object-sound c.put_own.result c.args.object.now c.tags_in.result.now c.tags_in.ensures.tags c.in_ok-put_tag_field.ensures.texts
    c.put_own.ensures.sound
