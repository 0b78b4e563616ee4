use Rattle.std.specs.Prelude.{codes}
use Rattle.opl_object.specs.Lists.{key_text}
use Rattle.opl_object.specs.Written.{fields_text, line_text}
use Rattle.opl_object.proofs.Puts.{Appends-then, err-of-three, err-second, err-third}
use Rattle.opl_object.proofs.WrittenLines.{line_spelled}
use Rattle.opl_object.proofs.written.write_entry.Goals as goal

pub returns-in_err-put_key-clause-err : goal.returns-in_err-put_key-clause-err
unfolding line_text
returns-in_err-put_key-clause-err g c =
    err-of-three c.from_residual.result _ _ (key_text c.args.entry.now.key) (fields_text c.args.entry.now.object)
    (codes "\n") c.in_err-put_key.ensures.err

pub returns-in_err-put_fields-clause-err : goal.returns-in_err-put_fields-clause-err
unfolding line_text
returns-in_err-put_fields-clause-err g c =
    err-second c.from_residual-in_err-put_fields.result _ _ _ (key_text c.args.entry.now.key) (fields_text c.args.entry.now.object)
    (codes "\n") c.in_ok-put_key.ensures.ok c.in_err-put_fields.ensures.err

pub returns-in_err-put_all-clause-err : goal.returns-in_err-put_all-clause-err
unfolding line_text
returns-in_err-put_all-clause-err g c =
    err-third c.from_residual-in_err-put_all.result _ _ _ _ (key_text c.args.entry.now.key) (fields_text c.args.entry.now.object)
    (codes "\n") c.in_ok-put_key.ensures.ok c.in_ok-put_fields.ensures.ok c.in_err-put_all.ensures.err

pub returns-clause-ok : goal.returns-clause-ok
unfolding line_text
returns-clause-ok g c =
    Appends-then _ _ _ (line_text c.args.entry.now) (codes "\n")
    (Appends-then _ _ _ (key_text c.args.entry.now.key)
    (fields_text c.args.entry.now.object) c.in_ok-put_key.ensures.ok c.in_ok-put_fields.ensures.ok) c.in_ok-put_all.ensures.ok

pub returns-clause-spelled : goal.returns-clause-spelled
returns-clause-spelled g c = line_spelled c.args.entry.now c.requires c.in_ok-put_key.ensures.id c.in_ok-put_fields.ensures.sound
