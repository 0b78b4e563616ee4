use Rattle.std.proofs.Common.{[], ◌∷◌}
use Rattle.std.specs.Prelude.{decimal}
use Rattle.opl_object.specs.Spelling.{kind_byte}
use Rattle.opl_object.proofs.Puts.{err-first}
use Rattle.opl_object.proofs.lists.put_key.Goals as goal

pub returns-in_err-put_all-clause-err : goal.returns-in_err-put_all-clause-err
returns-in_err-put_all-clause-err g c =
    rw (← c.key.view_is)
    (err-first c.from_residual.result _ _ (kind_byte c.key.inside.kind ∷ []) (decimal c.key.inside.id)
    (rw c.kind_byte.ensures.letter at c.in_err-put_all.ensures.err))
