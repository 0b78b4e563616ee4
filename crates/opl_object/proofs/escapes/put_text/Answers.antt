use Rattle.std.proofs.Common.{◌++◌, sym, subst, arith}
use Rattle.std.specs.Str.{chars}
use Rattle.std.specs.Io.KnownBytes.{Appends}
use Rattle.std.proofs.lemmas.Str.{scalars-chars, IsUtf8-past_char}
use Rattle.outside.specs.Bytes.{AppendsPrefix}
use Rattle.opl_object.specs.Escapes.{written_text, escape_text}
use Rattle.opl_object.proofs.Puts.{Appends-then, AppendsPrefix-then, AppendsPrefix-more, err-by}
use Rattle.opl_object.proofs.Escaping.{written_front, written_step, written_end, shorter_step}
use Rattle.opl_object.proofs.escapes.put_text.Goals as goal

pub returns-in_err-put_all-clause-text : goal.returns-in_err-put_all-clause-text
returns-in_err-put_all-clause-text g c = scalars-chars c.args.text.now c.utf8.text

pub returns-in_default-clause-text : goal.returns-in_default-clause-text
returns-in_default-clause-text g c = scalars-chars c.args.text.now c.utf8.text

pub returns-in_err-put_escape-clause-text : goal.returns-in_err-put_escape-clause-text
returns-in_err-put_escape-clause-text g c = scalars-chars c.args.text.now c.utf8.text

pub returns-in_err-put_all-clause-err : goal.returns-in_err-put_all-clause-err
returns-in_err-put_all-clause-err g c =
    let bare = c.split_bare.result.0.now in
    let behind = c.split_bare.result.1.now in
    err-by c.from_residual.result _ _ _ (c.loop-code.invariant.2 _ (
    subst (AppendsPrefix _ _) (sym (written_front c.loop-code.rest.now bare behind c.split_bare.ensures.whole c.split_bare.ensures.bare))
    (AppendsPrefix-more _ _ bare (written_text (chars behind)) (rw c.as_bytes.ensures.value at c.in_err-put_all.ensures.err))
    ))

pub returns-in_default-clause-ok : goal.returns-in_default-clause-ok
returns-in_default-clause-ok g c =
    let bare = c.split_bare.result.0.now in
    let behind = c.split_bare.result.1.now in
    c.loop-code.invariant.1 _ (
    subst (Appends _ _) (sym (written_end c.loop-code.rest.now bare behind c.split_bare.ensures.whole c.split_bare.ensures.bare
    c.in_default.ensures.first))
    (rw c.as_bytes.ensures.value at c.in_ok-put_all.ensures.ok)
    )

pub returns-in_err-put_escape-clause-err : goal.returns-in_err-put_escape-clause-err
returns-in_err-put_escape-clause-err g c =
    let bare = c.split_bare.result.0.now in
    let behind = c.split_bare.result.1.now in
    let escape = escape_text c.in-Some.code in
    let later = written_text (chars c.in-Some.after.now) in
    err-by c.from_residual-in_err-put_escape.result _ _ _ (c.loop-code.invariant.2 _ (
    subst (AppendsPrefix _ _) (sym (written_step c.loop-code.rest.now bare behind c.split_bare.ensures.whole c.split_bare.ensures.bare
    c.in-Some.code c.in-Some.after.now c.in-Some.ensures.first c.split_bare.ensures.text c.split_bare.ensures.stop))
    (AppendsPrefix-then _ _ _ bare (escape ++ later) (rw c.as_bytes.ensures.value at c.in_ok-put_all.ensures.ok)
    (AppendsPrefix-more _ _ escape later c.in_err-put_escape.ensures.err))
    ))

pub loop-code-smaller : goal.loop-code-smaller
loop-code-smaller g c =
    shorter_step c.loop-code.rest.now c.split_bare.result.0.now c.split_bare.result.1.now c.split_bare.ensures.whole
    c.split_bare.ensures.bare
    c.in-Some.code c.in-Some.after.now c.in-Some.ensures.first c.split_bare.ensures.text c.split_bare.ensures.stop

pub loop-code-preserved : goal.loop-code-preserved
loop-code-preserved g c =
    let bare = c.split_bare.result.0.now in
    let behind = c.split_bare.result.1.now in
    let escape = escape_text c.in-Some.code in
    let later = written_text (chars c.in-Some.after.now) in
    let whole = written_step c.loop-code.rest.now bare behind c.split_bare.ensures.whole c.split_bare.ensures.bare
    c.in-Some.code c.in-Some.after.now c.in-Some.ensures.first c.split_bare.ensures.text c.split_bare.ensures.stop in
    let front = rw c.as_bytes.ensures.value at c.in_ok-put_all.ensures.ok in (
      IsUtf8-past_char behind c.in-Some.after.now c.in-Some.code c.split_bare.ensures.text c.in-Some.ensures.first,
      λ end rest. c.loop-code.invariant.1 end (subst (Appends _ end) (sym whole)
          (Appends-then _ _ end bare (escape ++ later) front (Appends-then _ _ end escape later c.in_ok-put_escape.ensures.ok rest))),
      λ end rest. c.loop-code.invariant.2 end (subst (AppendsPrefix _ end) (sym whole)
          (AppendsPrefix-then _ _ end bare (escape ++ later) front
          (AppendsPrefix-then _ _ end escape later c.in_ok-put_escape.ensures.ok rest))),
      omega (arith, c.loop-code.invariant.3, c.in_ok-put_all.ensures.cause.later, c.in_ok-put_escape.ensures.cause.later),
    )
