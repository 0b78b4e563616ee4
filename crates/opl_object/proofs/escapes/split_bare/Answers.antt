use Rattle.opl_object.specs.Escapes.{is_bare}
use Rattle.std.proofs.lemmas.Str.{IsUtf8-drop}
use Rattle.opl_object.proofs.Cuts.{boundary_behind}
use Rattle.opl_object.proofs.Escaping.{bare-ascii, bare_front, bare_stop}
use Rattle.opl_object.proofs.escapes.split_bare.Goals as goal

pub split_at-requires : goal.split_at-requires
split_at-requires c =
    rw (c.bare_len.ensures.len, c.as_bytes.ensures.value) (boundary_behind is_bare c.args.text.now bare-ascii c.utf8.text)

pub returns-clause-bare : goal.returns-clause-bare
returns-clause-bare c =
    rw (c.split_at.ensures.front, c.bare_len.ensures.len, c.as_bytes.ensures.value) (bare_front c.args.text.now)

pub returns-clause-stop : goal.returns-clause-stop
returns-clause-stop c =
    rw (c.split_at.ensures.back, c.bare_len.ensures.len, c.as_bytes.ensures.value) (bare_stop c.args.text.now)

pub returns-clause-text : goal.returns-clause-text
returns-clause-text c =
    rw (c.split_at.ensures.back, c.bare_len.ensures.len, c.as_bytes.ensures.value)
    (IsUtf8-drop c.args.text.now _ c.utf8.text (boundary_behind is_bare c.args.text.now bare-ascii c.utf8.text))
