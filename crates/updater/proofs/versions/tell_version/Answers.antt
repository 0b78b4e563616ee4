use Rattle.std.proofs.Common.{List, ℕ, ◌++◌, ◌∙◌, subst}
use Rattle.std.specs.Prelude.{codes}
use Rattle.std.specs.Fmt.{decimal}
use Rattle.std.specs.Io.KnownBytes.{Appends}
use Rattle.updater.proofs.Deeds.{front_longer, took_lines}
use Rattle.updater.proofs.versions.tell_version.Goals as goal

pub returns-in-Err-clause-err : goal.returns-in-Err-clause-err
returns-in-Err-clause-err g c = front_longer (g.S.Sink.view c.args.out.now).taken (g.S.Sink.view c.tell.new.out).taken (codes "version ")
    (decimal c.args.changes ++ codes "\n") c.in-Err.ensures.err

pub returns-clause-err : goal.returns-clause-err
returns-clause-err g c =
    took_lines (g.S.Sink.view c.args.out.now).taken (g.S.Sink.view c.tell.new.out).taken (g.S.Sink.view c.tell-2.new.out).taken
    (g.S.Sink.view c.tell-3.new.out).taken (codes "version ") (decimal c.args.changes) (codes "\n") c.tell-3.result
    c.in_default.ensures.ok (subst (λ (text : List ℕ).
    Appends (g.S.Sink.view c.tell.new.out).taken (g.S.Sink.view c.tell-2.new.out).taken text)
    (c.as_bytes.ensures.value ∙ c.format.ensures.text) c.in_default-tell.ensures.ok) c.tell-3.ensures.err
