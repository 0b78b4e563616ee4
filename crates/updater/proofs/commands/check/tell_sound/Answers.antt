use Rattle.std.proofs.Common.{◌∙◌, sym, refl}
use Rattle.update_flow.specs.Updater.{handle_of}
use Rattle.updater.proofs.CheckRuns.{outdated_checked, sound_told, written_so}
use Rattle.updater.proofs.commands.check.tell_sound.Goals as goal

pub returns-then-old-clause-goes_on : goal.returns-then-old-clause-goes_on
returns-then-old-clause-goes_on g c = λ old start done state head.
    outdated_checked start done 0 old (g.I.Inputs.view c.args.inputs.now) (handle_of c.args.store.now) (g.S.Sink.view c.args.out.now)
    state head (sym c.old.ensures.is ∙ c.if-old.true)

pub returns-clause-goes_on : goal.returns-clause-goes_on
returns-clause-goes_on g c = λ old start done state head.
    sound_told start done 0 old (g.I.Inputs.view c.args.inputs.now) (handle_of c.args.store.now) (g.S.Sink.view c.args.out.now)
    (sym c.old.ensures.is ∙ c.if-old.false) refl c.as_bytes.result.now (g.S.Sink.view c.tell.new.out) c.tell.result c.as_bytes.ensures.value
    c.tell.ensures.ok c.tell.ensures.err c.tell.ensures.alone c.tell.ensures.cause state head

pub returns-clause-alone : goal.returns-clause-alone
returns-clause-alone g c = written_so c.tell.result c.tell.ensures.alone
