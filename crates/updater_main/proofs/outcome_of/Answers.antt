use Rattle.std.proofs.Common.{map}
use Rattle.std.specs.String.{string_bytes}
use Rattle.run_promise.specs.declared.fault.Fault.TheVariants.{Usage}
use Rattle.updater.specs.Command.{command}
use Rattle.updater_main.proofs.WrongUse.{usage-none}
use Rattle.updater_main.proofs.outcome_of.Goals as goal

pub returns-clause-usage : goal.returns-clause-usage
returns-clause-usage g c =
    usage-none (command (map string_bytes c.args.words.now)) c.run.result.fault (λ none. (c.run.ensures.usage none).usage)
    (λ own is. (c.run.ensures.runs own is).cause Usage)
