use Rattle.std.proofs.Common.{◌≡◌, ◌∙◌, ℕ, List, Option, Some, None, ap, subst, sym}
use Rattle.std.specs.Result.{result_err}
use Rattle.run_promise.specs.declared.fault.Fault.{Fault}
use Rattle.run_promise.specs.declared.fault.Outcome.{Outcome}
use Rattle.run_promise.specs.CommandOf.{CommandOf}
use Rattle.run_promise.specs.Runs.{Runs}
use Rattle.run_promise.specs.World.{World, world}
use Rattle.updater.specs.Command.{command_view}
use Rattle.updater.proofs.running.run.Goals as goal

-- two commands that are told alike are one
told-by : CommandOf → Option CommandOf → CommandOf
told-by other None = other
told-by other (Some command) = command

same-command : (one other : CommandOf) → Some one ≡ Some other → one ≡ other
unfolding told-by
same-command one other is = ap (told-by one) is

-- a run of a command with a fault is one of the same command with the same fault
carried : (asks : List ℕ → Type 0) (old new : World) (one other : CommandOf) (fault told : Option Fault) → one ≡ other → fault ≡ told
    → Runs one asks old new fault → Runs other asks old new told
carried asks old new one other fault told same is runs =
    subst (λ (own : Option Fault). Runs other asks old new own) is (subst (λ (own : CommandOf). Runs own asks old new fault) same runs)

pub returns-clause-runs : goal.returns-clause-runs
returns-clause-runs g c own is =
    let outcome : c.of-2.result.fault ≡ c.err.result = ap (λ (own : Outcome). own.fault) c.of-2.ensures.status in
    let told : result_err c.run_command.result ≡ c.of-2.result.fault = sym c.err.ensures.value ∙ sym outcome in
    let same : command_view c.in-Some.command ≡ own = same-command (command_view c.in-Some.command) own (c.in-Some.ensures.command ∙ is) in
    carried (λ (asked : List ℕ). g.I.Inputs.reads c.args.inputs.now asked c.run_command.new.inputs)
    (world (g.I.Inputs.view c.args.inputs.now) (g.D.Disk.view c.args.disk.now) (g.S.Sink.view c.args.out.now))
    (world (g.I.Inputs.view c.run_command.new.inputs) (g.D.Disk.view c.run_command.new.disk) (g.S.Sink.view c.run_command.new.out))
    (command_view c.in-Some.command) own (result_err c.run_command.result) c.of-2.result.fault same told c.run_command.ensures.runs
