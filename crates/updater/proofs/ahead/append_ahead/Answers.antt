use Rattle.std.proofs.Common.{subst}
use Rattle.std.specs.Result.{result_err}
use Rattle.update_flow.specs.Updater.{handle_of}
use Rattle.run_promise.proofs.AheadLaws.{none_ahead}
use Rattle.updater.specs.Ahead.{AppendsLocally}
use Rattle.updater.proofs.AheadRuns.{each_in_turn}
use Rattle.updater.proofs.LocalLaws.{on_ok_so}
use Rattle.updater.proofs.ahead.append_ahead.Goals as goal

pub returns-then-ahead-eq0-clause-ahead : goal.returns-then-ahead-eq0-clause-ahead
returns-then-ahead-eq0-clause-ahead g c = record {
  seen = g.I.Inputs.view c.append_files.new.inputs;
  read = none_ahead _ (g.I.Inputs.view c.append_files.new.inputs);
  leads = c.append_files.ensures.leads;
}

pub returns-in-None-clause-ahead : goal.returns-in-None-clause-ahead
returns-in-None-clause-ahead g c =
    let none = c.in-None.ensures.none in
    each_in_turn g.I.Inputs.view g.S.Sink.view c.args.bounds.now c.args.files.first c.args.files.count c.args.ahead
    (result_err c.append_files-in-None.result) c.args.inputs.now c.append_beside.new.inputs
    (g.I.Inputs.view c.append_files-in-None.new.inputs) c.args.store.now c.append_beside.new.store
    (handle_of c.append_files-in-None.new.store) c.args.out.now c.append_beside.new.out (g.S.Sink.view c.append_files-in-None.new.out)
    none.0 none.1 none.2 c.append_files-in-None.ensures.leads

pub returns-in-None-clause-local : goal.returns-in-None-clause-local
returns-in-None-clause-local g c =
    let none = c.in-None.ensures.none in
    let bounds = c.args.bounds.now in
    let first = c.args.files.first in
    let count = c.args.files.count in
    let after = handle_of c.append_files-in-None.new.store in
    on_ok_so c.append_files-in-None.result _ _ (λ local.
    subst (λ own. AppendsLocally bounds first count (g.I.Inputs.view c.args.inputs.now) (handle_of own) after) none.1
    (subst (λ own. AppendsLocally bounds first count (g.I.Inputs.view own) (handle_of c.append_beside.new.store) after) none.0 local))
    c.append_files-in-None.ensures.local
