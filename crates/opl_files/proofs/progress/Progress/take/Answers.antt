use Rattle.std.proofs.Common.{◌++◌, List, ℕ, sym, ◌∙◌, ap, arith}
use Rattle.opl_files.specs.Keeps.{kept_all}
use Rattle.opl_files.specs.Progress.{entries_left}
use Rattle.opl_files.proofs.progress.Progress.take.Goals as goal

pub loop-rest-preserved : goal.loop-rest-preserved
loop-rest-preserved g c = record {
  ready = c.in_ok-used.ensures.ready;
  entries = λ later. c.loop-rest.invariant.entries later ∙ c.in_ok-used.ensures.entries later
      ∙ ap (λ (rest : List ℕ). kept_all g.K.Keeper.after c.take_line.new.keeper
      (entries_left c.args.limits.now c.take_line.new.self (rest ++ later))) (sym c.split_at.ensures.back);
  shorter = omega (arith, c.split_at.ensures.back_len, c.loop-rest.invariant.shorter);
  at_most = omega (arith, c.in_ok-used.ensures.room, c.loop-rest.invariant.at_most);
  room = λ _. omega (arith, c.in_ok-used.ensures.room, c.loop-rest.invariant.at_most);
}
