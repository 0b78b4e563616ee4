use Rattle.std.proofs.Common.{rules}
use Rattle.updater.proofs.OptionLaws.{ahead_fits}
use Rattle.updater.proofs.commands.append.form.Goals as goal

pub returns : goal.returns
returns c = record {
  read = record {
    read = search rules;
    fits = (c.in_ok-store.ensures.fits, ahead_fits c.in_ok-own.own c.unwrap_or.result c.in_ok-own.ensures.range c.unwrap_or.ensures);
  };
}
