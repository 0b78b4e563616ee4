use Rattle.std.proofs.Common.{rules}
use Rattle.updater.proofs.commands.feed.form.Goals as goal

pub returns : goal.returns
returns c = record {
  read = record {
    read = search rules;
    fits = c.in_ok-store.ensures.fits;
  };
}
