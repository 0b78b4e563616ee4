use Rattle.std.proofs.Common.{◌∙◌, rules}
use Rattle.updater.proofs.OptionLaws.{buckets_fit}
use Rattle.updater.proofs.commands.import.form.Goals as goal

pub returns : goal.returns
returns c = record {
  read = record {
    read = search rules;
    fits = (
      c.in_ok-store.ensures.fits,
      c.if-files-ne2.false,
      buckets_fit c.in_ok-own.own c.from.result c.in_ok-own.ensures.range (c.from.ensures ∙ c.unwrap_or.ensures),
    );
  };
}
