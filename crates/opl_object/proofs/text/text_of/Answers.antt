use Rattle.std.proofs.Common.{◌∙◌, ap, sym}
use Rattle.opl_object.specs.Text.{is_plain}
use Rattle.opl_object.proofs.Resolving.{bytes_of-plain}
use Rattle.opl_object.proofs.text.text_of.Goals as goal

pub returns-then-is_plain : goal.returns-then-is_plain
returns-then-is_plain c = record {
  bytes =
      bytes_of-plain c.args.spelled.now (ap is_plain (sym c.as_bytes.ensures.value) ∙ sym c.is_plain.ensures.value ∙ c.if-is_plain.true);
}
