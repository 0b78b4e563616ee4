use Rattle.std.proofs.Common.{◌∙◌, ap}
use Rattle.std.specs.Str.{chars}
use Rattle.run_promise.proofs.AsciiTexts.{chars-fault_text}
use Rattle.run_promise.proofs.fault.fault_line.Goals as goal

pub returns : goal.returns
returns c = record {
  line = c.from_string.ensures.characters ∙ ap chars c.in_ok-to_string.ensures.ok ∙ chars-fault_text c.args.fault.now;
}
