use Rattle.std.proofs.Common.{arith}
use Rattle.std.proofs.lemmas.Str.Pattern.{split_parts}
use Rattle.style_read.proofs.Texts.{around_first-split}
use Rattle.style_read.proofs.text.around_first_equals.Goals as goal

pub returns : goal.returns
returns c = record {
  parts = around_first-split 61 c.args.text.now c.split_once.result
      (split_parts 61 c.args.text.now c.split_once.result c.split_once.ensures.cases (omega arith));
}
