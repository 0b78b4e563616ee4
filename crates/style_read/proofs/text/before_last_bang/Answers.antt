use Rattle.std.proofs.Common.{arith}
use Rattle.std.proofs.lemmas.Str.Pattern.{strip_suffix_char}
use Rattle.style_read.proofs.Texts.{before_last-stripped}
use Rattle.style_read.proofs.text.before_last_bang.Goals as goal

pub returns : goal.returns
returns c = record {
  front = before_last-stripped 33 c.args.text.now c.strip_suffix.result
      (strip_suffix_char 33 c.args.text.now c.strip_suffix.result c.strip_suffix.ensures.cases (omega arith));
}
