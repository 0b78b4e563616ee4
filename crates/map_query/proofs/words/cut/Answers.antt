use Rattle.std.proofs.Common.{◌<◌, arith}
use Rattle.std.proofs.lemmas.Str.Pattern.{split_once_first}
use Rattle.map_query.proofs.Cutting.{cut_words}
use Rattle.map_query.proofs.words.cut.Goals as goal

space_is_ascii : 32 < 128
space_is_ascii = omega arith

pub returns : goal.returns
returns c = record {
  words = cut_words c.args.text.now c.split_once.result
      (split_once_first 32 c.args.text.now c.split_once.result c.split_once.ensures.cases space_is_ascii);
}
