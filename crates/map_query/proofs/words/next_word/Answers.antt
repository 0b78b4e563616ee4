use Rattle.std.proofs.Common.{sym, ◌∙◌}
use Rattle.map_query.proofs.Cutting.{next_alone, next_empty, next_some}
use Rattle.map_query.proofs.words.next_word.Goals as goal

pub returns-in-None : goal.returns-in-None
returns-in-None c = record { word = next_alone c.args.text.now c.in-None.ensures.words }

pub returns-then-is_empty : goal.returns-then-is_empty
returns-then-is_empty c = record {
  word =
      next_empty c.args.text.now c.in-Some.word.now c.in-Some.rest.now c.in-Some.ensures.words
      (sym c.is_empty.ensures ∙ c.if-is_empty.true);
}

pub returns-else-is_empty : goal.returns-else-is_empty
returns-else-is_empty c = record {
  word =
      next_some c.args.text.now c.in-Some.word.now c.in-Some.rest.now c.in-Some.ensures.words
      (sym c.is_empty.ensures ∙ c.if-is_empty.false);
}
