use Rattle.std.proofs.Common.{sym, ◌∙◌}
use Rattle.map_query.proofs.Cutting.{last_more, last_empty, last_some}
use Rattle.map_query.proofs.words.last_word.Goals as goal

pub returns-in-Some : goal.returns-in-Some
returns-in-Some c = record { word = last_more c.args.text.now _ _ c.in-Some.ensures.words }

pub returns-then-is_empty : goal.returns-then-is_empty
returns-then-is_empty c = record { word = last_empty c.args.text.now c.in-None.ensures.words (sym c.is_empty.ensures ∙ c.if-is_empty.true) }

pub returns-else-is_empty : goal.returns-else-is_empty
returns-else-is_empty c = record { word = last_some c.args.text.now c.in-None.ensures.words (sym c.is_empty.ensures ∙ c.if-is_empty.false) }
