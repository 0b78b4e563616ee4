use Rattle.std.proofs.Common.{rules, ap, ◌∙◌}
use Rattle.std.specs.Prelude.{encode_utf8_all}
use Rattle.std.proofs.lemmas.Str.{encodes-chars}
use Rattle.row_text.proofs.table.table_text.Goals as goal

pub returns : goal.returns
returns c = record { text = ap encode_utf8_all c.from_string.ensures.characters ∙ encodes-chars _ (search rules) ∙ search rules }
