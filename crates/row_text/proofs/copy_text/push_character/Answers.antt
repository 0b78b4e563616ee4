use Rattle.std.proofs.Common.{rules}
use Rattle.row_text.proofs.Escapes.{plain_character}
use Rattle.row_text.proofs.copy_text.push_character.Goals as goal

pub returns-in_ok-push-in-None : goal.returns-in_ok-push-in-None
returns-in_ok-push-in-None c = record {
  text =
      rw (plain_character c.args.character (c.in-None.ensures.none (search rules))) (search rules);
}
