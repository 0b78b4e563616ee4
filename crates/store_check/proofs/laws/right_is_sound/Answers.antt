use Rattle.store_check.proofs.Right.{right_has_ids, right_is_sound}
use Rattle.store_check.proofs.laws.right_is_sound.Goals as goal

pub returns : goal.returns
returns c = record { sound = right_is_sound; ids = right_has_ids }
