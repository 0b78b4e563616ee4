use Rattle.update_flow.proofs.SoundStanding.{blank_is_sound, import_is_sound}
use Rattle.update_flow.proofs.laws.standing_is_sound.Goals as goal

pub returns : goal.returns
returns c = record { made = blank_is_sound; filled = import_is_sound }
