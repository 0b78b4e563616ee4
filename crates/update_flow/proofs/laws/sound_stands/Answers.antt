use Rattle.update_flow.proofs.SoundKnown.{known_stands}
use Rattle.update_flow.proofs.laws.sound_stands.Goals as goal

pub returns : goal.returns
returns c = record { stands = λ bytes image held has sound known. known_stands bytes image held has sound known }
