use Rattle.store_check.proofs.Sound.{sound_is_right}
use Rattle.store_check.proofs.laws.sound_is_right.Goals as goal

pub returns : goal.returns
returns c = record {
  right = λ style image objects nodes ways relations sound ids read. sound_is_right style image objects sound ids nodes ways relations read;
}
