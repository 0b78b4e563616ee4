use Rattle.update_flow.specs.Updater.{handle_of}
use Rattle.update_flow.proofs.SoundCarried.{sound_told, standing_open}
use Rattle.update_flow.proofs.updater.Updater.open_is_sound.Goals as goal

pub returns : goal.returns
returns g c = record {
  standing = λ held opened. standing_open held (handle_of c.args.self.now) opened;
  told = λ state bytes opened tells. sound_told state (handle_of c.args.self.now) bytes opened tells;
}
