use Rattle.std.proofs.Common.{false}
use Rattle.std.proofs.lemmas.List.{get_or-replicate}
use Rattle.opl_object.specs.Seen.{flag_of, stands}
use Rattle.opl_object.proofs.Letters.{flag_of_small}
use Rattle.opl_object.proofs.letter.Seen.new.Goals as goal

pub returns : goal.returns
unfolding stands
returns c = record { none = λ letter. get_or-replicate 16 (flag_of letter) false false (flag_of_small letter) }
