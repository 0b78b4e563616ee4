use Rattle.demo_map.proofs.WrittenFile.{read_again}
use Rattle.demo_map.proofs.laws.written_is_read.Goals as goal

pub returns : goal.returns
returns c = record { law = read_again }
