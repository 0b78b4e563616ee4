use Rattle.demo_map.specs.Demo.{demo_first, demo_input, demo_second}
use Rattle.demo_map.proofs.DemoKeys.{first_few, first_rises, input_few, input_rises, second_few, second_rises}
use Rattle.demo_map.proofs.DemoLines.{first_fits, input_fits, second_fits}
use Rattle.demo_map.proofs.WrittenFile.{read_again}
use Rattle.demo_map.proofs.laws.demo_is_read.Goals as goal

pub returns : goal.returns
returns c = record {
  input = λ count few. read_again (demo_input count) (input_fits count few) (input_rises count few) (input_few count few);
  first = λ count few. read_again (demo_first count) (first_fits count few) (first_rises count few) (first_few count few);
  second = λ count few. read_again (demo_second count) (second_fits count few) (second_rises count few) (second_few count few);
}
