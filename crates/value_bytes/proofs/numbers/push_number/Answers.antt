use Rattle.std.proofs.Common.{rules}
use Rattle.value_bytes.specs.Numbers.{number_bytes}
use Rattle.value_bytes.proofs.numbers.push_number.Goals as goal

pub returns : goal.returns
unfolding number_bytes
returns c = search rules
