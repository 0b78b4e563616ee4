use Rattle.std.proofs.Common.{arith}
use Rattle.value_bytes.proofs.tags.with_room.Goals as goal

pub overflow_mul-of_lengths : goal.overflow_mul-of_lengths
overflow_mul-of_lengths c = omega arith

pub overflow_sub-of_texts : goal.overflow_sub-of_texts
overflow_sub-of_texts c = omega arith
