use Rattle.std.proofs.Common.{◌+◌, ◌*◌, length}
use Rattle.opl_files.proofs.waiting.+fn-read_with_others-join_mut+arg3+read_with_others.Given as goal

abbrev pub decreases-join_mut+arg3 : goal.decreases-join_mut+arg3
decreases-join_mut+arg3 g l = 2 * length l.others.now + 1

abbrev pub decreases-read_with_others : goal.decreases-read_with_others
decreases-read_with_others g l = 2 * length l.pieces.now
