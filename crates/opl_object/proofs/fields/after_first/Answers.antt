use Rattle.std.proofs.lemmas.Str.{IsCharBoundary-after_ascii}
use Rattle.opl_object.proofs.Cuts.{some_first}
use Rattle.opl_object.proofs.fields.after_first.Goals as goal

pub split_at-requires : goal.split_at-requires
split_at-requires c = IsCharBoundary-after_ascii c.args.text.now 0 c.utf8.text (some_first c.args.text.now c.requires.some) c.requires.ascii
