use Rattle.std.specs.Str.{chars}
use Rattle.tag_rows.proofs.WayLaws.{no-rows}
use Rattle.tag_rows.proofs.way_rows.WayRows.new.Goals as goal

pub invariant_of-result : goal.invariant_of-result
invariant_of-result c = no-rows (chars c.args.key.now) c.new.result c.new-2.result c.new.ensures.empty c.new-2.ensures.empty
