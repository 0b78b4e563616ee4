use Rattle.std.proofs.Common.{◌-◌}
use Rattle.std.specs.Str.{chars}
use Rattle.osm_base.specs.values.TagOrder.{pairs_of}
use Rattle.osm_base.proofs.TagSearch.{IsBetween}
use Rattle.osm_base.proofs.values.tags.search.Given as goal

-- the key is above all before the low place, and below all from the high place on
abbrev pub invariant-loop-low : goal.invariant-loop-low
invariant-loop-low l = IsBetween (chars l.key) (pairs_of l.text l.spans) l.low l.high

abbrev pub decreases-loop-low : goal.decreases-loop-low
decreases-loop-low l = l.high - l.low
