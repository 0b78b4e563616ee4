-- Which lines may stand where in a file of blocks.
use Rattle.std.specs.Prelude.{Bool, true, false}
use Rattle.delta_feed.specs.declared.place.Place.{Place}
use Rattle.delta_feed.specs.declared.place.Place.TheVariants as places
use Rattle.delta_feed.specs.declared.place.Verb.{Verb}
use Rattle.delta_feed.specs.declared.place.Verb.TheVariants as verbs

-- a block begins between blocks, with `full` or `delta`; behind `full` stands its style; then rows, which a delta may also take
-- away, and the end; and where the bytes of a line go on, they go on in a line `more`
abbrev pub may_stand : Place → Verb → Bool
may_stand places.Between verbs.Full = true
may_stand places.Between verbs.Delta = true
may_stand places.Opened verbs.Style = true
may_stand places.Full verbs.Set = true
may_stand places.Full verbs.End = true
may_stand places.Delta verbs.Set = true
may_stand places.Delta verbs.Del = true
may_stand places.Delta verbs.End = true
may_stand places.Begun verbs.More = true
may_stand place _ = false
