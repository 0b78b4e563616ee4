use Rattle.std.proofs.Common.{◌≡◌, drop}
use Rattle.std.proofs.Common.{map as each}
use Rattle.std.specs.Ordering.{nat_cmp}
use Rattle.std.specs.Cmp.Lexicographic.{slice_cmp}
use Rattle.std.specs.Str.{chars}
use Rattle.std.specs.FinMap as map
use Rattle.osm_base.specs.values.TagText.{pair_of}
use Rattle.osm_base.proofs.values.tags.value_in.Given as goal

-- the spans that are left answer as all of them
abbrev pub invariant-loop-span : goal.invariant-loop-span
invariant-loop-span l =
    map.find (slice_cmp nat_cmp) (chars l.key) (each (pair_of l.text) (drop l.span-index l.spans))
    ≡ map.find (slice_cmp nat_cmp) (chars l.key) (each (pair_of l.text) l.spans)
