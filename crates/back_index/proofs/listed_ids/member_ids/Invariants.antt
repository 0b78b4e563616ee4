use Rattle.std.proofs.Common.{◌≡◌, take}
use Rattle.osm_base.specs.map.Listers.{member_ids}
use Rattle.back_index.proofs.listed_ids.member_ids.Given as goal

-- the ids of the members so far
abbrev pub invariant-loop-member : goal.invariant-loop-member
invariant-loop-member l = l.ids.items ≡ member_ids l.kind (take l.member-index l.members)
