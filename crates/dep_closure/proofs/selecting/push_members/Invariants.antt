use Rattle.std.proofs.Common.{◌≡◌, ◌++◌, take}
use Rattle.std.specs.List.{AllByRecursion}
use Rattle.osm_base.specs.values.Key.{IsId}
use Rattle.osm_base.specs.map.Listers.{member_ids}
use Rattle.dep_closure.proofs.selecting.push_members.Given as goal

-- the ids of the members so far
abbrev pub invariant-loop-member : goal.invariant-loop-member
invariant-loop-member l = record {
  members : l.ids.items ≡ l.initial.ids.items ++ member_ids l.kind (take l.member-index l.members);
  ids : AllByRecursion IsId l.initial.ids.items → AllByRecursion IsId l.ids.items;
}
