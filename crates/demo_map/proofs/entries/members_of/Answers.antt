use Rattle.std.proofs.Common.{◌≡◌, ◌+◌, ◌-◌, ◌<◌, ◌++◌, [], ◌∷◌, ◌∙◌, arith}
use Rattle.demo_map.specs.Demo.{member_of, members_of}
use Rattle.demo_map.proofs.PartLists.{added, members_of-next}
use Rattle.demo_map.proofs.RouteTags.{no_role}
use Rattle.demo_map.proofs.entries.members_of.Goals as goal

pub loop-id-preserved : goal.loop-id-preserved
loop-id-preserved c =
    let id = c.loop-id.id in
    let past = c.args.first + c.args.count in
    let inside : id < past = omega arith in
    let now : c.push.new.self ≡ c.loop-id.members ++ member_of id ∷ [] =
    c.in_ok-push.ensures.ok ∙ rw (c.new.ensures.fields, c.from.ensures, c.in_ok-from_str.ensures.characters, no_role) in
    added c.loop-id.members (member_of id ∷ []) (members_of (id + 1) (past - (id + 1))) c.push.new.self (members_of id (past - id))
    (members_of c.args.first c.args.count) c.loop-id.invariant (members_of-next id past inside) now
