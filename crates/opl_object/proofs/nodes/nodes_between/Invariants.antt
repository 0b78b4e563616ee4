use Rattle.std.proofs.Common.{◌≡◌, ◌+◌, [], length}
use Rattle.std.specs.List.{slice_split}
use Rattle.std.specs.Option.{option_map, option_map_or}
use Rattle.opl_object.specs.Fields.{is, later_pieces}
use Rattle.opl_object.specs.Why.{each_piece}
use Rattle.opl_object.specs.Nodes.{with_node}
use Rattle.opl_object.proofs.nodes.nodes_between.Given as goal

-- the pieces that are left lead to the same, behind what is there
abbrev pub invariant-loop-left : goal.invariant-loop-left
invariant-loop-left l = each_piece with_node l.nodes.items (later_pieces (is 44) (option_map (λ text. text.now) l.left))
    ≡ each_piece with_node [] (slice_split (is 44) l.fn.text)

abbrev pub decreases-loop-left : goal.decreases-loop-left
decreases-loop-left l = option_map_or (λ text. length text.now + 1) l.left 0
