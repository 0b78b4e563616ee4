use Rattle.std.proofs.Common.{◌≡◌, ◌+◌, length}
use Rattle.std.specs.FinMap as map
use Rattle.std.specs.List.{slice_split}
use Rattle.std.specs.Option.{option_map, option_map_or}
use Rattle.opl_object.specs.declared.ascii.TheConstants.{COMMA}
use Rattle.opl_object.specs.Fields.{is, later_pieces}
use Rattle.opl_object.specs.Mixed.{tags_in}
use Rattle.opl_object.specs.Why.{◌>>=◌, each_piece}
use Rattle.opl_object.specs.Tags.{with_piece, with_tags}
use Rattle.opl_object.proofs.mixed.find_tags.Given as goal

-- the pieces that are left lead to the same, behind the tags that were found
abbrev pub invariant-loop-left : goal.invariant-loop-left
invariant-loop-left l = each_piece with_piece map.empty (slice_split (is COMMA) l.fn.text)
    ≡ (with_tags map.empty (tags_in l.found.items) >>= λ tags.
    each_piece with_piece tags (later_pieces (is COMMA) (option_map (λ text. text.now) l.left)))

abbrev pub decreases-loop-left : goal.decreases-loop-left
decreases-loop-left l = option_map_or (λ text. length text.now + 1) l.left 0
