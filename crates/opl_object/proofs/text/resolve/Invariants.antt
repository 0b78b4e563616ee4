use Rattle.std.proofs.Common.{◌≡◌, [], length}
use denote.Text.{Utf8}
use denote.Shadow.{shadow}
use Rattle.std.specs.List.{slice_split}
use Rattle.std.specs.String.{string_bytes}
use Rattle.opl_object.specs.Fields.{is}
use Rattle.opl_object.specs.Text.{resolved}
use Rattle.opl_object.proofs.text.resolve.Given as goal

-- what is left leads to the same text behind what is there
abbrev pub invariant-loop-plain : goal.invariant-loop-plain
invariant-loop-plain l = shadow (Utf8 l.rest)
    × (resolved (string_bytes l.text) (slice_split (is 37) l.rest) ≡ resolved [] (slice_split (is 37) l.fn.spelled))

abbrev pub decreases-loop-plain : goal.decreases-loop-plain
decreases-loop-plain l = length l.rest
