use Rattle.std.proofs.Common.{◌≡◌, [], length}
use Rattle.std.specs.List.{slice_split}
use Rattle.opl_object.proofs.Resolving.{kept_none}
use Rattle.opl_object.proofs.text.check_text.Given as goal
use Rattle.opl_object.specs.Fields.{is}
use Rattle.opl_object.specs.Text.{resolved}
use denote.Shadow.{shadow}
use denote.Text.{Utf8}

-- what is left is a text where all is
abbrev pub invariant-loop-escape : goal.invariant-loop-escape
invariant-loop-escape l = shadow (Utf8 l.rest)
    × (kept_none (resolved [] (slice_split (is 37) l.rest)) ≡ kept_none (resolved [] (slice_split (is 37) l.fn.spelled)))

abbrev pub decreases-loop-escape : goal.decreases-loop-escape
decreases-loop-escape l = length l.rest
