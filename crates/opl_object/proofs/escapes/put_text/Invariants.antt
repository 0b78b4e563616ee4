use Rattle.std.proofs.Common.{ℕ, List, ◌≤◌, Option, length}
use denote.Text.{Utf8}
use denote.Shadow.{shadow}
use Rattle.std.specs.Io.KnownBytes.{Appends}
use Rattle.std.specs.Str.{chars}
use Rattle.outside.specs.Bytes.{AppendsPrefix}
use Rattle.opl_object.specs.Escapes.{written_text}
use Rattle.opl_object.proofs.escapes.put_text.Given as goal

-- whoever takes what is left takes all, a front of what is left is a front of all, and no fault is forgotten
abbrev pub invariant-loop-code : goal.invariant-loop-code
invariant-loop-code g l =
    shadow (Utf8 l.rest)
    × ((after : Option (List ℕ)) → Appends (g.S.Sink.view l.out).taken after (written_text (chars l.rest))
    → Appends (g.S.Sink.view l.initial.out).taken after (written_text (chars l.text)))
    × ((after : Option (List ℕ)) → AppendsPrefix (g.S.Sink.view l.out).taken after (written_text (chars l.rest))
    → AppendsPrefix (g.S.Sink.view l.initial.out).taken after (written_text (chars l.text)))
    × ((g.S.Sink.view l.initial.out).faults ≤ (g.S.Sink.view l.out).faults)

abbrev pub decreases-loop-code : goal.decreases-loop-code
decreases-loop-code g l = length l.rest
