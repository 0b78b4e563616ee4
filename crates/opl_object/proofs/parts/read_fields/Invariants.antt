use Rattle.std.proofs.Common.{◌≡◌, length}
use denote.Text.{Utf8}
use denote.Shadow.{shadow}
use Rattle.opl_object.specs.Fields.{fields_of}
use Rattle.opl_object.specs.Letter.{none_stood}
use Rattle.opl_object.specs.Parts.{nothing, with_field}
use Rattle.opl_object.specs.Seen.{stands}
use Rattle.opl_object.specs.Why.{each_piece}
use Rattle.opl_object.proofs.parts.read_fields.Given as goal

-- the fields that are left say the same, behind those before them
abbrev pub invariant-loop-field : goal.invariant-loop-field
invariant-loop-field l = shadow (Utf8 l.left)
    × (each_piece (with_field l.kind) (stands l.seen, l.parts) (fields_of l.left)
    ≡ each_piece (with_field l.kind) (none_stood, nothing) (fields_of l.fn.text))

abbrev pub decreases-loop-field : goal.decreases-loop-field
decreases-loop-field l = length l.left
