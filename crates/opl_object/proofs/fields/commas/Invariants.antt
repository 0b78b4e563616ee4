use Rattle.std.proofs.Common.{◌≡◌, take}
use Rattle.std.specs.List.{count_by}
use Rattle.opl_object.specs.Fields.{is}
use Rattle.opl_object.proofs.fields.commas.Given as goal

-- the commas so far
abbrev pub invariant-loop-byte : goal.invariant-loop-byte
invariant-loop-byte l = l.count ≡ count_by (is 44) (take l.byte-index l.text)
