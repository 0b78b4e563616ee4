use Rattle.std.proofs.Common.{◌≡◌, ℕ, true, not, take}
use Rattle.std.specs.List.{list_all}
use Rattle.opl_object.specs.Text.{is_reserved}
use Rattle.opl_object.proofs.text.is_plain.Given as goal

-- no byte so far is reserved
abbrev pub invariant-loop-byte : goal.invariant-loop-byte
invariant-loop-byte l = list_all {X = ℕ} (λ byte. not (is_reserved byte)) (take l.byte-index l.text) ≡ true
