use Rattle.std.proofs.Common.{◌≡◌, ◌++◌, ◌∷◌, drop}
use Rattle.std.specs.List.{flat_map}
use Rattle.std.specs.String.{string_bytes}
use Rattle.row_rules.specs.declared.cell.TheConstants.{COMMA}
use Rattle.row_map.proofs.values.joined_values.Given as goal

-- what is joined, and then the values that are left, each behind a comma
abbrev pub invariant-loop-value : goal.invariant-loop-value
invariant-loop-value l =
    string_bytes l.text ++ flat_map (λ value. COMMA ∷ value.now) (drop l.value-index l.rest) ≡ string_bytes l.initial.text
    ++ flat_map (λ value. COMMA ∷ value.now) l.rest
