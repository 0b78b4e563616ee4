use Rattle.std.proofs.Common.{◌≡◌, ◌++◌, drop}
use Rattle.std.specs.Prelude.{flat_map, codes}
use Rattle.std.specs.String.{string_bytes}
use Rattle.row_text.proofs.geometry.push_later.Given as goal

-- what is written, and then the text of the parts that are left, is the text of all
abbrev pub invariant-loop-part : goal.invariant-loop-part
invariant-loop-part g l =
    string_bytes l.out ++ flat_map (λ next. codes "," ++ g.T.Part.text next) (drop l.part-index l.parts)
    ≡ string_bytes l.initial.out ++ flat_map (λ next. codes "," ++ g.T.Part.text next) l.parts
