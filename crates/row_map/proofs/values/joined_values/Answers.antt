use Rattle.std.proofs.Common.{◌++◌, ◌∷◌, ◌∙◌, ap, sym}
use Rattle.std.specs.List.{flat_map}
use Rattle.std.specs.Str.{chars}
use Rattle.std.specs.String.{string_bytes}
use Rattle.std.proofs.lemmas.List.{append-nil}
use Rattle.row_rules.specs.declared.cell.TheConstants.{COMMA}
use Rattle.row_map.proofs.Lists.{drop_past, join-commas}
use Rattle.row_map.proofs.values.joined_values.Goals as goal

pub returns : goal.returns
returns c =
    let bytes = string_bytes c.loop-value.text in
    let none = drop_past c.args.rest.now c.loop-value.value-index c.loop-value-test.false in
    let all = sym (append-nil bytes) ∙ ap (λ rest. bytes ++ flat_map (λ value. COMMA ∷ value.now) rest) (sym none)
    ∙ c.loop-value.invariant in
    record {
      text = c.from_string.ensures.characters
          ∙ ap chars (all ∙ ap (λ front. front ++ flat_map (λ value. COMMA ∷ value.now) c.args.rest.now) c.in_ok-text.ensures.ok
          ∙ join-commas c.args.first.now c.args.rest.now);
    }
