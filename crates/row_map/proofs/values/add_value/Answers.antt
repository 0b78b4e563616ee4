use Rattle.std.proofs.Common.{◌++◌, ◌∷◌, [], ◌∙◌, ap, sym, map, List, ℕ}
use Rattle.std.specs.Borrow.{Bor}
use Rattle.std.proofs.lemmas.List.{map-append}
use Rattle.std.proofs.lemmas.Str.{encodes-chars}
use Rattle.row_map.proofs.values.add_value.Goals as goal

pub returns : goal.returns
returns c =
    let now = λ (value : Bor (List ℕ)). value.now in
    let old = c.args.values.now.items in
    record {
      ok = ap (map now) c.in_ok-push.ensures.items ∙ map-append now old (c.args.value ∷ [])
          ∙ ap (λ text. map now old ++ text ∷ []) (sym (encodes-chars c.args.value.now c.utf8.value));
    }
