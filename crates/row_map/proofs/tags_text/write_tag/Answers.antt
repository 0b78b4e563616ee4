use Rattle.std.proofs.Common.{◌++◌, ◌∷◌, [], ◌∙◌, ap, sym, append_assoc, encode_utf8_all}
use Rattle.std.specs.Str.{chars}
use Rattle.std.proofs.lemmas.Str.{encodes-chars}
use Rattle.json.specs.Token as tokens
use Rattle.row_map.proofs.tags_text.write_tag.Goals as goal

pub returns-clause-member : goal.returns-clause-member
returns-clause-member c =
    let old = c.args.writer.now.tokens in
    c.in_ok-string.ensures.ok
    ∙ ap (λ front. front ++ tokens.string c.args.value.now ∷ []) c.in_ok-key.ensures.ok
    ∙ append_assoc old (tokens.key c.args.key.now ∷ []) (tokens.string c.args.value.now ∷ [])
    ∙ ap (λ key. old ++ tokens.key key ∷ tokens.string c.args.value.now ∷ []) (sym (encodes-chars c.args.key.now c.utf8.key))
    ∙ ap (λ value. old ++ tokens.key (encode_utf8_all (chars c.args.key.now)) ∷ tokens.string value ∷ [])
    (sym (encodes-chars c.args.value.now c.utf8.value))
