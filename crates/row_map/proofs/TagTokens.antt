-- The tokens of tags that are written one after another.
use Rattle.std.proofs.Common.{◌≡◌, ◌≤◌, ℕ, ◌+◌, Some, List, [], ◌∷◌, ◌++◌, drop, length, encode_utf8_all, sym, ap, ◌∙◌, append_assoc}
use Rattle.std.specs.List.{slice_get}
use Rattle.json.specs.Token as tokens
use Rattle.json.specs.Token.{Token}
use Rattle.json.specs.Tree.{members_tokens}
use Rattle.serde_json.specs.Written.{members_outline}
use Rattle.osm_base.specs.values.Tags.{TagPairs}
use Rattle.row_rules.specs.Cell.{members_of}
use Rattle.row_map.proofs.Lists.{drop_at, drop_past}

abbrev left : TagPairs → List Token
left tags = members_tokens (members_outline (members_of tags))

-- one more tag is written
pub written-more : (tags : TagPairs) (i : ℕ) (key value : List ℕ) (old new all : List Token) → slice_get tags i ≡ Some (key, value)
    → new ≡ old ++ tokens.key (encode_utf8_all key) ∷ tokens.string (encode_utf8_all value) ∷ []
    → old ++ left (drop i tags) ≡ all → new ++ left (drop (i + 1) tags) ≡ all
written-more tags i key value old new all is step before =
    ap (λ front. front ++ left (drop (i + 1) tags)) step
    ∙ append_assoc old (tokens.key (encode_utf8_all key) ∷ tokens.string (encode_utf8_all value) ∷ []) (left (drop (i + 1) tags))
    ∙ ap (λ rest. old ++ left rest) (sym (drop_at tags i (key, value) is))
    ∙ before

-- all are written
pub written-all : (tags : TagPairs) (i : ℕ) (old all : List Token) → length tags ≤ i → old ++ left (drop i tags) ≡ all
    → old ++ tokens.end_object ∷ [] ≡ all
written-all tags i old all passed before = ap (λ rest. old ++ left rest) (sym (drop_past tags i passed)) ∙ before
