use Rattle.std.proofs.Common.{List, ℕ, ◌++◌, ◌∙◌, ap, sym}
use Rattle.std.specs.Prelude.{encode_utf8_all}
use Rattle.std.proofs.lemmas.Str.{encodes-chars}
use Rattle.updater.proofs.whole_text.push_text.Goals as goal

pub returns : goal.returns
returns c = record {
  bytes = c.in_ok-extend_from_slice.ensures.items
      ∙ ap (λ (bytes : List ℕ). c.args.out.now.items ++ bytes)
      (c.as_bytes.ensures.value ∙ sym (encodes-chars c.as_str.result.now c.as_str.utf8)
      ∙ ap encode_utf8_all c.as_str.ensures.characters);
}
