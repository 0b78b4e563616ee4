use Rattle.std.proofs.Common.{◌≡◌, ℕ, rules, ap, sym, ◌∙◌, subst, length}
use Rattle.std.specs.Prelude.{IsTrue}
use Rattle.std.specs.FinMap as map
use Rattle.osm_base.proofs.TagSearch.{length-len}
use Rattle.osm_base.proofs.values.tags.Tags.is_empty.Goals as goal

pub returns : goal.returns
returns c =
    let size : length c.parts.result.1.now ≡ map.len c.args.self.now =
    length-len c.parts.result.0.now c.parts.result.1.now c.parts.ensures.tags ∙ ap map.len (sym c.parts.ensures.map) in
    let P : ℕ → Type 0 = λ n. (IsTrue c.is_empty.result → n ≡ 0) × (n ≡ 0 → IsTrue c.is_empty.result) in
    let spans : P (length c.parts.result.1.now) = search rules in
    record { none = subst P size spans }
