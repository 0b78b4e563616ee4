use Rattle.std.proofs.Common.{◌≡◌, sym, ◌∙◌, ap, bytes_eq}
use Rattle.std.proofs.lemmas.Map.Text.{is_eq-slice_cmp}
use Rattle.std.proofs.lemmas.Slice.Eq.{bytes_eq-Decides}
use Rattle.osm_base.proofs.values.same.TextSame.is_same.Goals as goal

pub returns : goal.returns
returns c =
    let own = c.args.self.now in
    let others = c.args.other.now in
    let same : c.is.result ≡ bytes_eq own others =
    c.is.ensures.same ∙ is_eq-slice_cmp own _ ∙ ap (bytes_eq own) c.as_str.ensures.characters in
    let decided = bytes_eq-Decides own others in
    record { same = (λ yes. decided.0 (sym same ∙ yes), λ equal. same ∙ decided.1 equal) }
