use Rattle.std.proofs.Common.{List, ℕ, Some, ap, ◌∙◌}
use Rattle.std.specs.Ordering.{nat_cmp}
use Rattle.std.specs.Cmp.Lexicographic.{slice_cmp}
use Rattle.std.specs.FinMap as finite
use Rattle.std.specs.Option.{option_map}
use Rattle.std.specs.Str.{chars}
use Rattle.tag_rows.proofs.trimmed_change.one_tag.Goals as goal

pub returns : goal.returns
returns c =
    let key = chars c.args.key.now in
    record {
      tag = ap Some c.in_ok-one.ensures.tag
          ∙ ap (option_map (λ (own : List ℕ). finite.insert (finite.empty {R = slice_cmp nat_cmp}) key own)) c.in-Some.ensures.value;
    }
