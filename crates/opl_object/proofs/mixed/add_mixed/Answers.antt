use Rattle.std.proofs.Common.{◌++◌, sym, ap, ◌∙◌}
use Rattle.opl_object.specs.Mixed.{tags_in}
use Rattle.opl_object.specs.Tags.{gathered}
use Rattle.opl_object.proofs.MixedTags.{gathered-permuted}
use Rattle.opl_object.proofs.mixed.add_mixed.Goals as goal

pub returns : goal.returns
returns c = record {
  tags = c.in_ok-fault.ensures.tags
      ∙ gathered-permuted c.find_tags.new.found.items c.sort.new.found.items c.in_ok-fault.fault c.sort.ensures.permutation
      ∙ ap (λ own. gathered (tags_in own) c.in_ok-fault.fault) (sym c.deref.ensures.value)
      ∙ ap (λ tags. gathered tags c.in_ok-fault.fault)
      (sym (c.in_ok-add_found.ensures.tags ∙ ap (λ own. own ++ tags_in c.deref.result.now) c.requires));
}
