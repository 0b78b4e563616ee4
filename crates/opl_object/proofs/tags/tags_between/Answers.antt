use Rattle.std.proofs.Common.{Ok, refl, sym, ap, ◌∙◌}
use Rattle.opl_object.proofs.GatheredTags.{repeated_at_end, stopped_at_end, whole_at_end}
use Rattle.opl_object.proofs.tags.tags_between.Goals as goal

pub returns-in_default : goal.returns-in_default
returns-in_default c = record {
  tags = repeated_at_end c.add_pieces.new.list c.in_ok-fault.fault _ c.in_ok-fault.ensures.tags
      (λ once. let some = c.in_default.ensures.once.1 once in absurd (cc));
}

pub returns-in-Some-fault : goal.returns-in-Some-fault
returns-in-Some-fault c = record {
  tags = stopped_at_end c.add_pieces.new.list c.in_ok-fault.fault _ c.in_ok-fault.ensures.tags
      (c.in-Some.ensures.once.0 refl) c.in-Some-fault.why c.in-Some-fault.is;
}

pub returns-in-None : goal.returns-in-None
returns-in-None c = record {
  tags = whole_at_end c.add_pieces.new.list c.in_ok-fault.fault _ c.in_ok-fault.ensures.tags (c.in-Some.ensures.once.0 refl) c.in-None.is
      ∙ ap Ok (sym c.in-Some.ensures.tags);
}
