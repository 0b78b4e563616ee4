use Rattle.opl_object.specs.Text.{is_reserved}
use Rattle.opl_object.proofs.Cuts.{boundary_before}
use Rattle.opl_object.proofs.Fronts.{front_free}
use Rattle.opl_object.proofs.SpelledTexts.{reserved_small}
use Rattle.opl_object.proofs.tag.split_plain.Goals as goal

pub split_at-requires : goal.split_at-requires
split_at-requires c =
    rw (c.plain_len.ensures.len, c.as_bytes.ensures.value) (boundary_before is_reserved c.args.text.now reserved_small)

pub returns-clause-plain : goal.returns-clause-plain
returns-clause-plain c =
    rw (c.split_at.ensures.front, c.plain_len.ensures.len, c.as_bytes.ensures.value) (front_free is_reserved c.args.text.now)
