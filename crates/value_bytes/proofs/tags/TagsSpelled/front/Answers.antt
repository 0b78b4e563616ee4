use Rattle.std.proofs.Common.{refl, sym, subst}
use Rattle.value_bytes.specs.Forms.{IsFront}
use Rattle.value_bytes.specs.Tags.{tag_bytes, IsTag, tags_bytes, AreTags}
use Rattle.value_bytes.proofs.Fronts.{needs_more}
use Rattle.value_bytes.proofs.ListLaws.{list_front, list_frontless, list_refused}
use Rattle.value_bytes.proofs.TagLaws.{tags_front, tags_frontless, tags_unseen}
use Rattle.value_bytes.proofs.tags.TagsSpelled.front.Goals as goal

pub returns-in_default-clause-refused : goal.returns-in_default-clause-refused
returns-in_default-clause-refused c =
    tags_frontless c.args.bytes.now (list_frontless tag_bytes IsTag c.args.bytes.now (c.in_default.ensures.none refl))

pub returns-in-Err-clause-refused : goal.returns-in-Err-clause-refused
returns-in-Err-clause-refused c =
    needs_more c.in-Err.fault
    (λ none. tags_frontless c.args.bytes.now
    (list_refused tag_bytes IsTag c.args.bytes.now c.in-Some.count c.in-Some.behind.now c.in-Some.ensures.number none))
    c.in-Err.ensures.refused

pub returns-in-Some-into_rising-clause-value : goal.returns-in-Some-into_rising-clause-value
returns-in-Some-into_rising-clause-value c =
    subst (λ tags. IsFront tags_bytes AreTags c.args.bytes.now tags c.in-Ok.found.1.now) (sym c.in-Some-into_rising.ensures.tags)
    (tags_front c.args.bytes.now c.in-Ok.found.0 c.in-Ok.found.1.now (c.in-Some-into_rising.ensures.rising.0 refl)
    (list_front tag_bytes IsTag c.args.bytes.now c.in-Some.count c.in-Some.behind.now c.in-Ok.found.0 c.in-Ok.found.1.now
    c.in-Some.ensures.number c.in-Ok.ensures.tags))

pub returns-in-None-clause-refused : goal.returns-in-None-clause-refused
returns-in-None-clause-refused c =
    tags_unseen c.args.bytes.now c.in-Ok.found.0 c.in-Ok.found.1.now (λ rising. absurd (cc (c.in-None.ensures.rising.1 rising)))
    (list_front tag_bytes IsTag c.args.bytes.now c.in-Some.count c.in-Some.behind.now c.in-Ok.found.0 c.in-Ok.found.1.now
    c.in-Some.ensures.number c.in-Ok.ensures.tags)
