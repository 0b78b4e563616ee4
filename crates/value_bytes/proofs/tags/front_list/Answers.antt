use Rattle.std.proofs.Common.{◌≡◌, ◌+◌, sym, subst, refl, arith}
use Rattle.std.specs.Str.{chars}
use Rattle.value_bytes.specs.Texts.{text_bytes, IsText}
use Rattle.value_bytes.specs.Tags.{tag_bytes, IsTag}
use Rattle.value_bytes.proofs.Fronts.{front_both, frontless_first, frontless_second}
use Rattle.value_bytes.proofs.ListLaws.{HasRead, read_more, read_refused, read_all}
use Rattle.value_bytes.proofs.tags.front_list.Goals as goal

pub returns-in_default-clause-refused : goal.returns-in_default-clause-refused
returns-in_default-clause-refused c =
    read_refused tag_bytes IsTag c.args.count c.args.bytes.now c.loop.counter c.loop.list c.loop.rest.now c.loop.invariant c.loop-test.true
    (frontless_first text_bytes IsText text_bytes IsText c.loop.rest.now (c.in_default.ensures.none refl))

pub returns-in_default-front_text-clause-refused : goal.returns-in_default-front_text-clause-refused
returns-in_default-front_text-clause-refused c =
    read_refused tag_bytes IsTag c.args.count c.args.bytes.now c.loop.counter c.loop.list c.loop.rest.now c.loop.invariant c.loop-test.true
    (frontless_second text_bytes IsText text_bytes IsText c.loop.rest.now
    (chars c.in-Some.key.now) c.in-Some.behind.now c.in-Some.ensures.text
    (c.in_default-front_text.ensures.none refl))

pub loop-preserved : goal.loop-preserved
loop-preserved c =
    let more = read_more tag_bytes IsTag c.args.count c.args.bytes.now c.loop.counter c.loop.list c.loop.rest.now
    (chars c.in-Some.key.now, chars c.in-Some-front_text.value.now) c.in-Some-front_text.behind.now c.loop.invariant c.loop-test.true
    (front_both text_bytes IsText text_bytes IsText c.loop.rest.now (chars c.in-Some.key.now) c.in-Some.behind.now
    (chars c.in-Some-front_text.value.now) c.in-Some-front_text.behind.now c.in-Some.ensures.text c.in-Some-front_text.ensures.text) in
    subst (λ l. HasRead tag_bytes IsTag c.args.count c.args.bytes.now (c.loop.counter + 1) l c.in-Some-front_text.behind.now)
    (sym c.in_ok-push.ensures.ok) more

pub returns-clause-tags : goal.returns-clause-tags
returns-clause-tags c =
    let at : c.loop.counter ≡ c.args.count = omega arith in
    read_all tag_bytes IsTag c.args.count c.args.bytes.now c.loop.list c.loop.rest.now
    (subst (λ n. HasRead tag_bytes IsTag c.args.count c.args.bytes.now n c.loop.list c.loop.rest.now) at c.loop.invariant)
