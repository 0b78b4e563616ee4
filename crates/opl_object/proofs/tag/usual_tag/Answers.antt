use Rattle.std.proofs.Common.{arith, sym}
use Rattle.opl_object.specs.declared.ascii.TheConstants.{COMMA, EQUALS}
use Rattle.opl_object.proofs.SpelledLists.{nil_is}
use Rattle.opl_object.proofs.UsualTags.{behind_is, usual-tag, usual-last, usual-more}
use Rattle.opl_object.proofs.tag.usual_tag.Goals as goal

pub returns-then-is_empty-clause-pieces : goal.returns-then-is_empty-clause-pieces
returns-then-is_empty-clause-pieces c =
    let equals = behind_is EQUALS c.split_plain.result.1.now c.in_ok-behind.field-0.now (omega arith) c.in_ok-behind.ensures.value in
    usual-last c.split_plain.result.0.now c.split_plain-2.result.0.now c.split_plain.ensures.plain c.split_plain-2.ensures.plain
    c.args.text.now c.split_plain.result.1.now c.in_ok-behind.field-0.now c.split_plain-2.result.1.now
    c.split_plain.ensures.whole equals c.split_plain-2.ensures.whole (nil_is c.split_plain-2.result.1.now (sym c.if-is_empty.ensures))

pub returns-then-is_empty-clause-tag : goal.returns-then-is_empty-clause-tag
returns-then-is_empty-clause-tag c =
    usual-tag c.split_plain.result.0.now c.split_plain-2.result.0.now c.split_plain.ensures.plain c.split_plain-2.ensures.plain

pub returns-clause-pieces : goal.returns-clause-pieces
returns-clause-pieces c =
    let equals = behind_is EQUALS c.split_plain.result.1.now c.in_ok-behind.field-0.now (omega arith) c.in_ok-behind.ensures.value in
    let comma = behind_is COMMA c.split_plain-2.result.1.now c.in_ok-later.later.now (omega arith) c.in_ok-later.ensures.value in
    usual-more c.split_plain.result.0.now c.split_plain-2.result.0.now c.split_plain.ensures.plain c.split_plain-2.ensures.plain
    c.args.text.now c.split_plain.result.1.now c.in_ok-behind.field-0.now c.split_plain-2.result.1.now
    c.split_plain.ensures.whole equals c.split_plain-2.ensures.whole c.in_ok-later.later.now comma

pub returns-clause-tag : goal.returns-clause-tag
returns-clause-tag c =
    usual-tag c.split_plain.result.0.now c.split_plain-2.result.0.now c.split_plain.ensures.plain c.split_plain-2.ensures.plain
