use Rattle.std.proofs.Common.{refl}
use Rattle.std.specs.Str.{chars}
use Rattle.value_bytes.proofs.MemberLaws.{member_front, member_no_key, member_no_role}
use Rattle.value_bytes.proofs.members.MemberSpelled.front.Goals as goal

pub returns-in-None-clause-refused : goal.returns-in-None-clause-refused
returns-in-None-clause-refused c = member_no_key c.args.bytes.now (c.in-None.ensures.none refl)

pub returns-in_default-clause-refused : goal.returns-in_default-clause-refused
returns-in_default-clause-refused c =
    member_no_role c.args.bytes.now c.in-Some.found.0 c.in-Some.found.1.now c.in-Some.ensures.key (c.in_default.ensures.none refl)

pub returns-clause-value : goal.returns-clause-value
returns-clause-value c =
    member_front c.args.bytes.now c.in-Some.found.0 c.in-Some.found.1.now
    (chars c.in-Some-front_text.role.now) c.in-Some-front_text.rest.now _
    c.in-Some.ensures.key c.in-Some-front_text.ensures.text refl c.in_ok-role.ensures.characters
