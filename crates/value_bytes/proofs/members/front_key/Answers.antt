use Rattle.std.proofs.Common.{refl}
use Rattle.value_bytes.proofs.MemberLaws.{key_front, key_no_byte, key_no_number, key_none}
use Rattle.value_bytes.proofs.members.front_key.Goals as goal

pub returns-in_default-clause-none : goal.returns-in_default-clause-none
returns-in_default-clause-none c none = key_no_byte c.args.bytes.now (c.in_default.ensures.none refl)

pub returns-in_default-front_number-clause-none : goal.returns-in_default-front_number-clause-none
returns-in_default-front_number-clause-none c none =
    key_no_number c.args.bytes.now c.in-Some.byte c.in-Some.behind.now c.in-Some.ensures.byte (c.in_default-front_number.ensures.none refl)

pub returns-in-Some-key_of-clause-key : goal.returns-in-Some-key_of-clause-key
returns-in-Some-key_of-clause-key c =
    key_front c.args.bytes.now c.in-Some.byte c.in-Some.behind.now c.in-Some-front_number.id c.in-Some-front_number.rest.now
    c.in-Some-key_of.key
    c.in-Some.ensures.byte c.in-Some-front_number.ensures.number c.in-Some-key_of.ensures.kind c.in-Some-key_of.ensures.id
    c.in-Some-key_of.ensures.is

pub returns-in-None-clause-none : goal.returns-in-None-clause-none
returns-in-None-clause-none c none =
    key_none c.args.bytes.now c.in-Some.byte c.in-Some.behind.now c.in-Some-front_number.id c.in-Some-front_number.rest.now
    c.in-Some.ensures.byte c.in-Some-front_number.ensures.number (c.in-None.ensures.none refl)
