use Rattle.std.proofs.Common.{arith}
use Rattle.std.proofs.lemmas.List.{take-append-drop}
use Rattle.value_bytes.proofs.NumberLaws.{number_front, number_frontless}
use Rattle.value_bytes.proofs.numbers.front_number.Goals as goal

pub returns-then-bytes-lt8-clause-none : goal.returns-then-bytes-lt8-clause-none
returns-then-bytes-lt8-clause-none c none = number_frontless c.args.bytes.now c.if-bytes-lt8.true

pub returns-clause-number : goal.returns-clause-number
returns-clause-number c =
    let bytes = c.args.bytes.now in
    let front = c.split_at.ensures.front in
    let back = c.split_at.ensures.back in
    number_front bytes c.bytes_value.result c.split_at.result.1.now
    (record { is = omega arith; bytes_are = cc (take-append-drop 8 bytes, front, back, c.bytes_value.ensures.number) })
