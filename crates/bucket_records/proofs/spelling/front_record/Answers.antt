-- A record begins with its key, and behind it with its value.
use Rattle.std.proofs.Common.{refl}
use Rattle.bucket_records.proofs.Fronts.{begins_record, recordless_key, recordless_value}
use Rattle.bucket_records.proofs.spelling.front_record.Goals as goal

pub returns-in_default-clause-none : goal.returns-in_default-clause-none
returns-in_default-clause-none c _ = recordless_key c.args.bytes.now (c.in_default.ensures.none refl)

pub returns-in-Some-front_counted-clause-found : goal.returns-in-Some-front_counted-clause-found
returns-in-Some-front_counted-clause-found c =
    begins_record c.args.bytes.now c.in-Some.key c.in-Some.behind.now c.in-Some-front_counted.value.now c.in-Some-front_counted.rest.now
    c.in-Some.ensures.number c.in-Some-front_counted.ensures.counted

pub returns-in-None-clause-none : goal.returns-in-None-clause-none
returns-in-None-clause-none c _ =
    recordless_value c.args.bytes.now c.in-Some.key c.in-Some.behind.now c.in-Some.ensures.number (c.in-None.ensures.none refl)
