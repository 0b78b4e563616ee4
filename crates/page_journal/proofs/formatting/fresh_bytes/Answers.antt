use Rattle.page_journal.proofs.Fresh.{fresh}
use Rattle.page_journal.proofs.formatting.fresh_bytes.Goals as goal

pub returns : goal.returns
returns c =
    let one = c.put_field.ensures in
    let two = c.put_field-2.ensures in
    let three = c.put_field-3.ensures in
    fresh c.zeros-bytes.result c.put_field.new.bytes c.put_field-2.new.bytes c.put_field-3.new.bytes c.zeros-bytes.ensures.long
    c.zeros-bytes.ensures.zero
    one.long one.here one.others two.long two.here two.others three.long three.here three.others
