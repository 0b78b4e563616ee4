use Rattle.opl_object.proofs.Escaping.{escape_text-placed}
use Rattle.opl_object.proofs.escapes.write_escape.Goals as goal

pub returns-clause-written : goal.returns-clause-written
returns-clause-written c =
    escape_text-placed c.args.code c.zeros_len-start.result c.digit.result c.digit-2.result c.digit-3.result c.digit-4.result
    c.digit-5.result c.digit-6.result
    c.digit.ensures.digit c.digit-2.ensures.digit c.digit-3.ensures.digit c.digit-4.ensures.digit c.digit-5.ensures.digit
    c.digit-6.ensures.digit
    c.zeros_len-start.ensures.len
