use Rattle.std.proofs.Common.{not, arith}
use Rattle.std.specs.Char.{is_ascii_digit}
use Rattle.opl_object.proofs.Fronts.{ends_stopped, digits_stop, whole_front}
use Rattle.opl_object.proofs.usual.number_end.Goals as goal

pub returns : goal.returns
returns c = record {
  end = record {
    place = ends_stopped (λ byte. not (is_ascii_digit byte)) c.args.text.now c.digits_len-end.result digits_stop
        c.digits_len-end.ensures.place (c.ends_at.ensures.blank c.if-not-ends_at.false);
    value = whole_front c.args.text.now c.digits_len-end.result c.digits_len-end.ensures.place (omega arith) (omega arith);
  };
}
