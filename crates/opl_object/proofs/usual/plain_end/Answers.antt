use Rattle.opl_object.specs.Text.{is_reserved}
use Rattle.opl_object.proofs.Fronts.{ends_stopped, reserved_stop, plain_front}
use Rattle.opl_object.proofs.usual.plain_end.Goals as goal

pub returns : goal.returns
returns c = record {
  end = record {
    place = ends_stopped is_reserved c.args.text.now c.plain_len-end.result reserved_stop c.plain_len-end.ensures.len
        (c.ends_at.ensures.blank c.if-not-ends_at.false);
    value = plain_front c.args.text.now c.plain_len-end.result c.plain_len-end.ensures.len;
  };
}
