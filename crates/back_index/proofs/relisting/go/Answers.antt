use Rattle.back_index.proofs.ListLaws.{left}
use Rattle.back_index.proofs.relisting.go.Goals as goal

pub returns : goal.returns
returns c = record {
  goes = left c.args.own c.args.ids.now c.take_out.new.self c.as_slice-before.ensures.rise c.as_slice-after.ensures.rise
      c.take_out.ensures.left;
}
