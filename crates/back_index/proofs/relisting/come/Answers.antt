use Rattle.back_index.proofs.ListLaws.{joined_ids}
use Rattle.back_index.proofs.relisting.come.Goals as goal

pub returns : goal.returns
returns c = record {
  comes = joined_ids c.args.own c.args.ids.now c.add.new.self c.as_slice-before.ensures.rise c.as_slice-after.ensures.rise
      c.in_ok-add.ensures.ok;
}
