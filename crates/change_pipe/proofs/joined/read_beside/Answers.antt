use Rattle.std.proofs.Common.{◌+◌, rules}
use Rattle.change_pipe.proofs.ParcelLaws.{read_front}
use Rattle.change_pipe.proofs.joined.read_beside.Goals as goal

pub returns-in-Ok-Some-clause-files : goal.returns-in-Ok-Some-clause-files
returns-in-Ok-Some-clause-files g c = record {
  parcels = read_front c.args.limits.now c.args.files.first (c.args.files.first + c.args.files.count)
      (g.I.Inputs.view c.args.inputs.now) _ _ _ _ c.end.ensures.front.0 c.end.ensures.front.1 (search rules) (search rules);
  all = search rules;
  read = search rules;
}
