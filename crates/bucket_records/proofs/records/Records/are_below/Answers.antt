-- No key is above the last.
use Rattle.std.proofs.Common.{◌<◌, arith}
use Rattle.std.proofs.lemmas.Bool.{ltb-true}
use Rattle.bucket_records.proofs.RecordPlaces.{lies}
use Rattle.bucket_records.proofs.records.Records.are_below.Goals as goal

pub returns-then-self-eq0 : goal.returns-then-self-eq0
returns-then-self-eq0 c less k inside =
    let lie = lies c.self.inside.bytes.items c.self.inside.count c.self.inside.last c.self.inside.marks.items c.args.self.now
    c.self.invariant c.self.view_is in
    absurd (omega (arith, inside, lie.many, c.if-self-eq0.true))

pub returns : goal.returns
returns c less k inside =
    let lie = lies c.self.inside.bytes.items c.self.inside.count c.self.inside.last c.self.inside.marks.items c.args.self.now
    c.self.invariant c.self.view_is in
    let below : c.self.inside.last < c.args.key = ltb-true c.self.inside.last c.args.key less in
    omega (arith, below, lie.highest k inside)
