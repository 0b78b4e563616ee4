use Rattle.std.proofs.Common.{arith}
use Rattle.delta_feed.proofs.RoundTrips.{del_back, delta_back, end_back, full_back, more_back, set_back, style_back}
use Rattle.delta_feed.proofs.laws.lines_are_read_back.Goals as goal

pub returns-clause-full : goal.returns-clause-full
returns-clause-full c = full_back c.args.version c.requires.version

pub returns-clause-style : goal.returns-clause-style
returns-clause-style c = style_back c.args.bytes.now (λ i. omega (arith, c.type_inv.bytes i)) c.requires.some c.requires.short

pub returns-clause-set : goal.returns-clause-set
returns-clause-set c = λ stands. set_back c.args.place c.args.spot c.args.bytes.now stands c.requires.told (λ i. omega (arith, c.type_inv.bytes i)) c.requires.some c.requires.short

pub returns-clause-del : goal.returns-clause-del
returns-clause-del c = λ stands. del_back c.args.place c.args.spot stands c.requires.told

pub returns-clause-more : goal.returns-clause-more
returns-clause-more c = more_back c.args.bytes.now (λ i. omega (arith, c.type_inv.bytes i)) c.requires.some c.requires.short

pub returns-clause-end : goal.returns-clause-end
returns-clause-end c = λ stands. end_back c.args.place stands

pub returns-clause-delta : goal.returns-clause-delta
returns-clause-delta c = delta_back c.args.version c.requires.version
