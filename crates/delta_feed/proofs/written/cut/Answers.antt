use Rattle.std.proofs.Common.{sym, arith}
use Rattle.std.proofs.lemmas.List.{drop_all, take_all}
use Rattle.delta_feed.specs.declared.hexes.TheConstants.{LINE_BYTES}
use Rattle.delta_feed.proofs.written.cut.Goals as goal

pub returns-then-bytes-le-LINE_BYTES-clause-front : goal.returns-then-bytes-le-LINE_BYTES-clause-front
returns-then-bytes-le-LINE_BYTES-clause-front c = sym (take_all LINE_BYTES c.args.bytes.now (omega (arith, c.if-bytes-le-LINE_BYTES.true)))

pub returns-then-bytes-le-LINE_BYTES-clause-behind : goal.returns-then-bytes-le-LINE_BYTES-clause-behind
returns-then-bytes-le-LINE_BYTES-clause-behind c = sym (drop_all LINE_BYTES c.args.bytes.now (omega (arith, c.if-bytes-le-LINE_BYTES.true)))
