use Rattle.std.proofs.Common.{◌≡◌, ◌+◌, sym, subst, arith}
use Rattle.value_bytes.proofs.Fronts.{needs_more}
use Rattle.value_bytes.proofs.ListLaws.{HasRead, read_more, read_refused, read_all}
use Rattle.value_bytes.proofs.lists.front_many.Goals as goal

pub returns-in-Err-clause-refused : goal.returns-in-Err-clause-refused
returns-in-Err-clause-refused g c =
    needs_more c.in-Err.fault
    (read_refused g.T.Spelled.spell g.T.Spelled.is c.args.count c.args.bytes.now c.loop.counter c.loop.values.items c.loop.rest.now
    c.loop.invariant c.loop-test.true)
    c.in-Err.ensures.refused

pub loop-preserved : goal.loop-preserved
loop-preserved g c =
    let spell = g.T.Spelled.spell in
    let is = g.T.Spelled.is in
    let more = read_more spell is c.args.count c.args.bytes.now c.loop.counter c.loop.values.items c.loop.rest.now c.in-Ok.found.0
    c.in-Ok.found.1.now
    c.loop.invariant c.loop-test.true c.in-Ok.ensures.value in
    subst (λ l. HasRead spell is c.args.count c.args.bytes.now (c.loop.counter + 1) l c.in-Ok.found.1.now)
    (sym c.in_ok-push.ensures.items) more

pub returns-clause-values : goal.returns-clause-values
returns-clause-values g c =
    let spell = g.T.Spelled.spell in
    let is = g.T.Spelled.is in
    let at : c.loop.counter ≡ c.args.count = omega arith in
    read_all spell is c.args.count c.args.bytes.now c.from_vec.result c.loop.rest.now
    (subst (λ n. HasRead spell is c.args.count c.args.bytes.now n c.from_vec.result c.loop.rest.now) at
    (subst (λ l. HasRead spell is c.args.count c.args.bytes.now c.loop.counter l c.loop.rest.now)
    (sym c.from_vec.ensures.items) c.loop.invariant))
