use Rattle.std.proofs.Common.{◌+◌, ◌-◌, arith, refl, rules}
use Rattle.update_flow.specs.Updater.{handle_of}
use Rattle.updater.proofs.AheadRuns.{among_none, appends_front, short_ahead, taken_so, where_none}
use Rattle.updater.proofs.ahead.append_beside.Goals as goal

pub returns-in_default-clause-ahead : goal.returns-in_default-clause-ahead
returns-in_default-clause-ahead g c =
    let laws = g.met.I.Inputs g.world.𝓛 g.world.𝓜 g.world.𝓡 ((λ s x. x), (λ x. x), (λ x. x), λ x. x) in
    let files = g.I.Inputs.view c.args.inputs.now in
    short_ahead c.args.bounds.now c.args.files.first c.args.files.count c.args.ahead c.requires.some files files g.S.Sink.view
    (c.args.files.count - 1) (omega (arith, c.requires.files))
    (λ asked. g.I.Inputs.reads c.args.inputs.now asked c.args.inputs.now) c.args.store.now c.args.store.now c.args.out.now c.args.out.now
    (among_none c.args.files.first (c.args.files.first + c.args.files.count) _ files (laws.reads_none c.args.inputs.now)) refl refl

pub returns-in-Some-clause-ahead : goal.returns-in-Some-clause-ahead
returns-in-Some-clause-ahead g c = rw c.ended.ensures.fault
    (appends_front c.args.bounds.now c.args.files.first c.args.files.count c.args.ahead c.requires.some
    (g.I.Inputs.view c.args.inputs.now) (g.I.Inputs.view c.inputs-1.given.0) _ c.standard-numbers.ensures.numbers
    c.in-Some.fault (λ asked. g.I.Inputs.reads c.args.inputs.now asked c.inputs-1.given.0) _ _ c.end.ensures.front.0
    c.end.ensures.front.1 (search rules) (search rules) (handle_of c.args.store.now) (handle_of c.store-1.given.0)
    (g.S.Sink.view c.args.out.now) (g.S.Sink.view c.out-1.given.0)
    (taken_so c.args.bounds.now c.args.files.first c.args.files.count c.join_mut-begun.result.1 c.in-Some.fault c.in-Some.is _
    c.taker-2-1.given.0.list (handle_of c.args.store.now) c.join_mut-begun.new.g.6.now c.store-1.given.0 (g.S.Sink.view c.args.out.now) _
    (g.S.Sink.view c.out-1.given.0) c.join_mut-begun.ensures.1.met.1.1 (search rules) (search rules) (search rules))).0

pub returns-in-Some-clause-local : goal.returns-in-Some-clause-local
returns-in-Some-clause-local g c = where_none c.ended.result _ (rw c.ended.ensures.fault
    (appends_front c.args.bounds.now c.args.files.first c.args.files.count c.args.ahead c.requires.some
    (g.I.Inputs.view c.args.inputs.now) (g.I.Inputs.view c.inputs-1.given.0) _ c.standard-numbers.ensures.numbers
    c.in-Some.fault (λ asked. g.I.Inputs.reads c.args.inputs.now asked c.inputs-1.given.0) _ _ c.end.ensures.front.0
    c.end.ensures.front.1 (search rules) (search rules) (handle_of c.args.store.now) (handle_of c.store-1.given.0)
    (g.S.Sink.view c.args.out.now) (g.S.Sink.view c.out-1.given.0)
    (taken_so c.args.bounds.now c.args.files.first c.args.files.count c.join_mut-begun.result.1 c.in-Some.fault c.in-Some.is _
    c.taker-2-1.given.0.list (handle_of c.args.store.now) c.join_mut-begun.new.g.6.now c.store-1.given.0 (g.S.Sink.view c.args.out.now) _
    (g.S.Sink.view c.out-1.given.0) c.join_mut-begun.ensures.1.met.1.1 (search rules) (search rules) (search rules))).1)

pub returns-in-None-clause-ahead : goal.returns-in-None-clause-ahead
returns-in-None-clause-ahead g c =
    short_ahead c.args.bounds.now c.args.files.first c.args.files.count c.args.ahead c.requires.some
    (g.I.Inputs.view c.args.inputs.now) (g.I.Inputs.view c.inputs-1.given.0) g.S.Sink.view (c.args.files.count - 1)
    (omega (arith, c.requires.files)) (λ asked. g.I.Inputs.reads c.args.inputs.now asked c.inputs-1.given.0) c.args.store.now
    c.store-1.given.0 c.args.out.now c.out-1.given.0 (search rules) (search rules) (search rules)
