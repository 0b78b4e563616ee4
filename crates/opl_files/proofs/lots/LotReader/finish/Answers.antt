use Rattle.std.proofs.Common.{rules, ◌≡◌, ◌++◌, List, ℕ, Option, length, ap, subst, arith}
use Rattle.std.proofs.lemmas.Grind.{common_steps}
use Rattle.opl_files.specs.declared.scan.TheConstants.{PIECE}
use Rattle.opl_files.specs.Keeps.{kept_all}
use Rattle.opl_files.specs.Lots.{HasLots, most_kept}
use Rattle.opl_files.specs.Progress.{entries_left}
use Rattle.opl_files.proofs.LotLaws.{ends_well, goes_on, lots_stop, no_further, read_to_end}
use Rattle.opl_files.proofs.Pieces.{on_err, read_again, read_more, read_never, reads_nothing, reads_within, stops_in_time}
use Rattle.opl_files.proofs.lots.LotReader.finish.Goals as goal

-- the bytes that are kept

pub returns-in_err-take-clause-left : goal.returns-in_err-take-clause-left
returns-in_err-take-clause-left g c =
    on_err c.from_residual.result _ (λ first start has.
    lots_stop g.K.Keeper.after c.args.limits.now first c.args.self.waiting.passed c.args.keeper.now c.args.self.ahead.kept.items (most_kept c.args.self) start ((g.I.Inputs.view c.args.inputs.now).left c.args.file) has.lots
    c.requires.settled.few)

pub returns-in_err-take-clause-reads : goal.returns-in_err-take-clause-reads
returns-in_err-take-clause-reads g c =
    let laws = g.met.I.Inputs g.world.𝓛 g.world.𝓜 g.world.𝓡 ((λ s x. x), (λ x. x), (λ x. x), λ x. x) in
    record {
      read = read_never g.I.Inputs.reads g.I.Inputs.view c.args.file laws.reads_none c.args.inputs.now;
      stopped = search rules;
    }

-- the end of the file

pub returns-in_err-finish-clause-left : goal.returns-in_err-finish-clause-left
returns-in_err-finish-clause-left g c =
    on_err c.from_residual-in_err-finish.result _ (λ first start has.
    lots_stop g.K.Keeper.after c.args.limits.now first c.args.self.waiting.passed c.args.keeper.now c.args.self.ahead.kept.items (most_kept c.args.self) start ((g.I.Inputs.view c.args.inputs.now).left c.args.file) has.lots
    c.requires.settled.few)

pub returns-in_err-finish-clause-reads : goal.returns-in_err-finish-clause-reads
returns-in_err-finish-clause-reads g c =
    let laws = g.met.I.Inputs g.world.𝓛 g.world.𝓜 g.world.𝓡 ((λ s x. x), (λ x. x), (λ x. x), λ x. x) in
    record {
      read = read_never g.I.Inputs.reads g.I.Inputs.view c.args.file laws.reads_none c.args.inputs.now;
      stopped = search rules;
    }

pub returns-then-not-more-clause-ok : goal.returns-then-not-more-clause-ok
returns-then-not-more-clause-ok g c = λ first start come.
    let begun = λ (first : g.row.K.Denot) (start : Option (List ℕ)) (has : HasLots g.K.Keeper.after c.args.limits.now first c.args.self.waiting.passed c.args.keeper.now c.args.self.ahead.kept.items start
    ((g.I.Inputs.view c.args.inputs.now).left c.args.file)).
    goes_on g.K.Keeper.after c.args.limits.now first c.args.self c.args.keeper.now c.behind-progress.result c.behind-progress.ensures.left c.take.new.self c.take.new.keeper
    (subst (λ (own : List ℕ). (later : List ℕ)
    → kept_all g.K.Keeper.after c.args.keeper.now (entries_left c.args.limits.now c.behind-progress.result (own ++ later))
    ≡ kept_all g.K.Keeper.after c.take.new.keeper (entries_left c.args.limits.now c.take.new.self later)) c.deref.ensures.value
    c.in_ok-take.ensures.entries)
    start ((g.I.Inputs.view c.args.inputs.now).left c.args.file) has in
    ends_well g.K.Keeper.after c.args.limits.now first c.take.new.self c.take.new.keeper c.finish.new.keeper c.in_ok-finish.ensures.kept start
    ((g.I.Inputs.view c.args.inputs.now).left c.args.file) (come.ended c.if-not-more.true) (begun first start come.lots)

-- one more read

pub loop-progress-init : goal.loop-progress-init
loop-progress-init g c =
    let laws = g.met.I.Inputs g.world.𝓛 g.world.𝓜 g.world.𝓡 ((λ s x. x), (λ x. x), (λ x. x), λ x. x) in
    let begun = λ (first : g.row.K.Denot) (start : Option (List ℕ)) (has : HasLots g.K.Keeper.after c.args.limits.now first c.args.self.waiting.passed c.args.keeper.now c.args.self.ahead.kept.items start
    ((g.I.Inputs.view c.args.inputs.now).left c.args.file)).
    goes_on g.K.Keeper.after c.args.limits.now first c.args.self c.args.keeper.now c.behind-progress.result c.behind-progress.ensures.left c.take.new.self c.take.new.keeper
    (subst (λ (own : List ℕ). (later : List ℕ)
    → kept_all g.K.Keeper.after c.args.keeper.now (entries_left c.args.limits.now c.behind-progress.result (own ++ later))
    ≡ kept_all g.K.Keeper.after c.take.new.keeper (entries_left c.args.limits.now c.take.new.self later)) c.deref.ensures.value
    c.in_ok-take.ensures.entries)
    start ((g.I.Inputs.view c.args.inputs.now).left c.args.file) has in
    record {
      ready = c.in_ok-take.ensures.ready;
      some = c.requires.settled.room.some;
      room = c.requires.settled.room.room;
      read = begun;
      alone = read_never g.I.Inputs.reads g.I.Inputs.view c.args.file laws.reads_none c.args.inputs.now;
    }

pub returns-in_err-read_on-clause-left : goal.returns-in_err-read_on-clause-left
returns-in_err-read_on-clause-left g c =
    let left = (g.I.Inputs.view c.loop-progress.inputs).left c.args.file in
    let rest = (g.I.Inputs.view c.read_on.new.inputs).left c.args.file in
    on_err c.from_residual-in_err-read_on.result _ (λ first start has.
    no_further c.args.limits.now (most_kept c.args.self) start rest (omega arith)
    (stops_in_time g.K.Keeper.after c.args.limits.now first c.loop-progress.progress c.loop-progress.keeper start left rest
    c.loop-progress.invariant.ready.ready (c.loop-progress.invariant.read first start has.lots)
    (reads_within (length c.deref_mut.result.now) PIECE left rest
    (omega (arith, ap length c.deref_mut.ensures.value, c.loop-progress.invariant.room)) c.in_err-read_on.ensures.left)))

pub returns-in_err-read_on-clause-reads : goal.returns-in_err-read_on-clause-reads
returns-in_err-read_on-clause-reads g c =
    let laws = g.met.I.Inputs g.world.𝓛 g.world.𝓜 g.world.𝓡 ((λ s x. x), (λ x. x), (λ x. x), λ x. x) in
    record {
      read = read_again g.I.Inputs.reads g.I.Inputs.view c.args.file laws.reads_then c.args.inputs.now c.loop-progress.inputs
          c.read_on.new.inputs c.loop-progress.invariant.alone c.read_on.ensures.read;
      stopped = search rules;
    }

pub loop-progress-preserved : goal.loop-progress-preserved
loop-progress-preserved g c =
    let laws = g.met.I.Inputs g.world.𝓛 g.world.𝓜 g.world.𝓡 ((λ s x. x), (λ x. x), (λ x. x), λ x. x) in
    let left = (g.I.Inputs.view c.loop-progress.inputs).left c.args.file in
    let rest = (g.I.Inputs.view c.read_on.new.inputs).left c.args.file in
    record {
      ready = c.in_ok-read_on.ensures.ready;
      some = grind (arith, common_steps);
      room = grind (arith, common_steps);
      read = λ first start has. read_more g.K.Keeper.after c.args.limits.now first c.loop-progress.progress c.loop-progress.keeper
          c.read_on.new.progress c.read_on.new.keeper start left rest (c.loop-progress.invariant.read first start has)
          c.in_ok-read_on.ensures.piece;
      alone = read_again g.I.Inputs.reads g.I.Inputs.view c.args.file laws.reads_then c.args.inputs.now c.loop-progress.inputs
          c.read_on.new.inputs c.loop-progress.invariant.alone c.in_ok-read_on.ensures.read;
    }

-- behind the last read

pub returns-in_err-finish-2-clause-left : goal.returns-in_err-finish-2-clause-left
returns-in_err-finish-2-clause-left g c =
    let left = (g.I.Inputs.view c.loop-progress.inputs).left c.args.file in
    let rest = (g.I.Inputs.view c.read_on.new.inputs).left c.args.file in
    on_err c.from_residual-in_err-finish-2.result _ (λ first start has.
    no_further c.args.limits.now (most_kept c.args.self) start rest (omega arith)
    (stops_in_time g.K.Keeper.after c.args.limits.now first c.read_on.new.progress c.read_on.new.keeper start rest rest
    c.in_ok-read_on.ensures.ready.ready
    (read_more g.K.Keeper.after c.args.limits.now first c.loop-progress.progress c.loop-progress.keeper c.read_on.new.progress c.read_on.new.keeper
    start left rest (c.loop-progress.invariant.read first start has.lots) c.in_ok-read_on.ensures.piece) (reads_nothing PIECE rest)))

pub returns-in_err-finish-2-clause-reads : goal.returns-in_err-finish-2-clause-reads
returns-in_err-finish-2-clause-reads g c =
    let laws = g.met.I.Inputs g.world.𝓛 g.world.𝓜 g.world.𝓡 ((λ s x. x), (λ x. x), (λ x. x), λ x. x) in
    record {
      read = read_again g.I.Inputs.reads g.I.Inputs.view c.args.file laws.reads_then c.args.inputs.now c.loop-progress.inputs
          c.read_on.new.inputs c.loop-progress.invariant.alone c.read_on.ensures.read;
      stopped = search rules;
    }

pub returns-clause-ok : goal.returns-clause-ok
returns-clause-ok g c = λ first start come.
    let left = (g.I.Inputs.view c.loop-progress.inputs).left c.args.file in
    let rest = (g.I.Inputs.view c.read_on.new.inputs).left c.args.file in
    ends_well g.K.Keeper.after c.args.limits.now first c.read_on.new.progress c.read_on.new.keeper c.finish-2.new.keeper c.in_ok-finish-2.ensures.kept start rest
    (read_to_end g.K.Keeper.after c.args.limits.now first c.loop-progress.progress c.read_on.new.progress c.loop-progress.keeper c.read_on.new.keeper
    c.in_ok-read_on.field-0 start left rest (c.loop-progress.invariant.read first start come.lots) c.in_ok-read_on.ensures.bytes
    c.if-branch.false)
    (read_more g.K.Keeper.after c.args.limits.now first c.loop-progress.progress c.loop-progress.keeper c.read_on.new.progress c.read_on.new.keeper
    start left rest (c.loop-progress.invariant.read first start come.lots) c.in_ok-read_on.ensures.piece)

pub returns-clause-reads : goal.returns-clause-reads
returns-clause-reads g c =
    let laws = g.met.I.Inputs g.world.𝓛 g.world.𝓜 g.world.𝓡 ((λ s x. x), (λ x. x), (λ x. x), λ x. x) in
    record {
      read = read_again g.I.Inputs.reads g.I.Inputs.view c.args.file laws.reads_then c.args.inputs.now c.loop-progress.inputs
          c.read_on.new.inputs c.loop-progress.invariant.alone c.read_on.ensures.read;
      stopped = search rules;
    }
