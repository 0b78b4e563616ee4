use Rattle.std.proofs.Common.{rules, ◌+◌, ◌*◌, ℕ, arith, length-append, subst}
use Rattle.opl_files.specs.declared.scan.TheConstants.{PIECE}
use Rattle.opl_files.specs.Lots.{ReadsNoFurtherThan, all_kept, most_kept}
use Rattle.opl_files.specs.Ahead.{most_of_lot}
use Rattle.opl_files.proofs.LotLaws.{fill_stop, filled, lots_stop, read_then}
use Rattle.opl_files.proofs.Pieces.{on_err}
use Rattle.opl_files.proofs.lots.LotReader.read_lots.Goals as goal

pub returns-in_err-fill-clause-left : goal.returns-in_err-fill-clause-left
returns-in_err-fill-clause-left g c =
    let reader = c.args.self.now in
    let left = (g.I.Inputs.view c.args.inputs.now).left c.args.file in
    let rest = (g.I.Inputs.view c.fill.new.inputs).left c.args.file in
    on_err c.from_residual.result _ (λ first start has.
    fill_stop g.K.Keeper.after c.args.limits.now first reader.waiting.passed c.args.keeper.now reader.waiting.bytes.items reader.ahead.kept.items
    (most_kept reader) (most_of_lot reader.ahead) start left rest has.lots c.in_err-fill.ensures.ahead.left (omega (arith, c.requires.ready.reading.few)))

pub returns-in_err-take_lots-clause-left : goal.returns-in_err-take_lots-clause-left
returns-in_err-take_lots-clause-left g c =
    let limits = c.args.limits.now in
    let reader = c.args.self.now in
    let left = (g.I.Inputs.view c.args.inputs.now).left c.args.file in
    let between = (g.I.Inputs.view c.fill.new.inputs).left c.args.file in
    let rest = (g.I.Inputs.view c.take_lots.new.inputs).left c.args.file in
    on_err c.from_residual-in_err-take_lots.result _ (λ first start has.
    subst (λ (lot : ℕ). ReadsNoFurtherThan (3 * (lot + PIECE)) limits start rest) c.in_ok-fill.ensures.ahead.filled.lot
    (c.in_err-take_lots.ensures.left first start (filled g.K.Keeper.after limits first reader.waiting.passed c.args.keeper.now reader.waiting.bytes.items reader.ahead c.fill.new.self start left
    between has c.in_ok-fill.ensures.ahead.filled.moves)))

pub returns-in_err-settle-clause-left : goal.returns-in_err-settle-clause-left
returns-in_err-settle-clause-left g c =
    let limits = c.args.limits.now in
    let reader = c.args.self.now in
    let left = (g.I.Inputs.view c.args.inputs.now).left c.args.file in
    let between = (g.I.Inputs.view c.fill.new.inputs).left c.args.file in
    let rest = (g.I.Inputs.view c.take_lots.new.inputs).left c.args.file in
    let now = c.take_lots.new.self in
    on_err c.from_residual-in_err-settle.result _ (λ first start has.
    lots_stop g.K.Keeper.after limits first now.waiting.passed c.take_lots.new.keeper (all_kept now) (most_kept reader) start rest
    (c.in_ok-take_lots.ensures.lots first start (filled g.K.Keeper.after limits first reader.waiting.passed c.args.keeper.now reader.waiting.bytes.items reader.ahead c.fill.new.self start left
    between has c.in_ok-fill.ensures.ahead.filled.moves)).lots
    (omega (
      arith,
      c.in_ok-fill.ensures.ahead.filled.lot,
      c.in_ok-take_lots.ensures.lot,
      length-append now.waiting.bytes.items now.ahead.kept.items,
      c.in_ok-take_lots.ensures.reading.few,
      c.in_ok-take_lots.ensures.reading.next,
    )))

pub returns-clause-lots : goal.returns-clause-lots
returns-clause-lots g c = λ first start has.
    let limits = c.args.limits.now in
    let reader = c.args.self.now in
    let left = (g.I.Inputs.view c.args.inputs.now).left c.args.file in
    let between = (g.I.Inputs.view c.fill.new.inputs).left c.args.file in
    let rest = (g.I.Inputs.view c.take_lots.new.inputs).left c.args.file in
    c.in_ok-settle.ensures.lots first start rest (c.in_ok-take_lots.ensures.lots first start (filled g.K.Keeper.after limits first reader.waiting.passed c.args.keeper.now reader.waiting.bytes.items reader.ahead c.fill.new.self start left
    between has c.in_ok-fill.ensures.ahead.filled.moves))

pub returns-in_err-take_lots-clause-reads : goal.returns-in_err-take_lots-clause-reads
returns-in_err-take_lots-clause-reads g c =
    let laws = g.met.I.Inputs g.world.𝓛 g.world.𝓜 g.world.𝓡 ((λ s x. x), (λ x. x), (λ x. x), λ x. x) in
    record {
      read = read_then g.I.Inputs.reads g.I.Inputs.view c.args.file laws.reads_then c.args.inputs.now c.fill.new.inputs
          c.take_lots.new.inputs c.fill.ensures.ahead.reads.read c.take_lots.ensures.reads.read;
      stopped = search rules;
    }

pub returns-in_err-settle-clause-reads : goal.returns-in_err-settle-clause-reads
returns-in_err-settle-clause-reads g c =
    let laws = g.met.I.Inputs g.world.𝓛 g.world.𝓜 g.world.𝓡 ((λ s x. x), (λ x. x), (λ x. x), λ x. x) in
    record {
      read = read_then g.I.Inputs.reads g.I.Inputs.view c.args.file laws.reads_then c.args.inputs.now c.fill.new.inputs
          c.take_lots.new.inputs c.fill.ensures.ahead.reads.read c.take_lots.ensures.reads.read;
      stopped = search rules;
    }

pub returns-clause-reads : goal.returns-clause-reads
returns-clause-reads g c =
    let laws = g.met.I.Inputs g.world.𝓛 g.world.𝓜 g.world.𝓡 ((λ s x. x), (λ x. x), (λ x. x), λ x. x) in
    record {
      read = read_then g.I.Inputs.reads g.I.Inputs.view c.args.file laws.reads_then c.args.inputs.now c.fill.new.inputs
          c.take_lots.new.inputs c.fill.ensures.ahead.reads.read c.take_lots.ensures.reads.read;
      stopped = search rules;
    }
