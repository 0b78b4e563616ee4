use Rattle.std.proofs.Common.{◌+◌, ◌*◌, ◌∙◌, ℕ, arith, ap, length, rules, subst}
use Rattle.opl_files.specs.declared.scan.TheConstants.{PIECE}
use Rattle.opl_files.specs.Lots.{ReadsNoFurtherThan}
use Rattle.opl_files.proofs.LotLaws.{at_start, new_reads, new_there, read_then}
use Rattle.opl_files.proofs.Pieces.{on_err}
use Rattle.opl_files.proofs.lots.scan_by_lots.Goals as goal

pub returns-in_err-reader-clause-left : goal.returns-in_err-reader-clause-left
returns-in_err-reader-clause-left g c =
    on_err c.from_residual.result _ (at_start c.args.limits.now _ ((g.I.Inputs.view c.args.inputs.now).left c.args.file))

-- the lots

pub read_lots-requires-clause-ready : goal.read_lots-requires-clause-ready
read_lots-requires-clause-ready g c lifetimes lives = record {
  reading = new_reads g.K.Keeper.takes c.args.limits.now c.args.lot c.in_ok-reader.reader c.args.keeper.now c.in_ok-reader.ensures.new
      c.requires.takes;
  next = omega (arith, ap length c.in_ok-reader.ensures.new.kept);
}

pub returns-in_err-read_lots-clause-left : goal.returns-in_err-read_lots-clause-left
returns-in_err-read_lots-clause-left g c =
    let limits = c.args.limits.now in
    let start = (g.I.Inputs.view c.args.inputs.now).left c.args.file in
    let there = new_there g.K.Keeper.after limits c.args.keeper.now c.args.lot c.in_ok-reader.reader c.in_ok-reader.ensures.new start in
    let rest = (g.I.Inputs.view c.read_lots.new.inputs).left c.args.file in
    on_err c.from_residual-in_err-read_lots.result _ (subst (λ (lot : ℕ). ReadsNoFurtherThan (3 * (lot + PIECE)) limits start rest)
    c.in_ok-reader.ensures.new.size (c.in_err-read_lots.ensures.left c.args.keeper.now start there))

-- what is behind them

pub returns-in_err-finish-clause-stopped : goal.returns-in_err-finish-clause-stopped
returns-in_err-finish-clause-stopped g c =
    let limits = c.args.limits.now in
    let first = c.args.keeper.now in
    let start = (g.I.Inputs.view c.args.inputs.now).left c.args.file in
    let come = c.in_ok-read_lots.ensures.lots first start
    (new_there g.K.Keeper.after limits first c.args.lot c.in_ok-reader.reader c.in_ok-reader.ensures.new start) in
    search (rules, come)

pub returns-in_err-finish-clause-left : goal.returns-in_err-finish-clause-left
returns-in_err-finish-clause-left g c =
    let limits = c.args.limits.now in
    let first = c.args.keeper.now in
    let start = (g.I.Inputs.view c.args.inputs.now).left c.args.file in
    let come = c.in_ok-read_lots.ensures.lots first start
    (new_there g.K.Keeper.after limits first c.args.lot c.in_ok-reader.reader c.in_ok-reader.ensures.new start) in
    let rest = (g.I.Inputs.view c.finish.new.inputs).left c.args.file in
    on_err c.from_residual-in_err-finish.result _ (subst (λ (lot : ℕ). ReadsNoFurtherThan (3 * (lot + PIECE)) limits start rest)
    (c.in_ok-read_lots.ensures.settled.lot ∙ c.in_ok-reader.ensures.new.size) (c.in_err-finish.ensures.left first start come))

pub returns-in_err-finish-clause-read : goal.returns-in_err-finish-clause-read
returns-in_err-finish-clause-read g c =
    let laws = g.met.I.Inputs g.world.𝓛 g.world.𝓜 g.world.𝓡 ((λ s x. x), (λ x. x), (λ x. x), λ x. x) in
    read_then g.I.Inputs.reads g.I.Inputs.view c.args.file laws.reads_then c.args.inputs.now c.read_lots.new.inputs c.finish.new.inputs
    c.read_lots.ensures.reads.read c.finish.ensures.reads.read

pub returns-clause-ok : goal.returns-clause-ok
returns-clause-ok g c =
    let limits = c.args.limits.now in
    let first = c.args.keeper.now in
    let start = (g.I.Inputs.view c.args.inputs.now).left c.args.file in
    c.in_ok-finish.ensures.ok first start (c.in_ok-read_lots.ensures.lots first start
    (new_there g.K.Keeper.after limits first c.args.lot c.in_ok-reader.reader c.in_ok-reader.ensures.new start))

pub returns-clause-read : goal.returns-clause-read
returns-clause-read g c =
    let laws = g.met.I.Inputs g.world.𝓛 g.world.𝓜 g.world.𝓡 ((λ s x. x), (λ x. x), (λ x. x), λ x. x) in
    read_then g.I.Inputs.reads g.I.Inputs.view c.args.file laws.reads_then c.args.inputs.now c.read_lots.new.inputs c.finish.new.inputs
    c.read_lots.ensures.reads.read c.finish.ensures.reads.read
