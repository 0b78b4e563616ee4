use Rattle.opl_files.specs.Lots.{ReadsNoFurtherThan}
use Rattle.opl_files.proofs.LotLaws.{read_then}
use Rattle.opl_files.proofs.Pieces.{on_err}
use Rattle.opl_files.proofs.lots.LotReader.take_lots.Goals as goal
use Rattle.std.proofs.Common.{rules, ◌+◌, ◌*◌, ◌∙◌, ℕ, subst}
use Rattle.opl_files.specs.declared.scan.TheConstants.{PIECE}

pub returns-in_err-take_lot-clause-left : goal.returns-in_err-take_lot-clause-left
returns-in_err-take_lot-clause-left g c =
    let rest = (g.I.Inputs.view c.take_lot.new.inputs).left c.args.file in
    on_err c.from_residual.result _ (λ first start has.
    subst (λ (lot : ℕ). ReadsNoFurtherThan (3 * (lot + PIECE)) c.args.limits.now start rest) c.loop.invariant.lot
    (c.in_err-take_lot.ensures.left first start (c.loop.invariant.lots first start has)))

pub returns-in_err-take_lot-clause-reads : goal.returns-in_err-take_lot-clause-reads
returns-in_err-take_lot-clause-reads g c =
    let laws = g.met.I.Inputs g.world.𝓛 g.world.𝓜 g.world.𝓡 ((λ s x. x), (λ x. x), (λ x. x), λ x. x) in
    record {
      read = read_then g.I.Inputs.reads g.I.Inputs.view c.args.file laws.reads_then c.args.inputs.now c.loop.inputs c.take_lot.new.inputs
          c.loop.invariant.alone c.take_lot.ensures.reads.read;
      stopped = search rules;
    }

pub returns-then-not-branch-clause-reads : goal.returns-then-not-branch-clause-reads
returns-then-not-branch-clause-reads g c =
    let laws = g.met.I.Inputs g.world.𝓛 g.world.𝓜 g.world.𝓡 ((λ s x. x), (λ x. x), (λ x. x), λ x. x) in
    record {
      read = read_then g.I.Inputs.reads g.I.Inputs.view c.args.file laws.reads_then c.args.inputs.now c.loop.inputs c.take_lot.new.inputs
          c.loop.invariant.alone c.take_lot.ensures.reads.read;
      stopped = search rules;
    }

pub loop-preserved : goal.loop-preserved
loop-preserved g c =
    let laws = g.met.I.Inputs g.world.𝓛 g.world.𝓜 g.world.𝓡 ((λ s x. x), (λ x. x), (λ x. x), λ x. x) in
    record {
      ready = record { reading = c.in_ok-take_lot.ensures.reading; next = c.in_ok-take_lot.ensures.next c.if-not-branch.false };
      lot = c.in_ok-take_lot.ensures.lot ∙ c.loop.invariant.lot;
      lots = λ first start has. c.in_ok-take_lot.ensures.lots first start (c.loop.invariant.lots first start has);
      alone = read_then g.I.Inputs.reads g.I.Inputs.view c.args.file laws.reads_then c.args.inputs.now c.loop.inputs c.take_lot.new.inputs
          c.loop.invariant.alone c.take_lot.ensures.reads.read;
    }
