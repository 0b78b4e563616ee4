use Rattle.std.proofs.Common.{length, ap, arith}
use Rattle.std.proofs.lemmas.Grind.{common_steps}
use Rattle.opl_files.specs.declared.scan.TheConstants.{PIECE}
use Rattle.opl_files.proofs.Pieces.{on_err, reads_behind, reads_within, read_again, read_never, whole_none, whole_more}
use Rattle.opl_files.proofs.whole.read_all.Goals as goal

pub returns-in_err-buffer-clause-read : goal.returns-in_err-buffer-clause-read
returns-in_err-buffer-clause-read g c =
    let laws = g.met.I.Inputs g.world.𝓛 g.world.𝓜 g.world.𝓡 ((λ s x. x), (λ x. x), (λ x. x), λ x. x) in
    read_never g.I.Inputs.reads g.I.Inputs.view c.args.file laws.reads_none c.args.inputs.now

pub loop-bytes-init : goal.loop-bytes-init
loop-bytes-init g c =
    let laws = g.met.I.Inputs g.world.𝓛 g.world.𝓜 g.world.𝓡 ((λ s x. x), (λ x. x), (λ x. x), λ x. x) in
    record {
      some = c.in_ok-buffer.ensures.some;
      room = c.in_ok-buffer.ensures.room;
      within = omega (arith, ap length c.new-bytes.ensures.items);
      whole = whole_none c.new-bytes.result.items c.new-bytes.ensures.items ((g.I.Inputs.view c.args.inputs.now).left c.args.file);
      alone = read_never g.I.Inputs.reads g.I.Inputs.view c.args.file laws.reads_none c.args.inputs.now;
    }

pub returns-in_err-add_piece-clause-left : goal.returns-in_err-add_piece-clause-left
returns-in_err-add_piece-clause-left g c =
    let start = (g.I.Inputs.view c.args.inputs.now).left c.args.file in
    let left = (g.I.Inputs.view c.loop-bytes.inputs).left c.args.file in
    let rest = (g.I.Inputs.view c.add_piece.new.inputs).left c.args.file in
    on_err c.from_residual-in_err-add_piece.result _
    (reads_behind c.args.max PIECE c.loop-bytes.bytes.items start left rest c.loop-bytes.invariant.within c.loop-bytes.invariant.whole
    (reads_within (length c.deref_mut.result.now) PIECE left rest
    (omega (arith, ap length c.deref_mut.ensures.value, c.loop-bytes.invariant.room)) c.in_err-add_piece.ensures.left))

pub returns-in_err-add_piece-clause-read : goal.returns-in_err-add_piece-clause-read
returns-in_err-add_piece-clause-read g c =
    let laws = g.met.I.Inputs g.world.𝓛 g.world.𝓜 g.world.𝓡 ((λ s x. x), (λ x. x), (λ x. x), λ x. x) in
    read_again g.I.Inputs.reads g.I.Inputs.view c.args.file laws.reads_then c.args.inputs.now c.loop-bytes.inputs c.add_piece.new.inputs
    c.loop-bytes.invariant.alone c.add_piece.ensures.read

pub loop-bytes-preserved : goal.loop-bytes-preserved
loop-bytes-preserved g c =
    let laws = g.met.I.Inputs g.world.𝓛 g.world.𝓜 g.world.𝓡 ((λ s x. x), (λ x. x), (λ x. x), λ x. x) in
    let start = (g.I.Inputs.view c.args.inputs.now).left c.args.file in
    let left = (g.I.Inputs.view c.loop-bytes.inputs).left c.args.file in
    let rest = (g.I.Inputs.view c.add_piece.new.inputs).left c.args.file in
    record {
      some = grind (arith, common_steps);
      room = grind (arith, common_steps);
      within = c.in_ok-add_piece.ensures.within;
      whole = whole_more c.loop-bytes.bytes.items c.add_piece.new.bytes.items c.in_ok-add_piece.field-0 start left rest
          c.loop-bytes.invariant.whole c.in_ok-add_piece.ensures.bytes;
      alone = read_again g.I.Inputs.reads g.I.Inputs.view c.args.file laws.reads_then c.args.inputs.now c.loop-bytes.inputs
          c.add_piece.new.inputs c.loop-bytes.invariant.alone c.in_ok-add_piece.ensures.read;
    }

pub returns-clause-read : goal.returns-clause-read
returns-clause-read g c =
    let laws = g.met.I.Inputs g.world.𝓛 g.world.𝓜 g.world.𝓡 ((λ s x. x), (λ x. x), (λ x. x), λ x. x) in
    read_again g.I.Inputs.reads g.I.Inputs.view c.args.file laws.reads_then c.args.inputs.now c.loop-bytes.inputs c.add_piece.new.inputs
    c.loop-bytes.invariant.alone c.in_ok-add_piece.ensures.read
