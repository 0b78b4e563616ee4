use Rattle.std.proofs.Common.{rules, length, ap, arith}
use Rattle.std.proofs.lemmas.Grind.{common_steps}
use Rattle.std.specs.Vec.{with_items}
use Rattle.opl_files.specs.Ahead.{most_of_lot}
use Rattle.opl_files.proofs.LotLaws.{less_left, moves_behind, moves_more}
use Rattle.opl_files.proofs.Pieces.{read_again}
use Rattle.opl_files.proofs.ahead.Ahead.fill.Goals as goal

pub returns-in_err-self : goal.returns-in_err-self
returns-in_err-self g c =
    let laws = g.met.I.Inputs g.world.𝓛 g.world.𝓜 g.world.𝓡 ((λ s x. x), (λ x. x), (λ x. x), λ x. x) in
    let start = (g.I.Inputs.view c.args.inputs.now).left c.args.file in
    let left = (g.I.Inputs.view c.loop-self.inputs).left c.args.file in
    let rest = (g.I.Inputs.view c.keep_read.new.inputs).left c.args.file in
    record {
      ahead = record {
        filled = search rules;
        left = moves_behind c.args.self.now c.loop-self.self (most_of_lot c.args.self.now) (length c.deref_mut.result.now) start left rest
            (omega (
              arith,
              c.loop-self.invariant.lot,
              c.if-len-self.true,
              c.len.ensures,
              ap length c.deref_mut.ensures.value,
              c.loop-self.invariant.room.room,
            ))
            c.loop-self.invariant.moves c.in_err-self.ensures.left;
        reads = record {
          read = read_again g.I.Inputs.reads g.I.Inputs.view c.args.file laws.reads_then c.args.inputs.now c.loop-self.inputs
              c.keep_read.new.inputs c.loop-self.invariant.alone c.keep_read.ensures.read;
          stopped = search rules;
        };
      };
    }

pub loop-self-smaller : goal.loop-self-smaller
loop-self-smaller g c =
    less_left c.loop-self.self.lot (length c.loop-self.self.kept.items) (length c.keep_read.new.kept.items) c.loop-self.self.more c.in_ok-self.field-0
    c.loop-self-test.true (omega (arith, c.if-len-self.true, c.len.ensures)) c.in_ok-self.ensures.grows

pub loop-self-preserved : goal.loop-self-preserved
loop-self-preserved g c =
    let laws = g.met.I.Inputs g.world.𝓛 g.world.𝓜 g.world.𝓡 ((λ s x. x), (λ x. x), (λ x. x), λ x. x) in
    let start = (g.I.Inputs.view c.args.inputs.now).left c.args.file in
    let left = (g.I.Inputs.view c.loop-self.inputs).left c.args.file in
    let rest = (g.I.Inputs.view c.keep_read.new.inputs).left c.args.file in
    record {
      room = record { some = grind (arith, common_steps); room = grind (arith, common_steps) };
      few = omega (
        arith,
        c.loop-self.invariant.lot,
        c.if-len-self.true,
        c.len.ensures,
        c.in_ok-self.ensures.few,
        ap length c.deref_mut.ensures.value,
        c.loop-self.invariant.room.room,
      );
      lot = c.loop-self.invariant.lot;
      moves = moves_more c.args.self.now c.loop-self.self (record c.loop-self.self {
        buffer = with_items c.loop-self.self.buffer c.keep_read.new.buffer;
        kept = c.keep_read.new.kept;
        more = c.in_ok-self.field-0;
      }) start left rest c.loop-self.invariant.moves c.in_ok-self.ensures.bytes;
      alone = read_again g.I.Inputs.reads g.I.Inputs.view c.args.file laws.reads_then c.args.inputs.now c.loop-self.inputs
          c.keep_read.new.inputs c.loop-self.invariant.alone c.in_ok-self.ensures.read;
    }
