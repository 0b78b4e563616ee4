use Rattle.std.proofs.Common.{rules, ℕ, Bool, false, sym, ap, ◌∙◌, subst, arith}
use Rattle.outside.specs.Reads.{MovesBytes}
use Rattle.opl_lines.specs.Lines.{lines_of}
use Rattle.opl_lines.specs.Reading.{Reading, begun}
use Rattle.delta_feed.specs.Feeding.{TakesPiece}
use Rattle.delta_feed.proofs.Known.{reads_on}
use Rattle.delta_feed.proofs.LineSteps.{file_ended, left_moved, left_on}
use Rattle.delta_feed.proofs.reader.FeedReader.next_line.Goals as goal

pub returns-in-Ok-false-clause-line : goal.returns-in-Ok-false-clause-line
returns-in-Ok-false-clause-line g c = file_ended c.args.self.now c.loop-self.self (record c.piece.new.self { lines = c.finish.new.self })
    c.in-Ok-false.field-0 c.finish.result _ _ _ c.loop-self.invariant.left c.in-Ok-false.field-0-test
    (subst (λ (f : ℕ). MovesBytes c.loop-self.self.ahead c.piece.new.self.ahead c.in-Ok-false.field-0
    ((g.I.Inputs.view c.loop-self.inputs).left f) ((g.I.Inputs.view c.piece.new.inputs).left f)) c.loop-self.invariant.same.file
    c.in-Ok-false.ensures.bytes)
    (ap (λ (own : Reading). lines_of (begun own)) (sym c.in-Ok-false.ensures.lines) ∙ c.finish.ensures.lines)
    (c.in-Ok-false.ensures.none c.in-Ok-false.field-0-test)

pub returns-in-Ok-false-clause-reads : goal.returns-in-Ok-false-clause-reads
returns-in-Ok-false-clause-reads g c =
    let laws = g.met.I.Inputs g.world.𝓛 g.world.𝓜 g.world.𝓡 ((λ s x. x), (λ x. x), (λ x. x), λ x. x) in
    record {
      same = search rules;
      read = reads_on g.I.Inputs.reads g.I.Inputs.view c.args.self.now.file c.loop-self.self.file c.loop-self.invariant.same.file
          laws.reads_then c.args.inputs.now c.loop-self.inputs c.piece.new.inputs c.loop-self.invariant.alone c.piece.ensures.reads.read;
      stopped = search rules;
    }

pub returns-in-Err-clause-reads : goal.returns-in-Err-clause-reads
returns-in-Err-clause-reads g c =
    let laws = g.met.I.Inputs g.world.𝓛 g.world.𝓜 g.world.𝓡 ((λ s x. x), (λ x. x), (λ x. x), λ x. x) in
    record {
      same = search rules;
      read = reads_on g.I.Inputs.reads g.I.Inputs.view c.args.self.now.file c.loop-self.self.file c.loop-self.invariant.same.file
          laws.reads_then c.args.inputs.now c.loop-self.inputs c.piece.new.inputs c.loop-self.invariant.alone c.piece.ensures.reads.read;
      stopped = search rules;
    }

pub returns-in-Ok-true-take_piece-clause-reads : goal.returns-in-Ok-true-take_piece-clause-reads
returns-in-Ok-true-take_piece-clause-reads g c =
    let laws = g.met.I.Inputs g.world.𝓛 g.world.𝓜 g.world.𝓡 ((λ s x. x), (λ x. x), (λ x. x), λ x. x) in
    record {
      same = search rules;
      read = reads_on g.I.Inputs.reads g.I.Inputs.view c.args.self.now.file c.loop-self.self.file c.loop-self.invariant.same.file
          laws.reads_then c.args.inputs.now c.loop-self.inputs c.piece.new.inputs c.loop-self.invariant.alone c.piece.ensures.reads.read;
      stopped = search rules;
    }

pub returns-in-Err-take_piece-clause-reads : goal.returns-in-Err-take_piece-clause-reads
returns-in-Err-take_piece-clause-reads g c =
    let laws = g.met.I.Inputs g.world.𝓛 g.world.𝓜 g.world.𝓡 ((λ s x. x), (λ x. x), (λ x. x), λ x. x) in
    record {
      same = search rules;
      read = reads_on g.I.Inputs.reads g.I.Inputs.view c.args.self.now.file c.loop-self.self.file c.loop-self.invariant.same.file
          laws.reads_then c.args.inputs.now c.loop-self.inputs c.piece.new.inputs c.loop-self.invariant.alone c.piece.ensures.reads.read;
      stopped = search rules;
    }

pub loop-self-preserved : goal.loop-self-preserved
loop-self-preserved g c =
    let laws = g.met.I.Inputs g.world.𝓛 g.world.𝓜 g.world.𝓡 ((λ s x. x), (λ x. x), (λ x. x), λ x. x) in
    let piece = c.piece.new.self in
    let new = c.take_piece.new.self in
    let taken : TakesPiece piece new false =
    subst (λ (own : Bool). TakesPiece piece new own) c.in-Ok-false-take_piece.field-0-test c.in-Ok-false-take_piece.ensures.taken in
    record {
      ready = c.in-Ok-false-take_piece.ensures.ready;
      same = record {
        file = c.take_piece.ensures.same.file ∙ c.piece.ensures.reads.same.file ∙ c.loop-self.invariant.same.file;
        limits = c.take_piece.ensures.same.limits ∙ c.piece.ensures.reads.same.limits ∙ c.loop-self.invariant.same.limits;
      };
      number = omega (arith, taken.number, ap (λ (own : Reading). own.number) c.in-Ok-true.ensures.lines, c.loop-self.invariant.number);
      left = left_on c.args.self.now piece new _ _
          (left_moved c.args.self.now c.loop-self.self piece c.in-Ok-true.field-0 _ _ _ c.loop-self.invariant.left
          (subst (λ (f : ℕ). MovesBytes c.loop-self.self.ahead piece.ahead c.in-Ok-true.field-0
          ((g.I.Inputs.view c.loop-self.inputs).left f) ((g.I.Inputs.view c.piece.new.inputs).left f)) c.loop-self.invariant.same.file
          c.in-Ok-true.ensures.bytes) c.in-Ok-true.ensures.lines) taken;
      alone = reads_on g.I.Inputs.reads g.I.Inputs.view c.args.self.now.file c.loop-self.self.file c.loop-self.invariant.same.file
          laws.reads_then c.args.inputs.now c.loop-self.inputs c.piece.new.inputs c.loop-self.invariant.alone c.piece.ensures.reads.read;
    }
