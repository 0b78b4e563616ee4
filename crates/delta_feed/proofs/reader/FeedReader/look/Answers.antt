use Rattle.std.proofs.Common.{rules, ℕ, subst}
use Rattle.outside.specs.Reads.{MovesBytes}
use Rattle.delta_feed.proofs.BlockSteps.{moved_more}
use Rattle.delta_feed.proofs.Known.{reads_on}
use Rattle.delta_feed.proofs.reader.FeedReader.look.Goals as goal

pub loop-alloc-preserved : goal.loop-alloc-preserved
loop-alloc-preserved g c =
    let laws = g.met.I.Inputs g.world.𝓛 g.world.𝓜 g.world.𝓡 ((λ s x. x), (λ x. x), (λ x. x), λ x. x) in
    record {
      same = record { file = c.loop-alloc.invariant.same.file; limits = c.loop-alloc.invariant.same.limits };
      lines_same = c.loop-alloc.invariant.lines_same;
      moved = moved_more c.args.self.now.ahead c.loop-alloc.self.ahead c.fill.new.self c.in-Ok-true.field-0 _ _ _ c.loop-alloc.invariant.moved
          (subst (λ (f : ℕ). MovesBytes c.loop-alloc.self.ahead c.fill.new.self c.in-Ok-true.field-0
          ((g.I.Inputs.view c.loop-alloc.inputs).left f) ((g.I.Inputs.view c.fill.new.inputs).left f)) c.loop-alloc.invariant.same.file
          c.in-Ok-true.ensures.bytes);
      alone = reads_on g.I.Inputs.reads g.I.Inputs.view c.args.self.now.file c.loop-alloc.self.file c.loop-alloc.invariant.same.file
          laws.reads_then c.args.inputs.now c.loop-alloc.inputs c.fill.new.inputs c.loop-alloc.invariant.alone c.fill.ensures.read;
    }

pub returns-in-Ok-false-clause-reads : goal.returns-in-Ok-false-clause-reads
returns-in-Ok-false-clause-reads g c =
    let laws = g.met.I.Inputs g.world.𝓛 g.world.𝓜 g.world.𝓡 ((λ s x. x), (λ x. x), (λ x. x), λ x. x) in
    record {
      same = search rules;
      read = reads_on g.I.Inputs.reads g.I.Inputs.view c.args.self.now.file c.loop-alloc.self.file c.loop-alloc.invariant.same.file
          laws.reads_then c.args.inputs.now c.loop-alloc.inputs c.fill.new.inputs c.loop-alloc.invariant.alone c.fill.ensures.read;
      stopped = search rules;
    }

pub returns-in-Err-clause-reads : goal.returns-in-Err-clause-reads
returns-in-Err-clause-reads g c =
    let laws = g.met.I.Inputs g.world.𝓛 g.world.𝓜 g.world.𝓡 ((λ s x. x), (λ x. x), (λ x. x), λ x. x) in
    record {
      same = search rules;
      read = reads_on g.I.Inputs.reads g.I.Inputs.view c.args.self.now.file c.loop-alloc.self.file c.loop-alloc.invariant.same.file
          laws.reads_then c.args.inputs.now c.loop-alloc.inputs c.fill.new.inputs c.loop-alloc.invariant.alone c.fill.ensures.read;
      stopped = search rules;
    }
