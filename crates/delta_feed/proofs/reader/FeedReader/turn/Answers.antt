use Rattle.std.proofs.Common.{rules, ◌≡◌, ℕ, Bool, ap, ◌∙◌, subst}
use Rattle.std.specs.Option.{option_copied}
use Rattle.opl_lines.specs.Reading.{Reading}
use Rattle.outside.specs.Bytes.{BothKnown}
use Rattle.delta_feed.specs.Blocks.{goes_on}
use Rattle.delta_feed.specs.Feeding.{TakesOne, lines_left}
use Rattle.delta_feed.proofs.Known.{reads_on}
use Rattle.delta_feed.proofs.TurnSteps.{counted_none, counted_one, end_stops, limit_stops, line_stops, turn_leads, turn_sounds, turn_stops}
use Rattle.delta_feed.proofs.reader.FeedReader.turn.Goals as goal

pub returns-in-Ok-false-clause-reads : goal.returns-in-Ok-false-clause-reads
returns-in-Ok-false-clause-reads g c =
    record {
      same = search rules;
      read = search rules;
      stopped = end_stops (option_copied c.args.base) c.args.self.now c.next_line.new.self c.next_line.new.self.lines.line
          ((g.I.Inputs.view c.args.inputs.now).left c.args.self.now.file) ((g.I.Inputs.view c.next_line.new.inputs).left c.args.self.now.file) _
          (subst (λ (own : Bool). BothKnown ((g.I.Inputs.view c.args.inputs.now).left c.args.self.now.file)
          ((g.I.Inputs.view c.next_line.new.inputs).left c.args.self.now.file) (λ before after. TakesOne own c.next_line.new.self.lines.line
          (lines_left c.args.self.now before) (lines_left c.next_line.new.self after))) c.in-Ok-false.field-0-test c.in-Ok-false.ensures.line)
          c.args.stage c.next_line.new.self.lines.number c.end.result
          (counted_none c.in-Ok-false.field-0 c.args.self.now.lines.number c.next_line.new.self.lines.number c.in-Ok-false.field-0-test
          c.in-Ok-false.ensures.number) c.end.ensures.end;
    }

pub returns-in-Err-clause-reads : goal.returns-in-Err-clause-reads
returns-in-Err-clause-reads g c =
    record {
      same = search rules;
      read = search rules;
      stopped = limit_stops (option_copied c.args.base) c.args.stage c.args.self.now
          ((g.I.Inputs.view c.args.inputs.now).left c.args.self.now.file) _ c.in-Err.fault c.in-Err.ensures.reads.stopped;
    }

pub returns-in-Err-read-clause-reads : goal.returns-in-Err-read-clause-reads
returns-in-Err-read-clause-reads g c =
    record {
      same = search rules;
      read = search rules;
      stopped = line_stops (option_copied c.args.base) c.args.stage c.args.self.now c.next_line.new.self c.next_line.new.self.lines.line
          ((g.I.Inputs.view c.args.inputs.now).left c.args.self.now.file) ((g.I.Inputs.view c.next_line.new.inputs).left c.args.self.now.file)
          (c.in-Ok-true.ensures.fits c.in-Ok-true.field-0-test)
          (subst (λ (own : Bool). BothKnown ((g.I.Inputs.view c.args.inputs.now).left c.args.self.now.file)
          ((g.I.Inputs.view c.next_line.new.inputs).left c.args.self.now.file) (λ before after. TakesOne own c.next_line.new.self.lines.line
          (lines_left c.args.self.now before) (lines_left c.next_line.new.self after))) c.in-Ok-true.field-0-test c.in-Ok-true.ensures.line)
          c.next_line.new.self.lines.number _ c.in-Err-read.fault
          (counted_one c.in-Ok-true.field-0 c.args.self.now.lines.number c.next_line.new.self.lines.number c.in-Ok-true.field-0-test
          c.in-Ok-true.ensures.number) c.in-Err-read.ensures.stopped;
    }

pub returns-in-Err-goes_on-clause-reads : goal.returns-in-Err-goes_on-clause-reads
returns-in-Err-goes_on-clause-reads g c =
    let laws = g.met.I.Inputs g.world.𝓛 g.world.𝓜 g.world.𝓡 ((λ s x. x), (λ x. x), (λ x. x), λ x. x) in
    record {
      same = search rules;
      read = reads_on g.I.Inputs.reads g.I.Inputs.view c.args.self.now.file c.next_line.new.self.file c.next_line.ensures.reads.same.file
          laws.reads_then c.args.inputs.now c.next_line.new.inputs c.goes_on.new.inputs c.next_line.ensures.reads.read c.goes_on.ensures.reads.read;
      stopped = search rules;
    }

pub returns-clause-turn : goal.returns-clause-turn
returns-clause-turn g c = turn_leads (option_copied c.args.base) c.args.stage c.args.self.now c.next_line.new.self c.next_line.new.self.lines.line
    ((g.I.Inputs.view c.args.inputs.now).left c.args.self.now.file) ((g.I.Inputs.view c.next_line.new.inputs).left c.args.self.now.file)
    (c.in-Ok-true.ensures.fits c.in-Ok-true.field-0-test)
    (subst (λ (own : Bool). BothKnown ((g.I.Inputs.view c.args.inputs.now).left c.args.self.now.file)
    ((g.I.Inputs.view c.next_line.new.inputs).left c.args.self.now.file) (λ before after. TakesOne own c.next_line.new.self.lines.line
    (lines_left c.args.self.now before) (lines_left c.next_line.new.self after))) c.in-Ok-true.field-0-test c.in-Ok-true.ensures.line)
    c.goes_on.new.self ((g.I.Inputs.view c.goes_on.new.inputs).left c.args.self.now.file) c.in-Ok.read c.in-Ok-goes_on.goes_on c.in-Ok.ensures.line
    (subst (λ (f : ℕ). BothKnown ((g.I.Inputs.view c.next_line.new.inputs).left f) ((g.I.Inputs.view c.goes_on.new.inputs).left f)
    (λ before after. (lines_left c.next_line.new.self before ≡ lines_left c.goes_on.new.self after)
    × (c.in-Ok-goes_on.goes_on ≡ goes_on c.in-Ok.read (lines_left c.goes_on.new.self after)))) c.next_line.ensures.reads.same.file
    c.in-Ok-goes_on.ensures.value)
    c.take.result
    (ap (λ (own : Reading). own.number) c.goes_on.ensures.lines
    ∙ counted_one c.in-Ok-true.field-0 c.args.self.now.lines.number c.next_line.new.self.lines.number c.in-Ok-true.field-0-test
    c.in-Ok-true.ensures.number)
    c.take.ensures.turn c.take.ensures.some

pub returns-clause-sound : goal.returns-clause-sound
returns-clause-sound g c = turn_sounds (option_copied c.args.base) c.args.stage c.in-Ok.read c.in-Ok-goes_on.goes_on c.take.result c.requires.sound
    c.in-Ok.ensures.stands c.in-Ok.ensures.fits c.take.ensures.turn

pub returns-clause-reads : goal.returns-clause-reads
returns-clause-reads g c =
    let laws = g.met.I.Inputs g.world.𝓛 g.world.𝓜 g.world.𝓡 ((λ s x. x), (λ x. x), (λ x. x), λ x. x) in
    record {
      same = search rules;
      read = reads_on g.I.Inputs.reads g.I.Inputs.view c.args.self.now.file c.next_line.new.self.file c.next_line.ensures.reads.same.file
          laws.reads_then c.args.inputs.now c.next_line.new.inputs c.goes_on.new.inputs c.next_line.ensures.reads.read c.goes_on.ensures.reads.read;
      stopped = turn_stops (option_copied c.args.base) c.args.stage c.args.self.now c.next_line.new.self c.next_line.new.self.lines.line
          ((g.I.Inputs.view c.args.inputs.now).left c.args.self.now.file) ((g.I.Inputs.view c.next_line.new.inputs).left c.args.self.now.file)
          (c.in-Ok-true.ensures.fits c.in-Ok-true.field-0-test)
          (subst (λ (own : Bool). BothKnown ((g.I.Inputs.view c.args.inputs.now).left c.args.self.now.file)
          ((g.I.Inputs.view c.next_line.new.inputs).left c.args.self.now.file) (λ before after. TakesOne own c.next_line.new.self.lines.line
          (lines_left c.args.self.now before) (lines_left c.next_line.new.self after))) c.in-Ok-true.field-0-test c.in-Ok-true.ensures.line)
          c.goes_on.new.self ((g.I.Inputs.view c.goes_on.new.inputs).left c.args.self.now.file) c.in-Ok.read c.in-Ok-goes_on.goes_on c.in-Ok.ensures.line
          (subst (λ (f : ℕ). BothKnown ((g.I.Inputs.view c.next_line.new.inputs).left f) ((g.I.Inputs.view c.goes_on.new.inputs).left f)
          (λ before after. (lines_left c.next_line.new.self before ≡ lines_left c.goes_on.new.self after)
          × (c.in-Ok-goes_on.goes_on ≡ goes_on c.in-Ok.read (lines_left c.goes_on.new.self after)))) c.next_line.ensures.reads.same.file
          c.in-Ok-goes_on.ensures.value)
          c.goes_on.new.self.lines.number _ c.take.result
          (ap (λ (own : Reading). own.number) c.goes_on.ensures.lines
          ∙ counted_one c.in-Ok-true.field-0 c.args.self.now.lines.number c.next_line.new.self.lines.number c.in-Ok-true.field-0-test
          c.in-Ok-true.ensures.number)
          c.take.ensures.stopped;
    }
