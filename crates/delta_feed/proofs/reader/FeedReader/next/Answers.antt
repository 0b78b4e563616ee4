use Rattle.std.proofs.Common.{◌≡◌, ◌≤◌, ◌<◌, ℕ, Option, Some, ap, ◌∙◌, arith, subst}
use Rattle.osm_base.specs.declared.bounds.limits.LimitNumbers.{LimitNumbers}
use Rattle.std.specs.Prelude.{IfSome}
use Rattle.std.specs.Option.{option_copied}
use Rattle.outside.specs.Bytes.{BothKnown}
use Rattle.delta_feed.specs.Feeding.{Leads, lines_left}
use Rattle.delta_feed.specs.Sound.{IsSoundTurn}
use Rattle.delta_feed.specs.declared.turn.Turn.{Turn}
use Rattle.delta_feed.specs.declared.turn.Turn.TheVariants as turns
use Rattle.delta_feed.proofs.BlockSteps.{LeadsTo, goes_sound, leads_on, not_first}
use Rattle.delta_feed.proofs.Known.{reads_on}
use Rattle.delta_feed.proofs.reader.FeedReader.next.Goals as goal

pub loop-next-preserved : goal.loop-next-preserved
loop-next-preserved g c =
    let laws = g.met.I.Inputs g.world.𝓛 g.world.𝓜 g.world.𝓡 ((λ s x. x), (λ x. x), (λ x. x), λ x. x) in
    let base = option_copied c.args.base in
    let now = c.loop-next.self in
    let new = c.turn.new.self in
    let turn_is : c.in-Ok-Some-On.field-0 ≡ Some (turns.On c.in-Ok-Some-On.next) =
    c.in-Ok-Some-On.field-0-is ∙ ap (λ (own : Turn). Some own) c.in-Ok-Some-On.field-0-0-is in
    let sound : IsSoundTurn base (turns.On c.in-Ok-Some-On.next) =
    subst (λ (own : Option Turn). IfSome own (IsSoundTurn base)) turn_is c.in-Ok-Some-On.ensures.sound in
    let rise : (now.lines.number < new.lines.number) × (new.lines.number ≤ now.limits.lines) =
    subst (λ (own : Option Turn). IfSome own (λ _. (now.lines.number < new.lines.number) × (new.lines.number ≤ now.limits.lines))) turn_is
    c.in-Ok-Some-On.ensures.number in
    let turn : BothKnown ((g.I.Inputs.view c.loop-next.inputs).left now.file) ((g.I.Inputs.view c.turn.new.inputs).left now.file)
    (λ before after. Leads base c.loop-next.stage now new (lines_left now before) (lines_left new after) (Some (turns.On c.in-Ok-Some-On.next))) =
    subst (λ (own : Option Turn). BothKnown ((g.I.Inputs.view c.loop-next.inputs).left now.file) ((g.I.Inputs.view c.turn.new.inputs).left now.file)
    (λ before after. Leads base c.loop-next.stage now new (lines_left now before) (lines_left new after) own)) turn_is c.in-Ok-Some-On.ensures.turn in
    let leads : LeadsTo base c.in-Ok-Some-On.next c.args.self.now new ((g.I.Inputs.view c.args.inputs.now).left c.args.self.now.file)
    ((g.I.Inputs.view c.turn.new.inputs).left c.args.self.now.file) =
    leads_on base c.loop-next.stage c.in-Ok-Some-On.next c.args.self.now now new _ _ _ c.loop-next.invariant.same.limits c.loop-next.invariant.leads
    (subst (λ (f : ℕ). BothKnown ((g.I.Inputs.view c.loop-next.inputs).left f) ((g.I.Inputs.view c.turn.new.inputs).left f)
    (λ before after. Leads base c.loop-next.stage now new (lines_left now before) (lines_left new after) (Some (turns.On c.in-Ok-Some-On.next))))
    c.loop-next.invariant.same.file turn) in
    record {
      going = c.in-Ok-Some-On.ensures.going;
      counted = omega (arith, c.loop-next.invariant.counted, rise.0);
      same = record {
        file = c.turn.ensures.reads.same.file ∙ c.loop-next.invariant.same.file;
        limits = c.turn.ensures.reads.same.limits ∙ c.loop-next.invariant.same.limits;
      };
      sound = goes_sound base c.in-Ok-Some-On.next sound;
      leads = leads;
      first = not_first base c.in-Ok-Some-On.next c.args.self.now new _ _ sound leads;
      alone = reads_on g.I.Inputs.reads g.I.Inputs.view c.args.self.now.file now.file c.loop-next.invariant.same.file
          laws.reads_then c.args.inputs.now c.loop-next.inputs c.turn.new.inputs c.loop-next.invariant.alone c.turn.ensures.reads.read;
    }

pub returns-in-Ok-Some-Whole-clause-number : goal.returns-in-Ok-Some-Whole-clause-number
returns-in-Ok-Some-Whole-clause-number g c =
    let now = c.loop-next.self in
    let new = c.turn.new.self in
    let turn_is : c.in-Ok-Some-Whole.field-0 ≡ Some (turns.Whole c.in-Ok-Some-Whole.block) =
    c.in-Ok-Some-Whole.field-0-is ∙ ap (λ (own : Turn). Some own) c.in-Ok-Some-Whole.field-0-0-is in
    let rise : (now.lines.number < new.lines.number) × (new.lines.number ≤ now.limits.lines) =
    subst (λ (own : Option Turn). IfSome own (λ _. (now.lines.number < new.lines.number) × (new.lines.number ≤ now.limits.lines))) turn_is
    c.in-Ok-Some-Whole.ensures.number in (
      omega (arith, c.loop-next.invariant.counted, rise.0),
      subst (λ (own : LimitNumbers). new.lines.number ≤ own.lines) c.loop-next.invariant.same.limits rise.1,
    )

pub returns-in-Ok-Some-Whole-clause-read : goal.returns-in-Ok-Some-Whole-clause-read
returns-in-Ok-Some-Whole-clause-read g c =
    let laws = g.met.I.Inputs g.world.𝓛 g.world.𝓜 g.world.𝓡 ((λ s x. x), (λ x. x), (λ x. x), λ x. x) in
    reads_on g.I.Inputs.reads g.I.Inputs.view c.args.self.now.file c.loop-next.self.file c.loop-next.invariant.same.file
    laws.reads_then c.args.inputs.now c.loop-next.inputs c.turn.new.inputs c.loop-next.invariant.alone c.turn.ensures.reads.read

pub returns-in-Ok-clause-read : goal.returns-in-Ok-clause-read
returns-in-Ok-clause-read g c =
    let laws = g.met.I.Inputs g.world.𝓛 g.world.𝓜 g.world.𝓡 ((λ s x. x), (λ x. x), (λ x. x), λ x. x) in
    reads_on g.I.Inputs.reads g.I.Inputs.view c.args.self.now.file c.loop-next.self.file c.loop-next.invariant.same.file
    laws.reads_then c.args.inputs.now c.loop-next.inputs c.turn.new.inputs c.loop-next.invariant.alone c.turn.ensures.reads.read

pub returns-in-Err-clause-read : goal.returns-in-Err-clause-read
returns-in-Err-clause-read g c =
    let laws = g.met.I.Inputs g.world.𝓛 g.world.𝓜 g.world.𝓡 ((λ s x. x), (λ x. x), (λ x. x), λ x. x) in
    reads_on g.I.Inputs.reads g.I.Inputs.view c.args.self.now.file c.loop-next.self.file c.loop-next.invariant.same.file
    laws.reads_then c.args.inputs.now c.loop-next.inputs c.turn.new.inputs c.loop-next.invariant.alone c.turn.ensures.reads.read
