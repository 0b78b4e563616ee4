use Rattle.std.proofs.Common.{rules, ◌∙◌, refl}
use Rattle.doubles.specs.Tape.{Medium}
use Rattle.doubles.specs.Recorded.{first_bytes}
use Rattle.doubles.proofs.recorded.Recorded.look.Goals as goal

pub invariant_of-self-clause-kept : goal.invariant_of-self-clause-kept
invariant_of-self-clause-kept c =
    c.note.ensures.idle (λ (medium : Medium). refl) (first_bytes c.args.self.now.start c.args.self.now.bytes.items) ∙ c.args.self.now.kept

pub returns-clause-keeps : goal.returns-clause-keeps
returns-clause-keeps c = record {
  kept = search rules;
  lost = search rules;
  start = search rules;
  time = c.note.ensures.time (first_bytes c.args.self.now.start c.args.self.now.bytes.items);
}
