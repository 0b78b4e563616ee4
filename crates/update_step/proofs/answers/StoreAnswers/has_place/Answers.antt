use Rattle.std.proofs.Common.{ap, ◌∙◌, sym}
use Rattle.std.specs.Option.{is_some, option_map}
use Rattle.osm_base.specs.map.Objects.{place_in}
use Rattle.update_step.specs.Gather.{said_by}
use Rattle.update_step.proofs.Trees.{got_id, none-before, some-before}
use Rattle.update_step.proofs.answers.StoreAnswers.has_place.Goals as goal

pub returns-in-Some : goal.returns-in-Some
returns-in-Some c =
    record {
      there = ap is_some (some-before ((said_by c.args.self.now.change.now).places c.args.id) _ _
          (ap (option_map place_in) (sym c.in-Some.ensures.named)));
    }

pub returns-in-None : goal.returns-in-None
returns-in-None c =
    record {
      there = c.contains_key.ensures ∙ ap is_some (got_id c.args.self.now.places c.args.id
          ∙ none-before ((said_by c.args.self.now.change.now).places c.args.id) _ (ap (option_map place_in) (sym c.in-None.ensures.named)));
    }
