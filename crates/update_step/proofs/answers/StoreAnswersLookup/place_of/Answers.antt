use Rattle.std.proofs.Common.{ap, ◌∙◌, sym}
use Rattle.std.specs.Option.{option_map}
use Rattle.osm_base.specs.map.Objects.{place_in}
use Rattle.update_step.specs.Gather.{flattened, said_by}
use Rattle.update_step.proofs.Trees.{got_id, none-before, some-before}
use Rattle.update_step.proofs.answers.StoreAnswersLookup.place_of.Goals as goal

pub returns-in-Some : goal.returns-in-Some
returns-in-Some c =
    record {
      place = c.place_in.ensures.place
          ∙ ap flattened (some-before ((said_by c.args.self.now.change.now).places c.args.id) _ _
          (ap (option_map place_in) (sym c.in-Some.ensures.named)));
    }

pub returns-in-Some-get : goal.returns-in-Some-get
returns-in-Some-get c =
    record {
      place = ap flattened (c.in-Some-get.ensures.value ∙ got_id c.args.self.now.places c.args.id
          ∙ none-before ((said_by c.args.self.now.change.now).places c.args.id) _ (ap (option_map place_in) (sym c.in-None.ensures.named)));
    }

pub returns-in-None-get : goal.returns-in-None-get
returns-in-None-get c =
    record {
      place = ap flattened (c.in-None-get.ensures.value ∙ got_id c.args.self.now.places c.args.id
          ∙ none-before ((said_by c.args.self.now.change.now).places c.args.id) _ (ap (option_map place_in) (sym c.in-None.ensures.named)));
    }
