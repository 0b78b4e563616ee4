use Rattle.std.proofs.Common.{refl, ◌∙◌}
use Rattle.opl_object.specs.declared.letter.Letter.TheVariants.{Version, Visible, Changeset, Time}
use Rattle.opl_object.specs.Letter.{none_stood, also}
use Rattle.opl_object.specs.Parts.{nothing}
use Rattle.opl_object.proofs.head.behind_head.Goals as goal

pub returns : goal.returns
returns c = record {
  same = λ kind.
      let one = also none_stood Version in
      let two = also one Visible in
      let three = also two Changeset in
      let four = also three Time in
      c.in_ok-text-5.ensures.passes kind four nothing refl
      ∙ c.in_ok-text-4.ensures.passes kind three nothing refl
      ∙ c.in_ok-text-3.ensures.passes kind two nothing refl
      ∙ c.in_ok-text-2.ensures.passes kind one nothing refl
      ∙ c.in_ok-text.ensures.passes kind none_stood nothing refl;
}
