use Rattle.std.proofs.Common.{◌≡◌, ◌∙◌, sym, false}
use Rattle.std.proofs.lemmas.List.{append-nil}
use Rattle.lanes_geo.specs.Nesting.{ring_at}
use Rattle.ring_nest.specs.Holders.{is_holder}
use Rattle.ring_nest.proofs.Held.{not_held}
use Rattle.ring_nest.proofs.Itself.{not_itself}
use Rattle.ring_nest.proofs.Walked.{boxed_at}
use Rattle.ring_nest.proofs.tree.add_if_holder.Goals as goal

pub returns-then-not-is_met : goal.returns-then-not-is_met
returns-then-not-is_met c =
    let rings = c.args.rings.now in
    let none : is_holder rings (ring_at rings c.args.number) c.args.other ≡ false =
    not_held (ring_at rings c.args.number) (ring_at rings c.args.other) (boxed_at rings c.args.other c.requires.boxed c.requires.other)
    (boxed_at rings c.args.number c.requires.boxed c.requires.number) (sym c.requires.met ∙ c.if-not-is_met.true) in
    rw (none, append-nil)

pub returns-then-other-number : goal.returns-then-other-number
returns-then-other-number c =
    let rings = c.args.rings.now in
    let none : is_holder rings (ring_at rings c.args.number) c.args.other ≡ false =
    rw c.if-other-number.true (not_itself (ring_at rings c.args.number)) in
    rw (none, append-nil)
