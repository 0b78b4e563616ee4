-- A place in the page of its number.
use Rattle.std.proofs.Common.{◌∙◌}
use Rattle.bucket_store.proofs.PlaceLaws.{same_pages, set_beside, set_here}
use Rattle.bucket_store.proofs.places.Places.set.Goals as goal

pub returns-clause-here : goal.returns-clause-here
returns-clause-here c =
    set_here c.reach.new.pages.items c.args.n c.set.new.self c.in_ok-reach.ensures.there ∙ c.in_ok-set.ensures.here

pub returns-clause-others : goal.returns-clause-others
returns-clause-others c other apart =
    set_beside c.reach.new.pages.items c.args.n other c.index_mut.result.now c.set.new.self c.in_ok-reach.ensures.there
    c.index_mut.ensures.value c.in_ok-set.ensures.others apart
    ∙ same_pages c.args.self.now.pages.items c.reach.new.pages.items other c.in_ok-reach.ensures.same
