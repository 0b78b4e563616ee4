use Rattle.store_check.proofs.HeldLaws.{place_put, place_same}
use Rattle.store_check.proofs.PlaceLists.{on_err}
use Rattle.store_check.proofs.held.Held.put_place.Goals as goal

pub returns-clause-ok : goal.returns-clause-ok
returns-clause-ok c =
    place_put c.self.inside.places c.self.inside.ways c.self.inside.relations c.self.inside.members c.args.self.now c.self.view_is
    c.args.id c.put.new.self c.args.place c.in_ok-put.ensures.ok

pub returns-in_err-put-clause-err : goal.returns-in_err-put-clause-err
returns-in_err-put-clause-err c =
    on_err c.from_residual.result
    (place_same c.self.inside.places c.self.inside.ways c.self.inside.relations c.self.inside.members c.args.self.now c.self.view_is
    c.args.id c.put.new.self c.in_err-put.ensures.err)
