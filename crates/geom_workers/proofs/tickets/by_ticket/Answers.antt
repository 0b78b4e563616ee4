use Rattle.std.proofs.Common.{◌≡◌, ◌∷◌, List, [], length, refl, subst, arith}
use Rattle.osm_base.specs.declared.values.row.TableRow.{TableRow}
use Rattle.geom_workers.proofs.Placing.{Placed, ends, place_within, places, starts}
use Rattle.geom_workers.proofs.tickets.by_ticket.Goals as goal

nothing : {A : Type 0} (xs : List A) → length xs ≡ 0 → xs ≡ []
nothing [] e = refl
nothing (x ∷ xs) e = absurd (omega arith)

pub placing-init : goal.placing-init
placing-init c =
    rw c.into_vec-rows.ensures.items (starts [] c.args.count c.args.tickets.now c.args.rows c.in_ok-all.all.items c.in_ok-all.ensures.count
    c.requires.once c.requires.pairs)

pub index_mut-requires : goal.index_mut-requires
index_mut-requires c =
    let before = subst (λ (left : List (List TableRow)). Placed [] c.args.count c.args.tickets.now c.args.rows left c.placing.all.items)
    c.in-Some.ensures.items c.placing.invariant in
    let within = place_within [] c.args.count c.args.tickets.now c.args.rows c.pop.new.self.items c.placing.all.items c.in-Some.built
    c.requires.once c.requires.pairs before in
    let n : c.len.result ≡ length c.pop.new.self.items = omega arith in
    rw n (omega arith)

pub placing-preserved : goal.placing-preserved
placing-preserved c =
    let before = subst (λ (left : List (List TableRow)). Placed [] c.args.count c.args.tickets.now c.args.rows left c.placing.all.items)
    c.in-Some.ensures.items c.placing.invariant in
    let n : c.len.result ≡ length c.pop.new.self.items = omega arith in
    rw n (places [] c.args.count c.args.tickets.now c.args.rows c.pop.new.self.items c.placing.all.items c.in-Some.built c.requires.once
    c.requires.pairs before)

pub returns : goal.returns
returns c =
    let cases = c.in_default.ensures.cases in
    let left : c.placing.rows.items ≡ [] = nothing c.placing.rows.items (omega arith) in
    let last = subst (λ (left : List (List TableRow)). Placed [] c.args.count c.args.tickets.now c.args.rows left c.placing.all.items) left
    c.placing.invariant in
    record {
      rows = λ of e. rw c.from_vec.ensures.items
          (ends [] c.args.count c.args.tickets.now c.args.rows c.placing.all.items last of e);
    }
