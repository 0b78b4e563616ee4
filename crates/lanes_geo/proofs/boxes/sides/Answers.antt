use Rattle.std.proofs.Common.{[], ◌∷◌, rules}
use Rattle.lanes_geo.proofs.Marks.{as_raised}
use Rattle.lanes_geo.proofs.boxes.sides.Goals as goal

pub returns-clause-sides : goal.returns-clause-sides
returns-clause-sides c =
    let e0 = as_raised c.args.first.west c.raise.result c.raise.ensures.raised (search rules) in
    let e1 = as_raised c.args.first.south c.raise-2.result c.raise-2.ensures.raised (search rules) in
    let e2 = as_raised c.args.first.east c.raise-3.result c.raise-3.ensures.raised (search rules) in
    let e3 = as_raised c.args.first.north c.raise-4.result c.raise-4.ensures.raised (search rules) in
    let e4 = as_raised c.args.second.west c.raise-5.result c.raise-5.ensures.raised (search rules) in
    let e5 = as_raised c.args.second.south c.raise-6.result c.raise-6.ensures.raised (search rules) in
    let e6 = as_raised c.args.second.east c.raise-7.result c.raise-7.ensures.raised (search rules) in
    let e7 = as_raised c.args.second.north c.raise-8.result c.raise-8.ensures.raised (search rules) in
    let e8 = as_raised c.args.third.west c.raise-9.result c.raise-9.ensures.raised (search rules) in
    let e9 = as_raised c.args.third.south c.raise-10.result c.raise-10.ensures.raised (search rules) in
    let e10 = as_raised c.args.third.east c.raise-11.result c.raise-11.ensures.raised (search rules) in
    let e11 = as_raised c.args.third.north c.raise-12.result c.raise-12.ensures.raised (search rules) in
    let e12 = as_raised c.args.fourth.west c.raise-13.result c.raise-13.ensures.raised (search rules) in
    let e13 = as_raised c.args.fourth.south c.raise-14.result c.raise-14.ensures.raised (search rules) in
    let e14 = as_raised c.args.fourth.east c.raise-15.result c.raise-15.ensures.raised (search rules) in
    let e15 = as_raised c.args.fourth.north c.raise-16.result c.raise-16.ensures.raised (search rules) in
    λ i. e0 i ∷ (e1 i ∷ (e2 i ∷ (e3 i ∷ (e4 i
    ∷ (e5 i ∷ (e6 i ∷ (e7 i ∷ (e8 i ∷ (e9 i ∷ (e10 i ∷ (e11 i ∷ (e12 i ∷ (e13 i ∷ (e14 i ∷ (e15 i ∷ [])))))))))))))))
