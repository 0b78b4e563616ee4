use Rattle.std.proofs.Common.{◌≡◌, ◌+◌, ◌∙◌, arith, length, append_assoc}
use Rattle.std.proofs.Math.ListN.{set, length-set}
use Rattle.lanes_geo.proofs.Marks.{bits_of, one_set, four_at}
use Rattle.lanes_geo.proofs.boxes.mark_four.Goals as goal

pub returns : goal.returns
returns c =
    let boxes = c.args.boxes.now in
    let at = c.args.at in
    let m = c.args.mask.now in
    let a = c.all_four.result in
    let b = c.all_four-2.result in
    let d = c.all_four-3.result in
    let e = c.all_four-4.result in
    let m1 = set m at a in
    let m2 = set m1 (at + 1) b in
    let m3 = set m2 (at + 2) d in
    let tests = bits_of c.args.asked _ _ _ _ c.sides_between-bits.result c.args.least c.sides-sides.result c.args.most c.requires.fits
    c.sides-sides.ensures.fits
    c.requires.least c.requires.most c.sides-sides.ensures.sides c.sides_between-bits.ensures in
    let l1 : length m1 ≡ length m = length-set m at a in
    let l2 : length m2 ≡ length m = length-set m1 (at + 1) b ∙ l1 in
    let l3 : length m3 ≡ length m = length-set m2 (at + 2) d ∙ l2 in
    let s1 = one_set m at (at + 1) a (omega arith) (omega arith) in
    let s2 = one_set m1 (at + 1) (at + 2) b (omega arith) (omega arith) in
    let s3 = one_set m2 (at + 2) (at + 3) d (omega arith) (omega arith) in
    let s4 = one_set m3 (at + 3) (at + 4) e (omega arith) (omega arith) in
    let boxes_are = four_at boxes at c.box_at-first.result c.box_at-second.result c.box_at-third.result c.box_at-fourth.result
    c.requires.room
    c.box_at-first.ensures c.box_at-second.ensures c.box_at-third.ensures c.box_at-fourth.ensures in
    let one = c.all_four.ensures ∙ tests.0 in
    let two = c.all_four-2.ensures ∙ tests.1 in
    let three = c.all_four-3.ensures ∙ tests.2 in
    let four = c.all_four-4.ensures ∙ tests.3 in
    rw (s4, s3, s2, s1, boxes_are, one, two, three, four) (simp append_assoc)
