use Rattle.std.proofs.Common.{◌≡◌, length, arith, rules, sym, w32, FitsSigned}
use Rattle.std.proofs.lemmas.Int.{to_z-of_z}
use Rattle.tile_cover.proofs.Tables.{one_read, too_many, all_read, wrong_count, table_read}
use Rattle.tile_cover.proofs.reading.read_bounds.Goals as goal

pub returns-then-len-eq-MOST_LINES-clause-bad : goal.returns-then-len-eq-MOST_LINES-clause-bad
returns-then-len-eq-MOST_LINES-clause-bad c =
    let same : c.len-then-len-eq-MOST_LINES.result ≡ length c.loop-rest.lats.items = omega arith in
    rw (c.bad_after.ensures, same) (too_many c.args.bytes.now c.loop-rest.rest.now c.loop-rest.lats.items _ c.loop-rest.invariant
    (omega arith) (omega arith))

pub loop-rest-preserved : goal.loop-rest-preserved
loop-rest-preserved c =
    let fits : FitsSigned w32 c.in-Some.lat = search rules in
    rw (c.in_ok-push.ensures.items, to_z-of_z w32 c.in-Some.lat fits)
    (one_read c.args.bytes.now c.loop-rest.rest.now c.first_line.result.0.now c.first_line.result.1.now c.loop-rest.lats.items _
    c.in-Some.lat c.loop-rest.invariant
    c.first_line.ensures.lines (sym c.in-Some.ensures.lat) c.in-Some.ensures.latitude c.in-Some.ensures.south
    (λ e. c.if-len-eq-MOST_LINES.false (omega arith)))

pub returns-in-Some-zoom_of-clause-table : goal.returns-in-Some-zoom_of-clause-table
returns-in-Some-zoom_of-clause-table c =
    let all = all_read c.args.bytes.now c.loop-rest.rest.now c.loop-rest.lats.items _ c.loop-rest.invariant (omega arith) in
    let some = c.in-Some-zoom_of.ensures.some in
    rw c.new.ensures (table_read c.args.bytes.now c.loop-rest.lats.items c.in-Some-zoom_of.zoom all some.0 (omega (arith, some.1))).1

pub returns-in-Some-zoom_of-clause-lats : goal.returns-in-Some-zoom_of-clause-lats
returns-in-Some-zoom_of-clause-lats c =
    let all = all_read c.args.bytes.now c.loop-rest.rest.now c.loop-rest.lats.items _ c.loop-rest.invariant (omega arith) in
    rw c.new.ensures (sym all.all)

pub returns-in-None-clause-bad : goal.returns-in-None-clause-bad
returns-in-None-clause-bad c =
    let all = all_read c.args.bytes.now c.loop-rest.rest.now c.loop-rest.lats.items _ c.loop-rest.invariant (omega arith) in
    let same : c.len-in-None.result ≡ length c.loop-rest.lats.items = omega arith in
    let counted : c.len-2.result ≡ length c.loop-rest.lats.items = omega arith in
    rw (c.bad_after-in-None.ensures, same) (wrong_count c.args.bytes.now c.loop-rest.lats.items all (rw counted at c.in-None.ensures.none))
