use Rattle.row_text.specs.Numbered.{by_number, seen}
use Rattle.row_text.proofs.Ordered.{rising-once, IsOnce-IsPermutation}
use Rattle.row_text.proofs.TableRows.{by_number_total, by_number-IsAntisymmetric}
use Rattle.std.proofs.lemmas.List.Sorted.{IsPermutation-map}
use Rattle.row_text.proofs.numbered.sort_unless_rising.Goals as goal

pub returns-clause-rising : goal.returns-clause-rising
returns-clause-rising c =
    let order = by_number c.args.of_areas in
    let total = by_number_total c.args.of_areas in
    let same = by_number-IsAntisymmetric c.args.of_areas in
    rising-once order total same seen c.sort.new.rows c.sort.ensures.sorted
    (IsOnce-IsPermutation order total same _ _
    (IsPermutation-map seen c.args.rows.now c.sort.new.rows c.sort.ensures.permutation) c.requires)
