use Rattle.std.proofs.Common.{rules}
use Rattle.row_text.specs.Numbered.{by_number, seen}
use Rattle.row_text.proofs.Ordered.{sorted_by_key}
use Rattle.row_text.proofs.TableRows.{by_number_total, by_number-IsAntisymmetric}
use Rattle.row_text.proofs.numbered.sort.Goals as goal

pub returns-clause-sorted : goal.returns-clause-sorted
returns-clause-sorted c =
    sorted_by_key (by_number c.args.of_areas) (by_number_total c.args.of_areas) (by_number-IsAntisymmetric c.args.of_areas) seen _
    c.sort_unstable_by.ensures.sorted (λ a r f' k. search rules)
