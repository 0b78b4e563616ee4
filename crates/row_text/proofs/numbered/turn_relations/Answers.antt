use Rattle.std.proofs.lemmas.List.Sorted.{IsPermutation-put_mid, IsPermutation-trans}
use Rattle.row_text.proofs.numbered.turn_relations.Goals as goal

pub returns : goal.returns
returns c = record {
  permutation = IsPermutation-trans _ _ _ c.reverse.ensures.permutation (IsPermutation-put_mid _ _ _ _ c.reverse-2.ensures.permutation);
}
