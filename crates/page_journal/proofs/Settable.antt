-- What is asked of a set before it is committed, by its entries.
use Rattle.std.proofs.Common.{◌≡◌, inl, inr, T, ℕ, ◌<◌, ◌≤◌, List, length, Option, None, sym, ap, ◌∙◌, arith}
use Rattle.std.specs.Option.{is_some, IsSome}
use Rattle.std.specs.Ordering.{nat_cmp}
use Rattle.std.specs.FinMap as map
use Rattle.std.specs.FinMap.{find, is_sorted}
use Rattle.page_journal.specs.PageSet.{AreWithin, PageMap, number_at}
use Rattle.page_journal.proofs.Sets.{find_at, find_not}
use Rattle.page_journal.proofs.Standing.{find_place}

module _ (entries : List (ℕ × List ℕ)) (sorted : T (is_sorted nat_cmp entries)) (set : PageMap)
    (is : map.from_sorted {R = nat_cmp} entries ≡ set) (home : ℕ) where
  got : (n : ℕ) → map.get set n ≡ find nat_cmp n entries
  got n = ap (λ (s : PageMap). map.get s n) (sym is) ∙ map.get-from_sorted nat_cmp entries n sorted

  -- where the entries are within, so are the pages of the set
  pub set_within : AreWithin entries home → (n : ℕ) → IsSome (map.get set n) → (1 ≤ n) × (n < home)
  set_within all n some = elim (find_place (number_at entries) n (length entries)) [
    | inl found ↦
        let both = all found.0 found.1 in
        let same = found.2 in
        (omega (arith, both.0, same), omega (arith, both.1, same))
    | inr none ↦
        let nothing : map.get set n ≡ None = got n ∙ find_not entries n none in
        absurd (cc (nothing, some))
  ]

  -- and the other way round
  pub entries_within : ((n : ℕ) → IsSome (map.get set n) → (1 ≤ n) × (n < home)) → AreWithin entries home
  entries_within all = λ place inside.
      all (number_at entries place) (ap (λ (o : Option (List ℕ)). is_some o)
      (got (number_at entries place) ∙ find_at entries sorted place inside))
