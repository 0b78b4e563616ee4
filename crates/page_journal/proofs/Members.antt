-- What a tree of pages has under a number.
use Rattle.std.proofs.Common.{◌≡◌, Bool, true, false, cond, ℕ, zero, suc, ◌<◌, List, [], ◌∷◌, length, Option, None, Some, option_map, Vec, refl}
use Rattle.std.proofs.Common.{sym, ap, ◌∙◌, subst, arith}
use Rattle.std.specs.Ordering.{nat_cmp, is_eq}
use Rattle.std.specs.Map.{lookup}
use Rattle.std.specs.Option.{is_some}
use Rattle.std.specs.BTreeMap.{is_at}
use Rattle.std.specs.FinMap as map
use Rattle.std.specs.FinMap.{find}
use Rattle.std.specs.declared.alloc.Global.{Global}
use Rattle.std.specs.Int.{w64, from_le_bytes}
use Rattle.std.proofs.Common.{take}
use Rattle.page_journal.specs.PageSet.{IsPageTree, padded, plain, page_at}
use Rattle.page_journal.specs.Pages.{number}

map-cond : (b : Bool) (page : Vec ℕ Global) (other : Option (Vec ℕ Global))
    → option_map (λ (v : Vec ℕ Global). padded v.items) (cond b (Some page) other)
    ≡ cond b (Some (padded page.items)) (option_map (λ (v : Vec ℕ Global). padded v.items) other)
map-cond true page other = refl
map-cond false page other = refl

plain-lookup : (entries : List (ℕ × Vec ℕ Global)) (n : ℕ)
    → option_map (λ (v : Vec ℕ Global). padded v.items) (lookup (is_at (nat_cmp n)) entries) ≡ find nat_cmp n (plain entries)
plain-lookup [] n = refl
plain-lookup (entry ∷ entries) n =
    map-cond (is_eq (nat_cmp n entry.0)) entry.1 (lookup (is_at (nat_cmp n)) entries)
    ∙ ap (λ (o : Option (List ℕ)). cond (is_eq (nat_cmp n entry.0)) (Some (padded entry.1.items)) o) (plain-lookup entries n)

-- the map has what the tree has
pub got_in : (entries : List (ℕ × Vec ℕ Global)) → IsPageTree entries → (n : ℕ)
    → map.get (map.from_sorted {R = nat_cmp} (plain entries)) n
    ≡ option_map (λ (v : Vec ℕ Global). padded v.items) (lookup (is_at (nat_cmp n)) entries)
got_in entries tree n = map.get-from_sorted nat_cmp (plain entries) n tree.sorted ∙ sym (plain-lookup entries n)

some-map : (o : Option (Vec ℕ Global)) → is_some (option_map (λ (v : Vec ℕ Global). padded v.items) o) ≡ is_some o
some-map None = refl
some-map (Some page) = refl

pub has_in : (entries : List (ℕ × Vec ℕ Global)) → IsPageTree entries → (n : ℕ)
    → is_some (map.get (map.from_sorted {R = nat_cmp} (plain entries)) n) ≡ is_some (lookup (is_at (nat_cmp n)) entries)
has_in entries tree n =
    ap (λ (o : Option (List ℕ)). is_some o) (got_in entries tree n) ∙ some-map (lookup (is_at (nat_cmp n)) entries)

sized-cond : (b : Bool) (page other : Vec ℕ Global) (rest : Option (Vec ℕ Global)) → length (padded page.items) ≡ 4096
    → (rest ≡ Some other → length (padded other.items) ≡ 4096) → cond b (Some page) rest ≡ Some other → length (padded other.items) ≡ 4096
sized-cond true page other rest long later is =
    let same : page ≡ other = cc in
    subst (λ (v : Vec ℕ Global). length (padded v.items) ≡ 4096) same long
sized-cond false page other rest long later is = later is

-- and each page that it has is one
pub sized_in : (entries : List (ℕ × Vec ℕ Global)) (n : ℕ) (page : Vec ℕ Global)
    → ((place : ℕ) → place < length entries → length (page_at (plain entries) place) ≡ 4096)
    → lookup (is_at (nat_cmp n)) entries ≡ Some page → length (padded page.items) ≡ 4096
sized_in [] n page sized is = absurd (cc)
sized_in (entry ∷ entries) n page sized is =
    sized-cond (is_eq (nat_cmp n entry.0)) entry.1 page (lookup (is_at (nat_cmp n)) entries) (sized zero (omega arith))
    (λ later. sized_in entries n page (λ place inside. sized (suc place) (omega arith)) later) is

-- the number that the first eight bytes spell
pub front_number : (page : List ℕ) → from_le_bytes w64 (take 8 page) ≡ number page 0
unfolding number
front_number page = refl
