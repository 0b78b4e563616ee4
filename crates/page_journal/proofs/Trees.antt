-- The entries of a tree of pages as a finite map.
use Rattle.std.proofs.Common.{◌≡◌, ℕ, zero, suc, ◌<◌, List, [], ◌∷◌, length, Vec, T, refl, sym, ap, ◌∙◌, subst, arith}
use Rattle.std.specs.Ordering.{nat_cmp, match_ordering}
use Rattle.std.specs.declared.cmp.Ordering.{Ordering}
use Rattle.std.specs.declared.cmp.Ordering.TheVariants.{Less, Equal, Greater}
use Rattle.std.specs.BTreeMap.{insert_entry}
use Rattle.std.specs.FinMap as map
use Rattle.std.specs.declared.alloc.Global.{Global}
use Rattle.std.specs.Cmp.{nat_cmp_total}
use Rattle.std.specs.FinMap.{put}
use Rattle.std.specs.FinMap.Entries.{by_order, is_sorted-put}
use Rattle.page_journal.specs.PageSet.{PageMap, IsPageTree, padded, plain, page_at}

plain-order : (o : Ordering) (a b d : List (ℕ × Vec ℕ Global)) (e : List (ℕ × List ℕ)) → plain d ≡ e
    → plain (match_ordering o a b d) ≡ by_order o (plain a) (plain b) e
plain-order Less a b d e is = refl
plain-order Equal a b d e is = refl
plain-order Greater a b d e is = is

plain-insert : (entries : List (ℕ × Vec ℕ Global)) (n : ℕ) (page : Vec ℕ Global)
    → plain (insert_entry nat_cmp entries n page) ≡ put nat_cmp n (padded page.items) (plain entries)
plain-insert [] n page = refl
plain-insert (entry ∷ entries) n page =
    plain-order (nat_cmp n entry.0) ((n, page) ∷ entry ∷ entries) ((entry.0, page) ∷ entries) (entry ∷ insert_entry nat_cmp entries n page)
    ((entry.0, padded entry.1.items) ∷ put nat_cmp n (padded page.items) (plain entries))
    (ap (λ (es : List (ℕ × List ℕ)). (entry.0, padded entry.1.items) ∷ es) (plain-insert entries n page))

abbrev Sized : List (ℕ × Vec ℕ Global) → Type 0
Sized entries = (place : ℕ) → place < length entries → length (page_at (plain entries) place) ≡ 4096

sized-cons : (entry : ℕ × Vec ℕ Global) (entries : List (ℕ × Vec ℕ Global)) → length (padded entry.1.items) ≡ 4096 → Sized entries
    → Sized (entry ∷ entries)
sized-cons entry entries size sized zero inside = size
sized-cons entry entries size sized (suc place) inside = sized place (omega arith)

sized-order : (o : Ordering) (a b d : List (ℕ × Vec ℕ Global)) → Sized a → Sized b → Sized d → Sized (match_ordering o a b d)
sized-order Less a b d one two three = one
sized-order Equal a b d one two three = two
sized-order Greater a b d one two three = three

sized-insert : (entries : List (ℕ × Vec ℕ Global)) (n : ℕ) (page : Vec ℕ Global) → length (padded page.items) ≡ 4096 → Sized entries
    → Sized (insert_entry nat_cmp entries n page)
sized-insert [] n page size sized = sized-cons (n, page) [] size (λ place inside. absurd (omega arith))
sized-insert (entry ∷ entries) n page size sized =
    let rest : Sized entries = λ place inside. sized (suc place) (omega arith) in
    let first : length (padded entry.1.items) ≡ 4096 = sized zero (omega arith) in
    sized-order (nat_cmp n entry.0) ((n, page) ∷ entry ∷ entries) ((entry.0, page) ∷ entries) (entry ∷ insert_entry nat_cmp entries n page)
    (sized-cons (n, page) (entry ∷ entries) size sized)
    (sized-cons (entry.0, page) entries size rest)
    (sized-cons entry (insert_entry nat_cmp entries n page) first (sized-insert entries n page size rest))

-- a page more keeps the order and the lengths
pub tree_put : (entries new : List (ℕ × Vec ℕ Global)) (n : ℕ) (page : Vec ℕ Global) → IsPageTree entries → length (padded page.items) ≡ 4096
    → new ≡ insert_entry nat_cmp entries n page → IsPageTree new
tree_put entries new n page tree size is =
    subst (λ (es : List (ℕ × Vec ℕ Global)). IsPageTree es) (sym is) (record {
      sorted = subst (λ (es : List (ℕ × List ℕ)). T (map.is_sorted nat_cmp es)) (sym (plain-insert entries n page))
          (is_sorted-put nat_cmp nat_cmp_total n (padded page.items) (plain entries) tree.sorted);
      sized = sized-insert entries n page size tree.sized;
    })

-- and it is the map with that page
pub view_put : (entries new : List (ℕ × Vec ℕ Global)) (n : ℕ) (page : Vec ℕ Global) → IsPageTree entries → length (padded page.items) ≡ 4096
    → new ≡ insert_entry nat_cmp entries n page
    → map.from_sorted {R = nat_cmp} (plain new) ≡ map.insert (map.from_sorted {R = nat_cmp} (plain entries)) n (padded page.items)
view_put entries new n page tree size is =
    let later = tree_put entries new n page tree size is in
    let before : PageMap = map.from_sorted (plain entries) in
    map.same_entries_map (map.from_sorted {R = nat_cmp} (plain new)) (map.insert before n (padded page.items)) (
    map.entries-from_sorted nat_cmp (plain new) later.sorted
    ∙ ap plain is ∙ plain-insert entries n page
    ∙ ap (λ (es : List (ℕ × List ℕ)). put nat_cmp n (padded page.items) es) (sym (map.entries-from_sorted nat_cmp (plain entries) tree.sorted))
    ∙ sym (map.entries-insert nat_cmp_total before n (padded page.items))
    )

pub view_none : map.from_sorted {K = ℕ} {X = List ℕ} {R = nat_cmp} [] ≡ map.empty
view_none =
    let none : PageMap = map.from_sorted [] in
    map.empty_of_len none (map.len-entries none ∙ ap length (map.entries-from_sorted nat_cmp [] tt))
