-- The shape of a history's entries.
use Rattle.std.proofs.Common.{◌≡◌, ℕ, suc, ◌≤◌, Bool, true, false, List, [], ◌∷◌, ◌++◌, length, map, IsTrue, ◌↔◌, refl, ap, sym, ◌∙◌, subst}
use Rattle.std.proofs.Common.{arith}
use Rattle.std.proofs.lemmas.List.{length-map}
use mathlib.Core.Bool.{false≢true}
use Rattle.std.specs.Bool.{OnTrue}
use Rattle.std.proofs.lemmas.Bool.Decides.{nat_tests}
use lib.Dec.{leb}
use mathlib.Core.List.{IsPrefix}
use Rattle.logbook.specs.Pages.{Book}
use Rattle.osm_base.specs.declared.values.row.Delta.{Delta}
use Rattle.osm_base.specs.map.Spots.{TableMap}
use Rattle.table_versions.specs.declared.history.Entry.{Entry}
use Rattle.table_versions.specs.declared.history.Entry.TheVariants.{Opens, Adds}
use Rattle.table_versions.specs.Fronts.{Begins, FrontOf, base_of, deltas_in, entries, first_of, front_of}
use Rattle.table_versions.proofs.Beginnings.{prefix_self, prefix_shorter}

-- the deltas of added deltas
pub deltas_in-added : (log : List Delta) → deltas_in (map Adds log) ≡ log
deltas_in-added [] = refl
deltas_in-added (delta ∷ log) = ap (λ xs. delta ∷ xs) (deltas_in-added log)

-- one more
pub map-snoc : (log : List Delta) (delta : Delta) → map Adds log ++ Adds delta ∷ [] ≡ map Adds (log ++ delta ∷ [])
map-snoc [] delta = refl
map-snoc (x ∷ log) delta = ap (λ xs. Adds x ∷ xs) (map-snoc log delta)

-- a log has the shape of a history
abbrev pub IsShaped : List Entry → Type 0
IsShaped log = log ≡ entries (first_of log) (base_of log) (deltas_in log)

pub shaped-length : (log : List Entry) → IsShaped log → length log ≡ suc (length (deltas_in log))
shaped-length log is =
    let all : length (map Adds (deltas_in log)) ≡ length (deltas_in log) = length-map (deltas_in log) Adds in
    ap length is ∙ ap suc all

pub added : (book : Book) (log : List Entry) (delta : Delta) → IsShaped log
    → IsShaped (log ++ Adds delta ∷ []) × (front_of book (log ++ Adds delta ∷ [])
    ≡ record (front_of book log) { log = deltas_in log ++ delta ∷ [] })
added book log delta is =
    let first = first_of log in
    let base = base_of log in
    let deltas = deltas_in log in
    let whole : log ++ Adds delta ∷ [] ≡ entries first base (deltas ++ delta ∷ []) =
    ap (λ xs. xs ++ Adds delta ∷ []) is ∙ ap (λ xs. Opens first base ∷ xs) (map-snoc deltas delta) in
    let plain : deltas_in (map Adds (deltas ++ delta ∷ [])) ≡ deltas ++ delta ∷ [] = deltas_in-added (deltas ++ delta ∷ []) in
    let shaped : IsShaped (entries first base (deltas ++ delta ∷ [])) = ap (λ xs. Opens first base ∷ map Adds xs) (sym plain) in
    let shown : front_of book (entries first base (deltas ++ delta ∷ []))
    ≡ record { book = book; first = first; base = base; log = deltas ++ delta ∷ [] } =
    ap (λ xs. record { book = book; first = first; base = base; log = xs }) plain in
    (subst IsShaped (sym whole) shaped, ap (front_of book) whole ∙ shown)

-- the deltas of a beginning are a beginning of the deltas
pub adds_prefix : (xs ys : List Delta) → IsPrefix (map Adds xs) (map Adds ys) → IsPrefix xs ys
adds_prefix [] ys p = (ys, refl)
adds_prefix (x ∷ xs) [] p = absurd (cc (p.1))
adds_prefix (x ∷ xs) (y ∷ ys) p =
    let heads : x ≡ y = cc (p.1) in
    let rest = adds_prefix xs ys (p.0, cc (p.1)) in
    (rest.0, cc (heads, rest.1))

pub shapes_begin : (book : Book) (first first' : TableMap) (base base' : ℕ) (xs ys : List Delta)
    → IsPrefix (entries first base xs) (entries first' base' ys)
    → Begins (record { book = book; first = first; base = base; log = xs }) (record { book = book; first = first'; base = base'; log = ys })
shapes_begin book first first' base base' xs ys p = record {
  book = refl;
  first = sym (ap first_of p.1);
  base = sym (ap base_of p.1);
  log = adds_prefix xs ys (p.0, cc (p.1));
}

-- what a comparison of lengths tells
pub begins_other : (one two : Book) (xs ys zs : List Entry) (m n : ℕ) → two ≡ one → IsShaped xs → IsShaped ys → m ≡ length (deltas_in xs)
    → n ≡ length (deltas_in ys)
    → IsPrefix xs zs → IsPrefix ys zs → OnTrue (leb m n) (Begins (front_of one xs) (front_of two ys))
begins_other one two xs ys zs m n same s t e f p q = go (leb m n) refl
  where
    go : (b : Bool) → leb m n ≡ b → OnTrue b (Begins (front_of one xs) (front_of two ys))
    go true le =
        let le' : m ≤ n = grind (arith, nat_tests) in
        let shorter : IsPrefix xs ys = prefix_shorter xs ys zs p q (omega (arith, e, f, le', shaped-length xs s, shaped-length ys t)) in
        let begins = shapes_begin one (first_of xs) (first_of ys) (base_of xs) (base_of ys) (deltas_in xs) (deltas_in ys)
        (subst (λ a. IsPrefix a (entries (first_of ys) (base_of ys) (deltas_in ys))) s (subst (λ a. IsPrefix xs a) t shorter)) in
        record { book = same; first = begins.first; base = begins.base; log = begins.log }
    go false le = tt

pub begins_itself : (front : FrontOf) → Begins front front
begins_itself front = record { book = refl; first = refl; base = refl; log = prefix_self front.log }

-- where a front does not begin another by their lengths, the other begins it
pub begins_back : (one other : FrontOf) (forth back : Bool) → (IsTrue forth ↔ (length one.log ≤ length other.log))
    → (IsTrue back ↔ (length other.log ≤ length one.log))
    → OnTrue back (Begins other one) → forth ≡ false → Begins other one
begins_back one other forth true long short begins is = begins
begins_back one other forth false long short begins is =
    let less : ¬ (length one.log ≤ length other.log) = λ le. false≢true (sym is ∙ long.1 le) in
    absurd (false≢true (short.1 (omega (arith, less))))
