-- Pages of chains that were written, or stay.
use Rattle.std.proofs.Common.{◌≡◌, ◌≢◌, ◌⊎◌, inl, inr, ℕ, ◌-◌, ◌^◌, ◌<◌, ◌≤◌, ◌==◌, ◌&&◌, Bool, true, false, cond, List, [], ◌∷◌, ◌++◌}
use Rattle.std.proofs.Common.{length, take, drop, refl, sym, ap, subst, ◌∙◌, arith, length-take, length-drop, length-append}
use Rattle.std.proofs.lemmas.Bool.{eqb-true}
use Rattle.std.proofs.lemmas.Bool.Decides.{nat_tests}
use Rattle.std.proofs.lemmas.List.{append-nil, take_all, drop_all}
use Rattle.std.proofs.Math.Seq.{drop-append_seam, take-append_seam}
use Rattle.chain_store.specs.Chain.{Path, data_in}
use Rattle.chain_store.specs.Links.{data_of, held_in, many_of, next_of, owner_of}
use Rattle.chain_store.specs.Marks.{AreSame}
use Rattle.chain_store.specs.Pairs.{link_page, stays_so}
use Rattle.chain_store.specs.Parts.{AreFreed, AreLaid, AreWritten, first_held, head_or, later_held, pages_for, times, times_new}
use Rattle.chain_store.specs.declared.layout.TheConstants.{CHAIN_END, FREE}
use Rattle.chain_store.specs.declared.parts.Laid.{Laid}
use Rattle.chain_store.proofs.LinkLaws.{data_of-link_page, many_of-link_page, next_of-link_page, owner_of-link_page}
use Rattle.chain_store.proofs.Looked.{AllLook, Looks}
use Rattle.chain_store.proofs.Paths.{data_of-link}
use Rattle.chain_store.proofs.Times.{once-cases}

held_few : (bytes : List ℕ) → length (first_held bytes) ≤ 4080
unfolding first_held
held_few bytes = omega (arith, length-take 4080 bytes)

later_long : (bytes : List ℕ) → length (later_held bytes) ≡ length bytes - 4080
unfolding later_held
later_long bytes = length-drop 4080 bytes

-- bytes that fill a page, and others behind them
first_whole : (held rest : List ℕ) → length held ≡ 4080 → (first_held (held ++ rest) ≡ held) × (later_held (held ++ rest) ≡ rest)
unfolding first_held later_held
first_whole held rest full = (
  ap (λ (n : ℕ). take n (held ++ rest)) (sym full) ∙ take-append_seam held rest,
  ap (λ (n : ℕ). drop n (held ++ rest)) (sym full) ∙ drop-append_seam held rest,
)

first_last : (held : List ℕ) → length held ≤ 4080 → (first_held held ≡ held) × (later_held held ≡ [])
unfolding first_held later_held
first_last held few = (take_all 4080 held few, drop_all 4080 held few)

none_long : (bytes : List ℕ) → length bytes ≡ 0 → bytes ≡ []
none_long [] is = refl
none_long (b ∷ bytes) is = absurd (omega arith)

pub both_true : (a b : Bool) → (a && b) ≡ true → (a ≡ true) × (b ≡ true)
both_true true b is = (refl, is)
both_true false b is = absurd (cc is)

held_long : (page : List ℕ) → length page ≡ 4096 → many_of page ≤ 4080 → length (held_in (many_of page) page) ≡ many_of page
unfolding held_in
held_long page long few = omega (arith, length-take (many_of page) (drop 16 page), length-drop 16 page, long, few)

-- the bytes that a page holds are as many as it tells
data_long : (page : List ℕ) → length page ≡ 4096 → owner_of page ≢ FREE → many_of page ≤ 4080 → length (data_of page) ≡ many_of page
data_long page long own few =
    ap (λ (l : List ℕ). length l) (data_of-link page own) ∙ held_long page long few

module _ (page : ℕ → List ℕ) (home chain : ℕ) (own : chain ≢ FREE) (long : (n : ℕ) → 2 ≤ n → n < home → length (page n) ≡ 4096) where
  -- a chain of the store is written so
  pub was_written : (first : ℕ) (ns bytes : List ℕ) → Path page home chain first ns 0 → data_in page ns ≡ bytes
      → AreWritten page chain 0 ns bytes
  was_written first [] bytes path held = sym held
  was_written first (n ∷ []) bytes path held =
      let link = path.1.link in
      let last = link.last own path.2 in
      let size : length (data_of (page n)) ≡ many_of (page n) =
      data_long (page n) (long n path.1.above path.1.below) (λ is. own (sym link.owner ∙ is)) last.1 in
      let all : bytes ≡ data_of (page n) = sym held ∙ append-nil (data_of (page n)) in
      let whole : length bytes ≡ many_of (page n) = ap (λ (l : List ℕ). length l) all ∙ size in
      let parts = first_last bytes (omega (arith, whole, last.1)) in (
        omega (arith, whole, last.0),
        link.owner,
        path.2,
        sym (ap (λ (l : List ℕ). length l) parts.0 ∙ whole),
        sym (parts.0 ∙ all),
        parts.1,
      )
  was_written first (n ∷ m ∷ ns) bytes path held =
      let link = path.1.link in
      let next : next_of (page n) ≡ m = path.2.0 in
      let full : many_of (page n) ≡ 4080 = link.full own (λ none. absurd (omega (arith, next, none, path.2.1.above))) in
      let size : length (data_of (page n)) ≡ 4080 =
      data_long (page n) (long n path.1.above path.1.below) (λ is. own (sym link.owner ∙ is)) (omega (arith, full)) ∙ full in
      let rest : List ℕ = data_in page (m ∷ ns) in
      let parts = first_whole (data_of (page n)) rest size in
      let first_is : first_held bytes ≡ data_of (page n) = ap (λ (l : List ℕ). first_held l) (sym held) ∙ parts.0 in (
        omega (arith, ap (λ (l : List ℕ). length l) held, length-append (data_of (page n)) rest, size),
        link.owner,
        next,
        sym (ap (λ (l : List ℕ). length l) first_is ∙ size ∙ sym full),
        sym first_is,
        subst (λ (l : List ℕ). AreWritten page chain 0 (m ∷ ns) l) (sym (ap (λ (l : List ℕ). later_held l) (sym held) ∙ parts.1))
            (was_written (next_of (page n)) (m ∷ ns) rest path.2 refl),
      )

-- a chain has as many pages as its bytes need
pub written_long : (page : ℕ → List ℕ) (chain tail : ℕ) (ns bytes : List ℕ) → AreWritten page chain tail ns bytes
    → length ns ≡ pages_for (length bytes)
written_long page chain tail [] bytes is = omega (arith, ap (λ (l : List ℕ). length l) is)
written_long page chain tail (n ∷ ns) bytes is =
    omega (arith, written_long page chain tail ns (later_held bytes) is.5, later_long bytes, is.0)

-- what is known of the marks of a chain
abbrev pub WasMarked : (ℕ → List ℕ) → ℕ → List ℕ → List ℕ → List ℕ → Type 0
WasMarked page chain old same bytes = (same ≡ []) ⊎ ((before : List ℕ) × AreWritten page chain 0 old before × AreSame same before bytes)

later_none : later_held [] ≡ []
unfolding later_held
later_none = refl

same_later : (same before bytes : List ℕ) → AreSame same before bytes → AreSame (drop 1 same) (later_held before) (later_held bytes)
same_later [] before bytes are = tt
same_later (mark ∷ marks) before bytes are = are.1

was_later : (page : ℕ → List ℕ) (chain : ℕ) (old same bytes : List ℕ) → WasMarked page chain old same bytes
    → WasMarked page chain (drop 1 old) (drop 1 same) (later_held bytes)
was_later page chain old same bytes (inl none) = inl (ap (λ (l : List ℕ). drop 1 l) none)
was_later page chain [] same bytes (inr (before, was, are)) =
    inr (later_held before, ap (λ (l : List ℕ). later_held l) was ∙ later_none, same_later same before bytes are)
was_later page chain (o ∷ os) same bytes (inr (before, was, are)) = inr (later_held before, was.5, same_later same before bytes are)

-- a page that stays is the one that is wanted
record IsPage (page : List ℕ) (chain after : ℕ) (held : List ℕ) : Type 0 where
  owner : owner_of page ≡ chain
  next : next_of page ≡ after
  many : many_of page ≡ length held
  held_is : data_of page ≡ held

-- where the first page is marked it keeps its bytes
same_here : (same before bytes : List ℕ) → AreSame same before bytes → (head_or same 0 == 1) ≡ true → first_held before ≡ first_held bytes
same_here [] before bytes are marked = absurd (omega (arith, eqb-true 0 1 marked))
same_here (mark ∷ marks) before bytes are marked = are.0 (eqb-true mark 1 marked)

stayed : (page : ℕ → List ℕ) (chain n after : ℕ) (old same bytes : List ℕ) → 2 ≤ n → WasMarked page chain old same bytes
    → stays_so n after old same ≡ true → IsPage (page n) chain after (first_held bytes)
stayed page chain n after old same bytes above (inl none) stays =
    let marked = (both_true ((head_or old 0 == n) && (head_or (drop 1 old) 0 == after)) (head_or same 0 == 1) stays).1 in
    absurd (omega (arith, eqb-true 0 1 (ap (λ (l : List ℕ). head_or l 0 == 1) (sym none) ∙ marked)))
stayed page chain n after [] same bytes above (inr was) stays =
    let one = both_true ((0 == n) && (0 == after)) (head_or same 0 == 1) stays in
    let two = both_true (0 == n) (0 == after) one.0 in
    absurd (omega (arith, eqb-true 0 n two.0, above))
stayed page chain n after (o ∷ os) same bytes above (inr (before, was, are)) stays =
    let one = both_true ((o == n) && (head_or os 0 == after)) (head_or same 0 == 1) stays in
    let two = both_true (o == n) (head_or os 0 == after) one.0 in
    let here : o ≡ n = eqb-true o n two.0 in
    let next : head_or os 0 ≡ after = eqb-true (head_or os 0) after two.1 in
    let kept : first_held before ≡ first_held bytes = same_here same before bytes are one.1 in
    subst (λ (k : ℕ). IsPage (page k) chain after (first_held bytes)) here (record {
      owner = was.1;
      next = was.2 ∙ next;
      many = was.3 ∙ ap (λ (l : List ℕ). length l) kept;
      held_is = was.4 ∙ kept;
    })

made : (chain after : ℕ) (held : List ℕ) → chain < CHAIN_END → after < 2 ^ 64 → length held ≤ 4080
    → IsPage (link_page after chain held) chain after held
made chain after held own small few = record {
  owner = owner_of-link_page after chain held (omega (arith, own));
  next = next_of-link_page after chain held small;
  many = many_of-link_page after chain held few;
  held_is = data_of-link_page after chain held few (omega (arith, own)) (λ is. absurd (omega (arith, own, is)));
}

either : (b : Bool) (stay new : List ℕ) (f : List ℕ) (chain after : ℕ) (held : List ℕ) → f ≡ cond b stay new
    → (b ≡ true → IsPage stay chain after held)
    → IsPage new chain after held → IsPage f chain after held
either true stay new f chain after held is old made = subst (λ (l : List ℕ). IsPage l chain after held) (sym is) (old refl)
either false stay new f chain after held is old made = subst (λ (l : List ℕ). IsPage l chain after held) (sym is) made

head_small : (ns : List ℕ) → ((p : ℕ) → 1 ≤ times p ns → (2 ≤ p) × (p < 2 ^ 64)) → head_or ns 0 < 2 ^ 64
head_small [] inside = omega arith
head_small (n ∷ ns) inside = (inside n (elim (once-cases n n) [ inl is ↦ omega (arith, is.1) | inr not ↦ absurd (not.0 refl) ])).1

head_tail : (ns : List ℕ) (tail : ℕ) → tail < 2 ^ 64 → ((p : ℕ) → 1 ≤ times p ns → (2 ≤ p) × (p < 2 ^ 64)) → head_or ns tail < 2 ^ 64
head_tail [] tail small inside = small
head_tail (n ∷ ns) tail small inside = (inside n (elim (once-cases n n) [ inl is ↦ omega (arith, is.1) | inr not ↦ absurd (not.0 refl) ])).1

zero_not : (n : ℕ) → 2 ≤ n → (0 == n) ≡ false
zero_not n above = grind (arith, nat_tests)

-- a free page is put, whatever stood there
not_kept : (n after : ℕ) → 2 ≤ n → (x y : List ℕ) → cond (stays_so n after [] []) x y ≡ y
not_kept n after above x y = ap (λ (b : Bool). cond ((b && (0 == after)) && (0 == 1)) x y) (zero_not n above)

module _ (page f : ℕ → List ℕ) where
  pub written_looks : (chain : ℕ) (ns bytes old same : List ℕ) → chain < CHAIN_END → ((p : ℕ) → 1 ≤ times p ns → (2 ≤ p) × (p < 2 ^ 64))
      → length ns ≡ pages_for (length bytes) → WasMarked page chain old same bytes → Looks page f chain 0 ns bytes old same
      → AreWritten f chain 0 ns bytes
  written_looks chain [] bytes old same own inside many was looks = none_long bytes (omega (arith, many))
  written_looks chain (n ∷ ns) bytes old same own inside many was looks =
      let some : 1 ≤ length bytes = omega (arith, many) in
      let above = (inside n (elim (once-cases n n) [ inl is ↦ omega (arith, is.1) | inr not ↦ absurd (not.0 refl) ])).0 in
      let held : List ℕ = first_held bytes in
      let after : ℕ = head_or ns 0 in
      let small : after < 2 ^ 64 = head_small ns (λ p there. inside p (omega (arith, there))) in
      let is : IsPage (f n) chain after held =
      either (stays_so n after old same) (page n) (link_page after chain held) (f n) chain after held looks.0
      (stayed page chain n after old same bytes above was)
      (made chain after held own small (held_few bytes)) in (
        some,
        is.owner,
        is.next,
        is.many,
        is.held_is,
        written_looks chain ns (later_held bytes) (drop 1 old) (drop 1 same) own (λ p there. inside p (omega (arith, there)))
            (omega (arith, many, later_long bytes)) (was_later page chain old same bytes was) looks.1,
      )

  pub freed_looks : (tail : ℕ) (ns : List ℕ) → tail < 2 ^ 64 → ((p : ℕ) → 1 ≤ times p ns → (2 ≤ p) × (p < 2 ^ 64))
      → Looks page f FREE tail ns [] [] []
      → AreFreed f tail ns
  freed_looks tail [] small inside looks = tt
  freed_looks tail (n ∷ ns) small inside looks =
      let here = inside n (elim (once-cases n n) [ inl is ↦ omega (arith, is.1) | inr not ↦ absurd (not.0 refl) ]) in
      let after : ℕ = head_or ns tail in
      let low : after < 2 ^ 64 = head_tail ns tail small (λ p there. inside p (omega (arith, there))) in
      let put : f n ≡ link_page after FREE (first_held []) =
      looks.0 ∙ not_kept n after here.0 (page n) (link_page after FREE (first_held [])) in (
        ap (λ (l : List ℕ). owner_of l) put ∙ owner_of-link_page after FREE (first_held []) (omega arith),
        ap (λ (l : List ℕ). next_of l) put ∙ next_of-link_page after FREE (first_held []) low,
        freed_looks tail ns small (λ p there. inside p (omega (arith, there)))
            (subst (λ (l : List ℕ). Looks page f FREE tail ns l [] []) later_none looks.1),
      )

-- what is known of each part
abbrev pub AreFine : (ℕ → List ℕ) → List Laid → Type 0
AreFine page [] = Unit {0}
AreFine page (one ∷ others) = (one.number < CHAIN_END) × (length one.pages ≡ pages_for (length one.bytes))
    × WasMarked page one.number one.old one.same one.bytes × AreFine page others

pub all_written : (page f : ℕ → List ℕ) (parts : List Laid) → AreFine page parts
    → ((p : ℕ) → 1 ≤ times_new p parts → (2 ≤ p) × (p < 2 ^ 64))
    → AllLook page f parts → AreLaid f parts
all_written page f [] fine inside looks = tt
all_written page f (one ∷ others) fine inside looks = (
  written_looks page f one.number one.pages one.bytes one.old one.same fine.0
      (λ p some. inside p (omega (arith, some))) fine.1 fine.2 looks.0,
  all_written page f others fine.3 (λ p some. inside p (omega (arith, some))) looks.1,
)
