-- What a transaction knows, with one chain more.
use Rattle.std.proofs.Common.{◌≡◌, ◌≢◌, ◌⊎◌, inl, inr, ℕ, ◌+◌, ◌-◌, ◌%◌, ◌<◌, ◌≤◌, Bool, true, cond, List, [], length, Option, Some, None}
use Rattle.std.proofs.Common.{Result, Ok, Err, sym, ap, subst, ◌∙◌, arith}
use Rattle.std.specs.Option.{is_some, IsSome}
use Rattle.std.specs.Result.{OnOk, OnErr}
use Rattle.std.specs.Ordering.{nat_cmp, eq_by_cmp}
use Rattle.std.specs.Cmp.{nat_cmp_total, eq_by_cmp_equiv}
use Rattle.std.specs.FinMap as map
use Rattle.outside.specs.declared.disk.Disk.{Ghosts}
use Rattle.page_journal.specs.declared.journal.Journal.{Journal}
use Rattle.page_journal.proofs.Sets.{not_equal}
use Rattle.chain_store.specs.Answers.{Looked}
use Rattle.chain_store.specs.Chain.{AreBehindRoot, HasPages, data_in}
use Rattle.chain_store.specs.Chains.{IsMarked, IsOpenStore}
use Rattle.chain_store.specs.Directories.{IsChain, IsString}
use Rattle.chain_store.specs.Known.{AreGone, AreHeld, AreKnown, AreStored, Lists}
use Rattle.chain_store.specs.Links.{page_in}
use Rattle.chain_store.specs.Store.{HasBytes, kept_first}
use Rattle.chain_store.specs.declared.kept.Kept.{Kept}
use Rattle.chain_store.proofs.Gathers.{removed-here, removed-there}
use Rattle.chain_store.proofs.Looks.{rests_looked}

-- a number is another or the same
same_or : (a b : ℕ) → (a ≡ b) ⊎ (a ≢ b)
same_or a b = grind arith

equal_here : (a b : ℕ) → a ≡ b → eq_by_cmp nat_cmp a b ≡ true
equal_here a b is = subst (λ (k : ℕ). eq_by_cmp nat_cmp a k ≡ true) is ((eq_by_cmp_equiv nat_cmp_total).refl a)

chain_of : (buckets n : ℕ) → IsString buckets n → buckets ≤ 65536 → IsChain n
chain_of buckets n (inl low) few = omega arith
chain_of buckets n (inr (m, b, map, bucket, is)) few = omega arith

low_of : (buckets n : ℕ) → IsString buckets n → buckets ≤ 65536 → n < 16 → n < 8
low_of buckets n (inl low) few below = low
low_of buckets n (inr (m, b, map, bucket, is)) few below = absurd (omega arith)

high_of : (buckets n : ℕ) → IsString buckets n → buckets ≤ 65536 → 16 ≤ n → (n - 16) % 65536 < buckets
high_of buckets n (inl low) few above = absurd (omega arith)
high_of buckets n (inr (m, b, map, bucket, is)) few above = omega arith

module _ (lists : Lists) (n : ℕ) (list : List ℕ) where
  pub get-here : (q : ℕ) → q ≡ n → map.get (map.insert lists n list) q ≡ Some list
  get-here q is = map.get-insert nat_cmp_total lists n list q ∙ ap (λ (b : Bool). cond b (Some list) (map.get lists q)) (equal_here q n is)

  pub get-there : (q : ℕ) → q ≢ n → map.get (map.insert lists n list) q ≡ map.get lists q
  get-there q other = map.get-insert nat_cmp_total lists n list q
      ∙ ap (λ (b : Bool). cond b (Some list) (map.get lists q)) (not_equal q n other)

  pub got : (q : ℕ) (found : List ℕ) → map.get (map.insert lists n list) q ≡ Some found
      → ((q ≡ n) × (list ≡ found)) ⊎ (map.get lists q ≡ Some found)
  got q found is = elim (same_or q n) [
    | inl same ↦ inl (same, (let here = get-here q same in cc))
    | inr other ↦ inr (sym (get-there q other) ∙ is)
  ]

  pub some_more : (q : ℕ) → IsSome (map.get lists q) → IsSome (map.get (map.insert lists n list) q)
  some_more q some = elim (same_or q n) [
    | inl same ↦ ap (λ (o : Option (List ℕ)). is_some o) (get-here q same)
    | inr other ↦ ap (λ (o : Option (List ℕ)). is_some o) (get-there q other) ∙ some
  ]

  pub got_some : (q : ℕ) → IsSome (map.get (map.insert lists n list) q) → IsSome (map.get lists q) ⊎ (q ≡ n)
  got_some q some = elim (same_or q n) [
    | inl same ↦ inr same
    | inr other ↦ inl (ap (λ (o : Option (List ℕ)). is_some o) (sym (get-there q other)) ∙ some)
  ]

  pub none_less : (q : ℕ) → map.get (map.insert lists n list) q ≡ None → map.get lists q ≡ None
  none_less q none = elim (same_or q n) [
    | inl same ↦ (let here = get-here q same in absurd (cc))
    | inr other ↦ sym (get-there q other) ∙ none
  ]

  pub known_more : (home : ℕ) → AreKnown home lists → AreBehindRoot home list → AreKnown home (map.insert lists n list)
  known_more home known here q ns is = elim (got q ns is) [
    | inl same ↦ subst (λ (l : List ℕ). AreBehindRoot home l) same.1 here
    | inr before ↦ known q ns before
  ]

  pub held_more : (read : Lists) → AreHeld read lists → AreHeld read (map.insert lists n list)
  held_more read held q low some = some_more q (held q low some)

  pub held_read : (before : Lists) → AreHeld lists before → (n < 16 → IsSome (map.get before n)) → AreHeld (map.insert lists n list) before
  held_read before held here q low some = elim (got_some q some) [
    | inl earlier ↦ held q low earlier
    | inr same ↦ subst (λ (k : ℕ). IsSome (map.get before k)) (sym same) (here (subst (λ (k : ℕ). k < 16) same low))
  ]

  pub stored_read : (buckets : ℕ) (written : Lists) → AreStored buckets lists written → AreStored buckets (map.insert lists n list) written
  stored_read buckets written stored q bytes is =
      let before = stored q bytes is in
      (some_more q before.0, before.1, before.2, before.3)

  pub stored_more : (buckets : ℕ) (read : Lists) → AreStored buckets read lists → IsSome (map.get read n) → IsString buckets n
      → buckets ≤ 65536
      → AreStored buckets read (map.insert lists n list)
  stored_more buckets read stored some string few q bytes is = elim (got q bytes is) [
    | inl same ↦
        subst (λ (k : ℕ). IsSome (map.get read k) × IsChain k × (k < 16 → k < 8) × (16 ≤ k → bytes ≢ [] → (k - 16) % 65536 < buckets))
        (sym same.0)
        (some, chain_of buckets n string few, low_of buckets n string few, λ above full. high_of buckets n string few above)
    | inr before ↦ stored q bytes before
  ]

  pub gone_more : (before buckets : ℕ) (first : ℕ → ℕ) → AreGone before buckets first lists
      → AreGone before buckets first (map.insert lists n list)
  gone_more before buckets first gone other q above chain none = gone other q above chain (none_less q none)

-- nothing is known at the beginning
pub nothing : (lists : Lists) (n : ℕ) (list : List ℕ) → lists ≡ map.empty → map.get lists n ≡ Some list → ⊥
nothing lists n list none is =
    let empty : map.get lists n ≡ None = ap (λ (l : Lists). map.get l n) none ∙ map.get-empty nat_cmp n in
    absurd (cc)

pub known_none : (lists : Lists) → lists ≡ map.empty → (home : ℕ) → AreKnown home lists
known_none lists none home n ns is = absurd (nothing lists n ns none is)

pub held_none : (read before : Lists) → read ≡ map.empty → AreHeld read before
held_none read before none n low some =
    let empty : map.get read n ≡ None = ap (λ (l : Lists). map.get l n) none ∙ map.get-empty nat_cmp n in
    absurd (cc)

pub stored_none : (read lists : Lists) (buckets : ℕ) → lists ≡ map.empty → AreStored buckets read lists
stored_none read lists buckets none n bytes is = absurd (nothing lists n bytes none is)

-- what was walked over is what the chain has
pub held_bytes : (pages : List (List ℕ)) (n at first : ℕ) (ns walked bytes : List ℕ) → at ≡ first
    → HasPages (page_in pages) (length pages + 1) n at ns
    → data_in (page_in pages) ns ≡ walked → bytes ≡ walked → HasBytes pages n first bytes
held_bytes pages n at first ns walked bytes begins has held is = record {
  ns = ns;
  has = subst (λ (k : ℕ). HasPages (page_in pages) (length pages + 1) n k ns) begins has;
  held = held ∙ sym is;
}

-- bytes of one chain more are known, or not
pub held_put : (read before after : Lists) (n : ℕ) (bytes : List ℕ) → (after ≡ map.insert before n bytes) ⊎ (after ≡ before)
    → AreHeld read before
    → AreHeld read after
held_put read before after n bytes (inl put) held = subst (λ (l : Lists). AreHeld read l) (sym put) (held_more before n bytes read held)
held_put read before after n bytes (inr same) held = subst (λ (l : Lists). AreHeld read l) (sym same) held

-- a put was made, or nothing has changed
pub put_cases : {E : Type 0} (result : Result (Unit {0}) E) (old new : Lists) (n : ℕ) (list : List ℕ)
    → OnOk result (new ≡ map.insert old n list)
    → OnErr result (new ≡ old) → (new ≡ map.insert old n list) ⊎ (new ≡ old)
put_cases (Ok done) old new n list ok err = inl ok
put_cases (Err fault) old new n list ok err = inr err

module _ {D : Type 0} {g : Ghosts D} (pages : List (List ℕ)) (old new : Journal D g) (kept : Kept) (read texts written before : Lists) where
  pub open_looked : IsOpenStore pages old kept read texts written before → Looked old new
      → IsOpenStore pages new kept read texts written before
  open_looked opened looked = record {
    rests = rests_looked pages old new opened.rests looked;
    keeps = opened.keeps;
    known = opened.known;
    had = opened.had;
    marked = opened.marked;
  }

  pub open_more : (n : ℕ) (ns : List ℕ) → IsOpenStore pages old kept read texts written before → Looked old new
      → HasPages (page_in pages) (length pages + 1) n (kept_first kept n) ns
      → IsOpenStore pages new kept (map.insert read n ns) texts written before
  open_more n ns opened looked has = record {
    rests = rests_looked pages old new opened.rests looked;
    keeps = opened.keeps;
    known = λ q found is. elim (got read n ns q found is) [
      | inl same ↦
          subst (λ (k : ℕ). HasPages (page_in pages) (length pages + 1) k (kept_first kept k) found) (sym same.0)
          (subst (λ (l : List ℕ). HasPages (page_in pages) (length pages + 1) n (kept_first kept n) l) same.1 has)
      | inr earlier ↦ opened.known q found earlier
    ];
    had = opened.had;
    marked = opened.marked;
  }

  open_had : (n : ℕ) (bytes : List ℕ) → IsOpenStore pages old kept read texts written before → Looked old new
      → HasBytes pages n (kept_first kept n) bytes → IsOpenStore pages new kept read (map.insert texts n bytes) written before
  open_had n bytes opened looked has = record {
    rests = rests_looked pages old new opened.rests looked;
    keeps = opened.keeps;
    known = opened.known;
    had = λ q found is. elim (got texts n bytes q found is) [
      | inl same ↦
          subst (λ (k : ℕ). HasBytes pages k (kept_first kept k) found) (sym same.0)
          (subst (λ (l : List ℕ). HasBytes pages n (kept_first kept n) l) same.1 has)
      | inr earlier ↦ opened.had q found earlier
    ];
    marked = opened.marked;
  }

  pub open_held : (n : ℕ) (bytes : List ℕ) (after : Lists) → IsOpenStore pages old kept read texts written before → Looked old new
      → HasBytes pages n (kept_first kept n) bytes → (after ≡ map.insert texts n bytes) ⊎ (after ≡ texts)
      → IsOpenStore pages new kept read after written before
  open_held n bytes after opened looked has (inl put) =
      subst (λ (lists : Lists). IsOpenStore pages new kept read lists written before) (sym put) (open_had n bytes opened looked has)
  open_held n bytes after opened looked has (inr same) =
      subst (λ (lists : Lists). IsOpenStore pages new kept read lists written before) (sym same) (open_looked opened looked)

-- a chain is written, with its marks
module _ {D : Type 0} {g : Ghosts D} (pages : List (List ℕ)) (journal : Journal D g) (kept : Kept) (read texts written before : Lists)
    (n : ℕ)
    (same bytes : List ℕ) (opened : IsOpenStore pages journal kept read texts written before) where
  pub open_written : IsMarked pages n (kept_first kept n) same bytes
      → IsOpenStore pages journal kept read texts (map.insert written n bytes) (map.insert before n same)
  open_written marked = record {
    rests = opened.rests;
    keeps = opened.keeps;
    known = opened.known;
    had = opened.had;
    marked = λ q marks found marks_are found_is. elim (same_or q n) [
      | inl here ↦
          let marks_here : same ≡ marks = (let own = get-here before n same q here in cc) in
          let bytes_here : bytes ≡ found = (let own = get-here written n bytes q here in cc) in
          subst (λ (k : ℕ). IsMarked pages k (kept_first kept k) marks found) (sym here)
          (subst (λ (l : List ℕ). IsMarked pages n (kept_first kept n) l found) marks_here
          (subst (λ (l : List ℕ). IsMarked pages n (kept_first kept n) same l) bytes_here marked))
      | inr other ↦ opened.marked q marks found (sym (get-there before n same q other) ∙ marks_are)
          (sym (get-there written n bytes q other) ∙ found_is)
    ];
  }

  -- without marks for it the rest are as before
  pub open_unmarked : IsOpenStore pages journal kept read texts written (map.remove (map.insert before n same) n)
  open_unmarked = record {
    rests = opened.rests;
    keeps = opened.keeps;
    known = opened.known;
    had = opened.had;
    marked = λ q marks found marks_are found_is. elim (same_or q n) [
      | inl here ↦ (let gone = removed-here (map.insert before n same) n q here in absurd (cc))
      | inr other ↦ opened.marked q marks found
          (sym (removed-there (map.insert before n same) n q other ∙ get-there before n same q other) ∙ marks_are) found_is
    ];
  }
