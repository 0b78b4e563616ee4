-- Parts, one by one.
use Rattle.std.proofs.Common.{◌≡◌, ◌≢◌, ◌⊎◌, inl, inr, ℕ, ◌+◌, ◌<◌, ◌≤◌, List, [], ◌∷◌, ◌++◌, length, refl, sym, ap, subst, ◌∙◌, arith}
use Rattle.std.proofs.Common.{length-take, length-drop}
use Rattle.std.proofs.lemmas.Bool.{cases_lt}
use Rattle.std.proofs.lemmas.List.{take-append-drop}
use Rattle.chain_store.specs.Chain.{HasPages, IsGood, Path, data_in}
use Rattle.chain_store.specs.Links.{IsLink, next_of}
use Rattle.chain_store.specs.Parts.{AreFreed, AreLaid, AreOld, AreWritten, Begin, IsNoPart, IsPart, first_held, head_or, later_held, times}
use Rattle.chain_store.specs.Parts.{times_new, times_old}
use Rattle.chain_store.specs.declared.layout.TheConstants.{CHAIN_END, FREE}
use Rattle.chain_store.specs.declared.parts.Laid.{Laid}
use Rattle.chain_store.proofs.Times.{once-cases, same_or}
use Rattle.chain_store.proofs.Unique.{path_good, path_once}

held_long : (bytes : List ℕ) → (length (first_held bytes) ≤ 4080) × (length (first_held bytes) ≤ length bytes)
    × (length (first_held bytes) + length (later_held bytes) ≡ length bytes)
unfolding first_held later_held
held_long bytes = (
  omega (arith, length-take 4080 bytes),
  omega (arith, length-take 4080 bytes),
  omega (arith, length-take 4080 bytes, length-drop 4080 bytes),
)

held_full : (bytes : List ℕ) → 1 ≤ length (later_held bytes) → length (first_held bytes) ≡ 4080
unfolding first_held later_held
held_full bytes more = omega (arith, length-take 4080 bytes, length-drop 4080 bytes, more)

held_some : (bytes : List ℕ) → 1 ≤ length bytes → 1 ≤ length (first_held bytes)
unfolding first_held
held_some bytes some = omega (arith, length-take 4080 bytes)

held_whole : (bytes : List ℕ) → first_held bytes ++ later_held bytes ≡ bytes
unfolding first_held later_held
held_whole bytes = take-append-drop 4080 bytes

module _ (new : ℕ → List ℕ) (home chain : ℕ) (own : chain ≢ FREE) where
  -- a page of a chain that was written
  written_link : (ns : List ℕ) (bytes : List ℕ) (n : ℕ) → ((p : ℕ) → 1 ≤ times p (n ∷ ns) → (2 ≤ p) × (p < home))
      → AreWritten new chain 0 (n ∷ ns) bytes → IsLink chain (new n)
  written_link [] bytes n inside is = record {
    owner = is.1;
    full = λ other more. absurd (more is.2);
    last = λ other none. (omega (arith, is.3, held_some bytes is.0), omega (arith, is.3, (held_long bytes).0));
  }
  written_link (m ∷ ms) bytes n inside is = record {
    owner = is.1;
    full = λ other more. is.3 ∙ held_full bytes is.5.0;
    last = λ other none.
        let low = inside m (elim (once-cases m m) [ inl same ↦ omega (arith, same.1) | inr not ↦ absurd (not.0 refl) ]) in
        absurd (omega (arith, is.2, none, low.0));
  }

  pub written_path : (ns : List ℕ) (bytes : List ℕ) → ((p : ℕ) → 1 ≤ times p ns → (2 ≤ p) × (p < home))
      → AreWritten new chain 0 ns bytes → Path new home chain (head_or ns 0) ns 0
  written_path [] bytes inside is = refl
  written_path (n ∷ ns) bytes inside is =
      let here = inside n (elim (once-cases n n) [ inl same ↦ omega (arith, same.1) | inr not ↦ absurd (not.0 refl) ]) in (
        refl,
        record { above = here.0; below = here.1; link = written_link ns bytes n inside is },
        subst (λ (first : ℕ). Path new home chain first ns 0) (sym is.2)
            (written_path ns (later_held bytes) (λ p some. inside p (omega (arith, some))) is.5),
      )

  pub written_data : (ns : List ℕ) (bytes : List ℕ) → AreWritten new chain 0 ns bytes → data_in new ns ≡ bytes
  written_data [] bytes is = sym is
  written_data (n ∷ ns) bytes is =
      ap (λ (l : List ℕ). l ++ data_in new ns) is.4
      ∙ ap (λ (l : List ℕ). first_held bytes ++ l) (written_data ns (later_held bytes) is.5)
      ∙ held_whole bytes

pub head_along : (left kept : List ℕ) → head_or left (head_or kept 0) ≡ head_or (left ++ kept) 0
head_along [] kept = refl
head_along (n ∷ left) kept = refl

-- free pages, and then a path of them
pub freed_path : (new : ℕ → List ℕ) (home : ℕ) (left kept : List ℕ) → ((p : ℕ) → 1 ≤ times p left → (2 ≤ p) × (p < home))
    → AreFreed new (head_or kept 0) left → Path new home FREE (head_or kept 0) kept 0
    → Path new home FREE (head_or (left ++ kept) 0) (left ++ kept) 0
freed_path new home [] kept inside freed path = path
freed_path new home (n ∷ left) kept inside freed path =
    let here = inside n (elim (once-cases n n) [ inl same ↦ omega (arith, same.1) | inr not ↦ absurd (not.0 refl) ]) in (
      refl,
      record {
        above = here.0;
        below = here.1;
        link = record { owner = freed.0; full = λ other more. absurd (other refl); last = λ other none. absurd (other refl) };
      },
      subst (λ (first : ℕ). Path new home FREE first (left ++ kept) 0) (sym (freed.1 ∙ head_along left kept))
          (freed_path new home left kept (λ p some. inside p (omega (arith, some))) freed.2 path),
    )

-- what a path goes on with
pub path_behind : (page : ℕ → List ℕ) (home chain first : ℕ) (xs ys : List ℕ) → Path page home chain first (xs ++ ys) 0
    → Path page home chain (head_or ys 0) ys 0
path_behind page home chain first [] [] path = refl
path_behind page home chain first [] (y ∷ ys) path = (refl, path.1, path.2)
path_behind page home chain first (x ∷ xs) ys path = path_behind page home chain (next_of (page x)) xs ys path.2

pub part_or : (n : ℕ) (parts : List Laid) → IsNoPart n parts ⊎ ((pages : List ℕ) × (bytes : List ℕ) × IsPart n pages bytes parts)
part_or n [] = inl tt
part_or n (laid ∷ others) = elim (same_or n laid.number) [
  | inl here ↦ inr (laid.pages, laid.bytes, inl (here, refl, refl))
  | inr there ↦ elim (part_or n others) [
    | inl none ↦ inl (there, none)
    | inr some ↦ inr (some.0, some.1, inr some.2)
  ]
]

-- what is known of a part
pub record Known (page new : ℕ → List ℕ) (home : ℕ) (first next : ℕ → ℕ) (parts : List Laid) (n : ℕ) (pages bytes : List ℕ) : Type 0 where
  pub chain : n < CHAIN_END
  pub old : List ℕ
  pub had : HasPages page home n (first n) old
  pub written : AreWritten new n 0 pages bytes
  pub begins : next n ≡ head_or pages 0
  pub among_old : (p : ℕ) → times p old ≤ times_old p parts
  pub among_new : (p : ℕ) → times p pages ≤ times_new p parts

module _ (page new : ℕ → List ℕ) (home : ℕ) (first next : ℕ → ℕ) where
  pub part_known : (parts : List Laid) (n : ℕ) (pages bytes : List ℕ) → IsPart n pages bytes parts → AreOld page home first parts
      → AreLaid new parts
      → Begin next parts → Known page new home first next parts n pages bytes
  part_known [] n pages bytes part old laid begins = absurd part
  part_known (one ∷ others) n pages bytes (inl here) old laid begins =
      subst (λ (k : ℕ). Known page new home first next (one ∷ others) k pages bytes) (sym here.0)
      (subst (λ (l : List ℕ). Known page new home first next (one ∷ others) one.number l bytes) (sym here.1)
      (subst (λ (l : List ℕ). Known page new home first next (one ∷ others) one.number one.pages l) (sym here.2) (record {
        chain = old.0;
        old = one.old;
        had = old.1;
        written = laid.0;
        begins = begins.0;
        among_old = λ p. omega arith;
        among_new = λ p. omega arith;
      })))
  part_known (one ∷ others) n pages bytes (inr there) old laid begins =
      let later = part_known others n pages bytes there old.3 laid.1 begins.1 in
      record {
        chain = later.chain;
        old = later.old;
        had = later.had;
        written = later.written;
        begins = later.begins;
        among_old = λ p. omega (arith, later.among_old p);
        among_new = λ p. omega (arith, later.among_new p);
      }

  -- a page of an old chain tells the number of a part
  pub old_owner : (parts : List Laid) (p : ℕ) → AreOld page home first parts → 1 ≤ times_old p parts
      → (n : ℕ) × (n < CHAIN_END) × (IsNoPart n parts → ⊥) × IsGood page home n p
  old_owner [] p old some = absurd (omega arith)
  old_owner (one ∷ others) p old some = elim (cases_lt 0 (times p one.old)) [
    | inl here ↦ (
      one.number,
      old.0,
      λ none. none.0 refl,
      path_good page home one.number (first one.number) one.old 0 p old.1.path (omega (arith, here)),
    )
    | inr none ↦
        let later = old_owner others p old.3 (omega (arith, some, none)) in
        (later.0, later.1, λ without. later.2 without.1, later.3)
  ]

  pub old_once : (parts : List Laid) (p : ℕ) → AreOld page home first parts → times_old p parts ≤ 1
  old_once [] p old = omega arith
  old_once (one ∷ others) p old =
      let mine = path_once page home one.number (first one.number) one.old p old.1.path in
      let rest = old_once others p old.3 in
      elim (cases_lt 0 (times p one.old)) [
        | inr none ↦ omega (arith, rest, none)
        | inl here ↦ elim (cases_lt 0 (times_old p others)) [
          | inr none ↦ omega (arith, mine, none)
          | inl there ↦
              let good = path_good page home one.number (first one.number) one.old 0 p old.1.path (omega (arith, here)) in
              let later = old_owner others p old.3 (omega (arith, there)) in
              let same : one.number ≡ later.0 = sym good.link.owner ∙ later.3.link.owner in
              absurd (later.2 (subst (λ (k : ℕ). IsNoPart k others) same old.2))
        ]
      ]

  -- a page that some part gets
  pub new_part : (parts : List Laid) (p : ℕ) → 1 ≤ times_new p parts
      → (n : ℕ) × (pages : List ℕ) × (bytes : List ℕ) × IsPart n pages bytes parts × (1 ≤ times p pages)
  new_part [] p some = absurd (omega arith)
  new_part (one ∷ others) p some = elim (cases_lt 0 (times p one.pages)) [
    | inl here ↦ (one.number, one.pages, one.bytes, inl (refl, refl, refl), omega (arith, here))
    | inr none ↦
        let later = new_part others p (omega (arith, some, none)) in
        (later.0, later.1, later.2, inr later.3, later.4)
  ]
