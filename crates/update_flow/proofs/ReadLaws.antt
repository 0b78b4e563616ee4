-- What a change reads, call by call.
use Rattle.std.proofs.Common.{◌≡◌, ◌⊎◌, inl, inr, ◌≤◌, ℕ, false, List, Option, Some, Result, Ok, Err, OnOk, sym, ap, subst, ◌∙◌, arith}
use mathlib.Core.Bool.{false≢true}
use Rattle.std.specs.Prelude.{IsSome, is_some}
use Rattle.std.specs.FinMap as map
use Rattle.std.specs.Ordering.{nat_cmp}
use Rattle.outside.specs.declared.disk.Disk.{Ghosts}
use Rattle.page_journal.specs.Home.{Home}
use Rattle.page_journal.specs.Journal.{view_of}
use Rattle.page_journal.specs.declared.journal.Journal.{Journal}
use Rattle.page_journal.proofs.Uniqueness.{one_home}
use Rattle.chain_store.specs.Answers.{RestsWith}
use Rattle.chain_store.specs.Chains.{journal_of, kept_of, read_of}
use Rattle.chain_store.specs.Ends.{ReadsFree}
use Rattle.chain_store.specs.Known.{Lists}
use Rattle.chain_store.specs.Reads.{ReadsOnly, pages_read}
use Rattle.chain_store.specs.declared.kept.Kept.{Kept}
use Rattle.chain_store.specs.declared.layout.TheConstants.{FREE}
use Rattle.chain_store.proofs.Counted.{reads_wider}
use Rattle.chain_store.proofs.Looks.{rests_looked}
use Rattle.bucket_store.specs.Buckets.{bucket_count}
use Rattle.bucket_store.specs.Image.{Has, Image, OnlyLooks}
use Rattle.bucket_store.specs.Transaction.{chains_of, has_refused}
use Rattle.bucket_store.specs.declared.buckets.Buckets.{Buckets}
use Rattle.back_index.specs.Reads.{HasReadOnly, IsOfKey, ReadsBuckets}
use Rattle.store_maps.specs.Asked.{May}
use Rattle.update_flow.specs.Reads.{HasChain, MayLoad, ReadsOnce, ReadsToCommit}
use Rattle.update_flow.specs.declared.fields.TheConstants.{DUE_TEXT}

pub ok_then : {A E : Type 0} (result : Result A E) {P Q : Type 0} → OnOk result P → (P → Q) → OnOk result Q
ok_then (Ok value) p f = f p
ok_then (Err why) p f = tt

told_one : (content : Option (List ℕ)) (one two : List ℕ) → content ≡ Some one → content ≡ Some two → one ≡ two
told_one content one two first second = same (sym first ∙ second)
  where
    same : Some one ≡ Some two → one ≡ two
    same is = cc (is)

-- nothing was read
unread : (read : Lists) (n : ℕ) → read ≡ map.empty → IsSome (map.get read n) → ⊥
unread read n none some = false≢true (sym (ap is_some (ap (λ (l : Lists). map.get l n) none ∙ map.get-empty nat_cmp n)) ∙ some)

module _ {D : Type 0} {g : Ghosts D} where
  -- a store at rest has one list of home pages
  one_rest : (pages others : List (List ℕ)) (journal : Journal D g) → RestsWith pages journal → RestsWith others journal → pages ≡ others
  one_rest pages others journal one other =
      one_home pages others one.0.0 one.0.1.home
      (subst (Home others) (sym (told_one (view_of journal).content one.0.0 other.0.0 one.0.1.told other.0.1.told)) other.0.1.home)

  pub commit_reads : (rest now : Image) (old new : Buckets D g) → Has rest now old
      → ReadsFree (journal_of (chains_of old)) (kept_of (chains_of old)) (journal_of (chains_of new))
      → ReadsToCommit (λ n. ⊥) old new
  commit_reads rest now old new has reads = record {
    read = read_of (chains_of old);
    each = λ n some. inl some;
    are = λ pages rests n ns is.
        subst (λ (l : List (List ℕ)). HasChain l (kept_of (chains_of old)) n ns)
        (one_rest has.pages pages (journal_of (chains_of old)) has.opens.open_chains.rests rests)
        (has.opens.open_chains.known n ns is);
    free = reads.0;
    is_free = reads.1;
    count = λ first told. let now = reads.2 first told in (now.0, now.1, omega (arith, now.2));
  }

  abbrev pub wider_commit : (P Q : ℕ → Type 0) (old new : Buckets D g) → ((n : ℕ) → P n → Q n) → ReadsToCommit P old new
      → ReadsToCommit Q old new
  wider_commit P Q old new wider reads = record {
    read = reads.read;
    each = λ n some. elim (reads.each n some) [ inl before ↦ inl before | inr is ↦ inr (wider n is) ];
    are = reads.are;
    free = reads.free;
    is_free = reads.is_free;
    count = reads.count;
  }

  -- with what was read before it
  abbrev pub reads_before : (P : ℕ → Type 0) (old mid new : Buckets D g) → OnlyLooks old mid → ReadsOnly P (chains_of old) (chains_of mid)
      → ReadsToCommit P mid new → ReadsToCommit P old new
  reads_before P old mid new looks reads later = record {
    read = later.read;
    each = λ n some. elim (later.each n some) [ inl between ↦ reads.each n between | inr is ↦ inr is ];
    are = λ pages rests n ns is.
        subst (λ (k : Kept). HasChain pages k n ns) looks.kept
        (later.are pages (rests_looked pages (journal_of (chains_of old)) (journal_of (chains_of mid)) rests looks.looked) n ns is);
    free = later.free;
    is_free = λ pages rests.
        subst (λ (k : Kept). HasChain pages k FREE later.free) looks.kept
        (later.is_free pages (rests_looked pages (journal_of (chains_of old)) (journal_of (chains_of mid)) rests looks.looked));
    count = λ first told.
        let one = reads.within first told in
        let two = later.count one.0 one.1 in
        (two.0, two.1, omega (arith, one.2, two.2));
  }

  -- a call that reads nothing
  pub reads_root : (P : ℕ → Type 0) (old new : Buckets D g) → journal_of (chains_of new) ≡ journal_of (chains_of old)
      → read_of (chains_of new) ≡ read_of (chains_of old)
      → ReadsOnly P (chains_of old) (chains_of new)
  reads_root P old new journal read = record {
    within = λ first told. (first, ap (λ (j : Journal D g). (view_of j).reads) journal ∙ told, omega (arith, ap pages_read read));
    each = λ n some. inl (subst (λ (l : Lists). IsSome (map.get l n)) read some);
  }

  -- the due tiles are read, then what the change touches, and then all is committed
  module _ (may : May) (old mid last new : Buckets D g) (unread_yet : read_of (chains_of old) ≡ map.empty)
      (loads : ReadsOnly (λ n. n ≡ DUE_TEXT) (chains_of old) (chains_of mid)) where
    pub none_loaded : HasReadOnly may mid
    none_loaded = record {
      each = λ goes n from some. elim (loads.each n some) [
        | inl before ↦ absurd (unread (read_of (chains_of old)) n unread_yet before)
        | inr is ↦ absurd (below n from is)
      ];
    }
      where
        below : (n : ℕ) → 16 ≤ n → n ≡ 2 → ⊥
        below n from is = omega (arith, from, is)

    pub change_reads : OnlyLooks old mid → OnlyLooks mid last → ReadsBuckets mid last → HasReadOnly may last → has_refused last ≡ false
        → bucket_count (chains_of last) ≡ bucket_count (chains_of old) → ReadsToCommit (λ n. n ≡ DUE_TEXT) last new
        → (pages : List (List ℕ)) → RestsWith pages (journal_of (chains_of old))
        → ReadsOnce (MayLoad may (bucket_count (chains_of old))) pages (kept_of (chains_of old)) (view_of (journal_of (chains_of old)))
        (view_of (journal_of (chains_of new)))
    change_reads first second buckets only going same ends pages rests =
        let P : ℕ → Type 0 = λ n. (n ≡ DUE_TEXT) ⊎ (16 ≤ n) in
        let all : ReadsToCommit P old new = reads_before P old mid new first
        (reads_wider (λ n. n ≡ DUE_TEXT) P (chains_of old) (chains_of mid) (λ n is. inl is) loads)
        (reads_before P mid last new second (reads_wider (λ n. 16 ≤ n) P (chains_of mid) (chains_of last) (λ n is. inr is) buckets)
        (wider_commit (λ n. n ≡ DUE_TEXT) P last new (λ n is. inl is) ends)) in
        record {
          read = ends.read;
          each = λ n some. elim (ends.each n some) [
            | inl at_last ↦ elim (buckets.each n at_last) [
              | inl at_mid ↦ elim (loads.each n at_mid) [
                | inl at_first ↦ absurd (unread (read_of (chains_of old)) n unread_yet at_first)
                | inr is ↦ inl is
              ]
              | inr from ↦ inr (subst (λ (count : ℕ). IsOfKey may count n) same (only.each going n from at_last))
            ]
            | inr is ↦ inl is
          ];
          are = all.are pages rests;
          free = ends.free;
          is_free = all.is_free pages rests;
          count = λ start told. let now = all.count start told in (now.0, now.1, omega (arith, now.2));
        }
