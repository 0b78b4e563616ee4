use Rattle.std.proofs.Common.{inl, inr, ℕ, ◌+◌, ◌*◌, List, length, refl, sym, ap, subst, ◌∙◌, rules}
use Rattle.std.specs.Option.{is_some}
use Rattle.std.specs.FinMap as map
use Rattle.outside.specs.Disk.{ReadsAtMost}
use Rattle.page_journal.specs.Journal.{home_count, view_of}
use Rattle.chain_store.specs.Chain.{AreBehindRoot, HasPages}
use Rattle.chain_store.specs.Chains.{IsOpenStore}
use Rattle.chain_store.specs.Kept.{AreAllBehindRoot}
use Rattle.chain_store.specs.Known.{AreHeld, AreKnown, AreStored, Lists}
use Rattle.chain_store.specs.Links.{page_in}
use Rattle.chain_store.specs.Store.{kept_first}
use Rattle.chain_store.proofs.Looks.{looked_same}
use Rattle.chain_store.proofs.Puts.{get-here, held_bytes, held_put, held_read, known_more, open_held, open_looked, open_more, put_cases}
use Rattle.chain_store.proofs.Puts.{stored_read}
use Rattle.chain_store.proofs.chains.Chains.fetch.Goals as goal

pub invariant_of-self-in-Break-1 : goal.invariant_of-self-in-Break-1
invariant_of-self-in-Break-1 g c =
    let self = c.args.self.now in
    let same = c.in-Ok.ensures.looks.looked.pages in
    record {
      known = subst (λ (home : ℕ). AreKnown home self.read) (sym same) self.known;
      behind = subst (λ (home : ℕ). AreAllBehindRoot home self.kept.directories.items) (sym same) self.behind;
      held = held_put self.read self.texts c.hold.new.texts c.args.n c.from_vec-bytes.result c.hold.ensures.more self.held;
      stored = self.stored;
      gone = self.gone;
      few = self.few;
      count = self.count;
    }

pub invariant_of-self-2 : goal.invariant_of-self-2
invariant_of-self-2 g c =
    let self = c.args.self.now in
    let same = c.in-Ok.ensures.looks.looked.pages in
    let known : AreKnown (home_count self.journal) self.read = self.known in
    let is = put_cases c.put.result self.read c.put.new.self c.args.n c.from_vec.result c.put.ensures.ok c.put.ensures.err in
    record {
      known = subst (λ (home : ℕ). AreKnown home c.put.new.self) (sym same) (elim is [
        | inl put ↦ subst (λ (lists : Lists). AreKnown (home_count self.journal) lists) (sym put)
            (known_more self.read c.args.n c.from_vec.result (home_count self.journal) known
            (subst (λ (ns : List ℕ). AreBehindRoot (home_count self.journal) ns) (sym c.from_vec.ensures.items) c.in-Ok.ensures.inside))
        | inr kept ↦ subst (λ (lists : Lists). AreKnown (home_count self.journal) lists) (sym kept) known
      ]);
      behind = subst (λ (home : ℕ). AreAllBehindRoot home self.kept.directories.items) (sym same) self.behind;
      held =
          let held = held_put self.read self.texts c.hold.new.texts c.args.n c.from_vec-bytes.result c.hold.ensures.more self.held in
          elim is [
            | inl put ↦ subst (λ (lists : Lists). AreHeld lists c.hold.new.texts) (sym put)
                (held_read self.read c.args.n c.from_vec.result c.hold.new.texts held c.in_ok-hold.ensures.held)
            | inr kept ↦ subst (λ (lists : Lists). AreHeld lists c.hold.new.texts) (sym kept) held
          ];
      stored = elim is [
        | inl put ↦ subst (λ (lists : Lists). AreStored self.root.buckets lists self.written) (sym put)
            (stored_read self.read c.args.n c.from_vec.result self.root.buckets self.written self.stored)
        | inr kept ↦ subst (λ (lists : Lists). AreStored self.root.buckets lists self.written) (sym kept) self.stored
      ];
      gone = self.gone;
      few = self.few;
      count = self.count;
    }

pub returns-in_err-hold-clause-looks : goal.returns-in_err-hold-clause-looks
returns-in_err-hold-clause-looks g c = record {
  opens = λ pages opened.
      let self = c.args.self.now in
      let walks = c.in-Ok.ensures.answers pages opened.rests in
      open_held pages self.journal c.walk.new.journal self.kept self.read self.texts self.written self.before c.args.n
      c.from_vec-bytes.result c.hold.new.texts opened
      c.in-Ok.ensures.looks.looked
      (held_bytes pages c.args.n c.first-first.result (kept_first self.kept c.args.n) c.in-Ok.walked.pages.items c.in-Ok.walked.bytes.items
      c.from_vec-bytes.result c.first-first.ensures.first walks.0 walks.1 c.from_vec-bytes.ensures.items)
      c.hold.ensures.more;
  alone = search rules;
  stays = record { looked = c.walk.ensures.looks.looked; kept = refl; root = refl; written = refl };
  broken = search rules;
  refused = search rules;
  cause = search rules;
}

pub returns-in_err-put-clause-looks : goal.returns-in_err-put-clause-looks
returns-in_err-put-clause-looks g c = record {
  opens = λ pages opened.
      let self = c.args.self.now in
      let walks = c.in-Ok.ensures.answers pages opened.rests in
      subst (λ (lists : Lists). IsOpenStore pages c.walk.new.journal self.kept lists c.hold.new.texts self.written self.before)
      (sym c.in_err-put.ensures.err)
      (open_held pages self.journal c.walk.new.journal self.kept self.read self.texts self.written self.before c.args.n
      c.from_vec-bytes.result c.hold.new.texts opened
      c.in-Ok.ensures.looks.looked
      (held_bytes pages c.args.n c.first-first.result (kept_first self.kept c.args.n) c.in-Ok.walked.pages.items c.in-Ok.walked.bytes.items
      c.from_vec-bytes.result c.first-first.ensures.first walks.0 walks.1 c.from_vec-bytes.ensures.items)
      c.hold.ensures.more);
  alone = search rules;
  stays = record { looked = c.walk.ensures.looks.looked; kept = refl; root = refl; written = refl };
  broken = search rules;
  refused = search rules;
  cause = search rules;
}

pub returns-clause-looks : goal.returns-clause-looks
returns-clause-looks g c = record {
  opens = λ pages opened.
      let self = c.args.self.now in
      let walks = c.in-Ok.ensures.answers pages opened.rests in
      let has : HasPages (page_in pages) (length pages + 1) c.args.n (kept_first self.kept c.args.n) c.from_vec.result =
      subst (λ (ns : List ℕ). HasPages (page_in pages) (length pages + 1) c.args.n (kept_first self.kept c.args.n) ns)
      (sym c.from_vec.ensures.items)
      (subst (λ (first : ℕ). HasPages (page_in pages) (length pages + 1) c.args.n first c.in-Ok.walked.pages.items)
      c.first-first.ensures.first walks.0) in
      let held : IsOpenStore pages c.walk.new.journal self.kept self.read c.hold.new.texts self.written self.before =
      open_held pages self.journal c.walk.new.journal self.kept self.read self.texts self.written self.before c.args.n
      c.from_vec-bytes.result c.hold.new.texts opened
      c.in-Ok.ensures.looks.looked
      (held_bytes pages c.args.n c.first-first.result (kept_first self.kept c.args.n) c.in-Ok.walked.pages.items c.in-Ok.walked.bytes.items
      c.from_vec-bytes.result c.first-first.ensures.first walks.0 walks.1 c.from_vec-bytes.ensures.items)
      c.hold.ensures.more in
      subst (λ (lists : Lists). IsOpenStore pages c.walk.new.journal self.kept lists c.hold.new.texts self.written self.before)
      (sym c.in_ok-put.ensures.ok)
      (open_more pages c.walk.new.journal c.walk.new.journal self.kept self.read c.hold.new.texts self.written self.before c.args.n
      c.from_vec.result held
      (looked_same c.walk.new.journal) has);
  alone = search rules;
  stays = record { looked = c.walk.ensures.looks.looked; kept = refl; root = refl; written = refl };
  broken = search rules;
  refused = search rules;
  cause = search rules;
}

pub returns-clause-known : goal.returns-clause-known
returns-clause-known g c =
    ap (λ (lists : Lists). is_some (map.get lists c.args.n)) c.in_ok-put.ensures.ok
    ∙ ap is_some (get-here c.args.self.now.read c.args.n c.from_vec.result c.args.n refl)

pub returns-in-Err-clause-looks : goal.returns-in-Err-clause-looks
returns-in-Err-clause-looks g c = record {
  opens = λ pages opened.
      let self = c.args.self.now in
      open_looked pages self.journal c.walk.new.journal self.kept self.read self.texts self.written self.before opened
      c.walk.ensures.looks.looked;
  alone = search rules;
  stays = record { looked = c.walk.ensures.looks.looked; kept = refl; root = refl; written = refl };
  broken = search rules;
  refused = search rules;
  cause = search rules;
}

pub returns-clause-reads : goal.returns-clause-reads
returns-clause-reads g c =
    let self = c.args.self.now in (
      c.from_vec.result,
      c.in_ok-put.ensures.ok,
      subst (λ (ns : List ℕ). ReadsAtMost (length ns) (4096 * home_count self.journal) (view_of self.journal) (view_of c.walk.new.journal))
          (sym c.from_vec.ensures.items)
          c.in-Ok.ensures.reads,
    )
