-- The chains are given what was changed, and then they commit.
use Rattle.std.proofs.Common.{◌≡◌, ◌||◌, ℕ, Bool, false, Ok, Err, List, refl, sym, ap, subst, ◌∙◌, arith}
use Rattle.page_journal.specs.Answers.{answers_disk_fault}
use Rattle.page_journal.specs.Journal.{home_count, is_broken, page_limit}
use Rattle.chain_store.specs.Chains.{before_of, disk_of, journal_of, kept_of, read_of, root_of, written_of}
use Rattle.chain_store.specs.Directories.{root_in}
use Rattle.chain_store.specs.Ends.{IsCommitAnswer}
use Rattle.chain_store.specs.Known.{changed}
use Rattle.chain_store.specs.State.{IsState}
use Rattle.chain_store.specs.declared.root.Root.{Root}
use Rattle.chain_store.proofs.Looks.{looked_then}
use Rattle.bucket_store.specs.Buckets.{bucket_count}
use Rattle.bucket_store.specs.Committing.{given}
use Rattle.bucket_store.specs.Image.{IsSoundCommit}
use Rattle.bucket_store.proofs.Caches.{nothing}
use Rattle.bucket_store.proofs.Frames.{or_none}
use Rattle.bucket_store.proofs.Holding.{has_anew}
use Rattle.bucket_store.proofs.Installs.{alone_commits, commits_chains, commits_none, given_is, images_idle, is_given, moment_given}
use Rattle.bucket_store.proofs.Installs.{moment_idle, open_none}
use Rattle.bucket_store.proofs.Meanings.{goes_images, spells_given}
use Rattle.bucket_store.proofs.Needs.{fits_image, fits_unread}
use Rattle.bucket_store.proofs.Once.{free_later, read_none}
use Rattle.bucket_store.proofs.Sound.{sound_ends, sound_writes}
use Rattle.bucket_store.proofs.buckets.Buckets.commit.Goals as goal

pub invariant_of-self : goal.invariant_of-self
invariant_of-self g c =
    record {
      going = λ same. absurd (cc);
      own = λ n own there. absurd (nothing c.new.result n own c.new.ensures.empty there);
      once = λ same. absurd (cc);
    }

pub invariant_of-self-in-Ok : goal.invariant_of-self-in-Ok
invariant_of-self-in-Ok g c =
    record {
      going = λ same. c.in-Ok.ensures.refused;
      own = λ n own there. absurd (nothing c.new.result n own c.new.ensures.empty there);
      once = λ same. read_none _ c.new.result c.in-Ok.ensures.begun.read c.new.ensures.empty;
    }

pub invariant_of-self-in-Err-commit : goal.invariant_of-self-in-Err-commit
invariant_of-self-in-Err-commit g c =
    record {
      going = λ same. absurd (cc);
      own = λ n own there. absurd (nothing c.new.result n own c.new.ensures.empty there);
      once = λ same. absurd (cc);
    }

pub returns-in-Ok-clause-strings : goal.returns-in-Ok-clause-strings
returns-in-Ok-clause-strings g c =
    let old = c.args.self.now.chains in
    let mid = c.store_changed-stored.new.chains in
    let done = c.in_default.ensures in
    let all : (strings : ℕ → List ℕ) → changed strings (written_of mid) ≡ given strings c.args.self.now.cache (written_of old) =
    λ strings. given_is strings c.args.self.now.cache (written_of old) (written_of mid) done.written in
    record {
      any_moment = λ root strings pages was state.
          moment_given pages (disk_of old) (disk_of mid) (disk_of c.commit.new.self) root (root_of mid) (root_of old) strings
          (changed strings (written_of mid)) (given strings c.args.self.now.cache (written_of old)) was.open_chains.rests.0
          done.leaves.looked.stays state done.leaves.root
          (all strings)
          (c.in-Ok.ensures.any_moment root strings pages (done.open pages was.open_chains was.origins) state);
      done = λ root strings pages was state.
          let made = c.in-Ok.ensures.done root strings pages (done.open pages was.open_chains was.origins) state in (
            made.0,
            open_none made.0 c.commit.new.self c.new.result c.new.ensures.empty made.1,
            is_given (root_of mid) (root_of old) (changed strings (written_of mid))
                (given strings c.args.self.now.cache (written_of old)) made.0 done.leaves.root
                (all strings) made.2,
          );
      answers = λ pages was.
          let opens = done.open pages was.open_chains was.origins in
          commits_chains pages old mid c.args.self.now.cache done.leaves.kept done.leaves.root opens done.written (Ok tt)
          (page_limit (journal_of mid))
          (page_limit (journal_of old)) (home_count (journal_of c.commit.new.self)) done.leaves.looked.limit
          (c.in-Ok.ensures.answers pages opens);
    }

pub returns-in-Ok-clause-image : goal.returns-in-Ok-clause-image
returns-in-Ok-clause-image g c =
    let self = c.args.self.now in
    let old = self.chains in
    let mid = c.store_changed-stored.new.chains in
    let done = c.in_default.ensures in
    let strings = returns-in-Ok-clause-strings g c in
    record {
      any_moment = λ rest now has.
          goes_images rest now has.strings (given has.strings self.cache (written_of old)) (root_of old) _ _ has.spells
          (spells_given rest now self has done.rise) has.root
          (strings.any_moment rest.root has.strings has.pages has.opens has.state);
      has = λ rest now has.
          let whole = c.in-Ok.ensures.commits.broken
          ∙ ap (λ (b : Bool). b || false) (done.leaves.broken ∙ ap (λ (b : Bool). b || false) has.whole) in
          let made = strings.done rest.root has.strings has.pages has.opens has.state in
          has_anew now _ made.0 (given has.strings self.cache (written_of old)) made.1
          (subst (λ (r : Root). IsState r (given has.strings self.cache (written_of old)) made.0) has.root made.2)
          (spells_given rest now self has done.rise) whole
          (c.in-Ok.ensures.begun.root ∙ ap (λ (page : List ℕ). root_in page) made.1.open_chains.keeps.front ∙ made.2.fields ∙ has.root)
          c.in-Ok.ensures.begun.written c.new.ensures.empty;
      needs = λ rest now has.
          fits_image (Ok tt) (home_count (journal_of mid)) (home_count (journal_of old)) (page_limit (journal_of mid))
          (page_limit (journal_of old))
          (home_count (journal_of c.commit.new.self)) (root_of mid) (changed has.strings (written_of mid))
          (given has.strings self.cache (written_of old)) now
          done.leaves.looked.pages done.leaves.looked.limit (done.leaves.root ∙ has.root)
          (given_is has.strings self.cache (written_of old) (written_of mid) done.written)
          (spells_given rest now self has done.rise)
          (c.in-Ok.ensures.needs rest.root has.strings has.pages (done.open has.pages has.opens.open_chains has.opens.origins) has.state);
      sound = λ rest now has. tt;
    }

pub returns-in-Ok-clause-reads : goal.returns-in-Ok-clause-reads
returns-in-Ok-clause-reads g c =
    let old = c.args.self.now.chains in
    let mid = c.store_changed-stored.new.chains in
    let done = c.in_default.ensures in
    free_later (journal_of old) (journal_of mid) (journal_of c.commit.new.self) (kept_of old)
    (kept_of mid) done.leaves.looked done.leaves.kept
    (done.reads (c.args.self.now.once c.requires).all).1 c.in-Ok.ensures.reads

pub returns-in-Err-clause-strings : goal.returns-in-Err-clause-strings
returns-in-Err-clause-strings g c =
    let chains = c.args.self.now.chains in
    let mid = c.store_changed-stored.new.chains in
    let done = c.in-Err.ensures in
    record {
      any_moment = λ root strings pages was state.
          moment_idle pages (disk_of chains) (disk_of mid) root (root_of chains) strings
          (given strings c.args.self.now.cache (written_of chains))
          was.open_chains.rests.0 done.leaves.looked.stays state;
      done = tt;
      answers = λ pages was.
          commits_none c.in-Err.fault pages chains c.args.self.now.cache (page_limit (journal_of chains)) (home_count (journal_of mid))
          (bucket_count chains)
          (done.answers pages was.open_chains was.origins) done.leaves.alone;
    }

pub returns-in-Err-clause-image : goal.returns-in-Err-clause-image
returns-in-Err-clause-image g c =
    let self = c.args.self.now in
    let chains = self.chains in
    let mid = c.store_changed-stored.new.chains in
    let done = c.in-Err.ensures in
    record {
      any_moment = λ rest now has.
          images_idle rest now has.pages (disk_of chains)
          (disk_of mid) has.strings has.opens.open_chains.rests.0 done.leaves.looked.stays has.state has.spells;
      has = tt;
      needs = λ rest now has.
          fits_unread c.in-Err.fault (is_broken (journal_of chains)) (home_count (journal_of chains)) now (page_limit (journal_of chains))
          (home_count (journal_of mid)) done.leaves.alone;
      sound = λ rest now has.
          sound_writes has.pages (kept_of chains) rest.root has.strings has.opens.open_chains.keeps has.state (Err c.in-Err.fault)
          (bucket_count chains)
          (page_limit (journal_of chains)) (is_broken (journal_of chains))
          (done.answers has.pages has.opens.open_chains has.opens.origins) done.leaves.alone has.whole;
    }

pub returns-in-Err-commit-clause-strings : goal.returns-in-Err-commit-clause-strings
returns-in-Err-commit-clause-strings g c =
    let old = c.args.self.now.chains in
    let mid = c.store_changed-stored.new.chains in
    let done = c.in_default.ensures in
    let all : (strings : ℕ → List ℕ) → changed strings (written_of mid) ≡ given strings c.args.self.now.cache (written_of old) =
    λ strings. given_is strings c.args.self.now.cache (written_of old) (written_of mid) done.written in
    record {
      any_moment = λ root strings pages was state.
          moment_given pages (disk_of old) (disk_of mid) (disk_of c.commit.new.self) root (root_of mid) (root_of old) strings
          (changed strings (written_of mid)) (given strings c.args.self.now.cache (written_of old)) was.open_chains.rests.0
          done.leaves.looked.stays state done.leaves.root
          (all strings)
          (c.in-Err-commit.ensures.any_moment root strings pages (done.open pages was.open_chains was.origins) state);
      done = tt;
      answers = λ pages was.
          let opens = done.open pages was.open_chains was.origins in
          commits_chains pages old mid c.args.self.now.cache done.leaves.kept done.leaves.root opens done.written
          (Err c.in-Err-commit.fault) (page_limit (journal_of mid))
          (page_limit (journal_of old)) (home_count (journal_of c.commit.new.self)) done.leaves.looked.limit
          (c.in-Err-commit.ensures.answers pages opens);
    }

pub returns-in-Err-commit-clause-image : goal.returns-in-Err-commit-clause-image
returns-in-Err-commit-clause-image g c =
    let self = c.args.self.now in
    let old = self.chains in
    let mid = c.store_changed-stored.new.chains in
    let done = c.in_default.ensures in
    let strings = returns-in-Err-commit-clause-strings g c in
    record {
      any_moment = λ rest now has.
          goes_images rest now has.strings (given has.strings self.cache (written_of old)) (root_of old) _ _ has.spells
          (spells_given rest now self has done.rise) has.root
          (strings.any_moment rest.root has.strings has.pages has.opens has.state);
      has = tt;
      needs = λ rest now has.
          fits_image (Err c.in-Err-commit.fault) (home_count (journal_of mid)) (home_count (journal_of old)) (page_limit (journal_of mid))
          (page_limit (journal_of old))
          (home_count (journal_of c.commit.new.self)) (root_of mid) (changed has.strings (written_of mid))
          (given has.strings self.cache (written_of old)) now
          done.leaves.looked.pages done.leaves.looked.limit (done.leaves.root ∙ has.root)
          (given_is has.strings self.cache (written_of old) (written_of mid) done.written)
          (spells_given rest now self has done.rise)
          (c.in-Err-commit.ensures.needs rest.root has.strings has.pages
          (done.open has.pages has.opens.open_chains has.opens.origins) has.state);
      sound = λ rest now has.
          let opens = done.open has.pages has.opens.open_chains has.opens.origins in
          let whole = done.leaves.broken ∙ ap (λ (b : Bool). b || false) has.whole in
          subst (λ (limit : ℕ). IsSoundCommit {T = Unit {0}} limit (Err c.in-Err-commit.fault)) done.leaves.looked.limit
          (sound_ends has.pages (kept_of mid) rest.root has.strings opens.keeps has.state (Err c.in-Err-commit.fault) (root_of mid)
          (written_of mid) (read_of mid)
          (before_of mid) (page_limit (journal_of mid)) (home_count (journal_of c.commit.new.self)) (is_broken (journal_of mid))
          (c.in-Err-commit.ensures.answers has.pages opens) c.in-Err-commit.ensures.commits.alone whole);
    }

pub returns-in-Err-commit-clause-ends : goal.returns-in-Err-commit-clause-ends
returns-in-Err-commit-clause-ends g c =
    let old = c.args.self.now.chains in
    let mid = c.store_changed-stored.new.chains in
    let before = c.in_default.ensures.leaves in
    let done = c.in-Err-commit.ensures.commits in
    let fault = c.in-Err-commit.fault in
    let still = before.broken ∙ sym (or_none (is_broken (journal_of old))) in
    record {
      opens = λ _ quiet pages was.
          open_none pages c.commit.new.self c.new.result c.new.ensures.empty
          (done.opens refl quiet pages (c.in_default.ensures.open pages was.open_chains was.origins));
      same = λ failed quiet. record {
        looked = looked_then (journal_of old) (journal_of mid) (journal_of c.commit.new.self) before.looked (done.looked failed quiet);
        kept = done.kept failed ∙ before.kept;
        later = omega (arith, before.cause.later, done.cause.later);
      };
      alone = subst (λ (b : Bool). IsCommitAnswer {T = Unit {0}} b (page_limit (journal_of old)) (Err fault)) still
          (subst (λ (limit : ℕ). IsCommitAnswer {T = Unit {0}} (is_broken (journal_of mid)) limit (Err fault)) before.looked.limit
          done.alone);
      none = c.new.ensures.empty;
      refused = refl;
      broken = done.broken ∙ ap (λ (b : Bool). b || answers_disk_fault {T = Unit {0}} (Err fault)) still;
      cause = record {
        later = omega (arith, before.cause.later, done.cause.later);
        failed = λ is. omega (arith, before.cause.later, done.cause.failed is);
      };
      limit = done.limit ∙ before.looked.limit;
      same_disk = done.same_disk ∙ before.looked.same_disk;
    }

pub returns-in-Err-clause-ends : goal.returns-in-Err-clause-ends
returns-in-Err-clause-ends g c =
    let chains = c.args.self.now.chains in
    let done = c.in-Err.ensures.leaves in
    record {
      opens = λ _ _ pages was.
          open_none pages c.store_changed-stored.new.chains c.new.result c.new.ensures.empty
          (c.in-Err.ensures.open pages was.open_chains was.origins);
      same = λ _ _. record { looked = done.looked; kept = done.kept; later = done.cause.later };
      alone = alone_commits c.in-Err.fault (is_broken (journal_of chains)) (page_limit (journal_of chains)) done.alone;
      none = c.new.ensures.empty;
      refused = refl;
      broken = done.broken;
      cause = done.cause;
      limit = done.looked.limit;
      same_disk = done.looked.same_disk;
    }
