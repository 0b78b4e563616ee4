use Rattle.std.proofs.Common.{Bool, ◌||◌, ◌≡◌, ◌∷◌, [], ◌+◌, ◌*◌, ◌<◌, ◌≤◌, ◌++◌, ℕ, List, length, refl, sym, ap, subst, ◌∙◌, arith}
use Rattle.std.proofs.Common.{length-append, rules}
use Rattle.page_journal.specs.Pages.{number}
use Rattle.std.proofs.Math.Bool.{or-false}
use Rattle.std.proofs.lemmas.List.Elements.{All-push}
use Rattle.outside.specs.Disk.{ReadsAtMost}
use Rattle.page_journal.specs.Answers.{is_disk_fault}
use Rattle.page_journal.specs.Journal.{home_count, is_broken, view_of}
use Rattle.page_journal.proofs.ReadCounts.{reads_then}
use Rattle.chain_store.specs.Chain.{AreBehindRoot, IsBehindRoot, IsGood, Path, data_in}
use Rattle.chain_store.specs.Links.{data_of, next_of, page_in}
use Rattle.chain_store.proofs.Looks.{looked_then, rests_looked}
use Rattle.chain_store.proofs.Paths.{path_push, data_push}
use Rattle.chain_store.proofs.walking.walk.Goals as goal

pub loop-at-preserved : goal.loop-at-preserved
loop-at-preserved g c =
    let inv = c.loop-at.invariant in
    let may = c.if-not-may_follow.ensures.0 refl in
    let pushed : c.push.new.self.items ≡ c.loop-at.pages.items ++ c.loop-at.at ∷ [] = c.in_ok-push.ensures.items in
    let many : length c.push.new.self.items ≡ length c.loop-at.pages.items + 1 =
    ap (λ (l : List ℕ). length l) pushed ∙ simp length-append in
    let inside : (2 ≤ c.loop-at.at) × (c.loop-at.at < home_count c.args.journal.now) = (may.0, omega (arith, may.1, inv.home)) in
    record {
      answers = λ pages rests.
          let so_far = inv.answers pages rests in
          let here = c.in_default.ensures.answers pages (rests_looked pages c.args.journal.now c.loop-at.journal rests inv.looked)
          (omega (arith, may.0)) in
          let good : IsGood (page_in pages) (length pages + 1) c.args.chain c.loop-at.at =
          record { above = may.0; below = omega (arith, inside.1, rests.1); link = here.1 } in
          let next : c.number_at-at.result ≡ next_of (page_in pages c.loop-at.at) =
          c.number_at-at.ensures ∙ ap (λ (l : List ℕ). number l 0) here.0 in (
            subst (λ (ns : List ℕ). Path (page_in pages) (length pages + 1) c.args.chain c.args.first ns c.number_at-at.result) (sym pushed)
                (subst (λ (at : ℕ). Path (page_in pages) (length pages + 1) c.args.chain c.args.first
                (c.loop-at.pages.items ++ c.loop-at.at ∷ []) at) (sym next)
                (path_push (page_in pages) (length pages + 1) c.args.chain c.args.first c.loop-at.pages.items c.loop-at.at so_far.0 good)),
            ap (λ (ns : List ℕ). data_in (page_in pages) ns) pushed
                ∙ data_push (page_in pages) (length pages + 1) c.args.chain c.loop-at.pages.items c.loop-at.at
                ∙ ap (λ (l : List ℕ). l ++ data_of (page_in pages c.loop-at.at)) so_far.1
                ∙ ap (λ (l : List ℕ). c.loop-at.bytes.items ++ l)
                (ap (λ (l : List ℕ). data_of l) (sym here.0) ∙ sym c.data_part.ensures)
                ∙ sym c.in_ok-extend_from_slice.ensures.items,
          );
      home = inv.home;
      some = inv.some;
      few = omega (arith, may.2, c.len.ensures, many);
      inside = subst (λ (ns : List ℕ). AreBehindRoot (home_count c.args.journal.now) ns) (sym pushed)
          (All-push (IsBehindRoot (home_count c.args.journal.now)) c.loop-at.pages.items c.loop-at.at inv.inside inside);
      looked = looked_then c.args.journal.now c.loop-at.journal c.look_at.new.journal inv.looked c.look_at.ensures.looks.looked;
      broken = c.in_default.ensures.looks.broken ∙ or-false (is_broken c.loop-at.journal) ∙ inv.broken;
      reads = subst (λ (n : ℕ). ReadsAtMost n (4096 * home_count c.args.journal.now) (view_of c.args.journal.now)
          (view_of c.look_at.new.journal)) (sym many)
          (reads_then (length c.loop-at.pages.items) 1 (4096 * home_count c.args.journal.now) (view_of c.args.journal.now).reads
          (view_of c.loop-at.journal).reads (view_of c.look_at.new.journal).reads inv.reads
          (subst (λ (n : ℕ). ReadsAtMost 1 (4096 * n) (view_of c.loop-at.journal) (view_of c.look_at.new.journal)) inv.looked.pages
          c.in_default.ensures.reads));
      later = omega (arith, inv.later, c.in_default.ensures.looks.cause.later);
    }

pub returns-in-Err-clause-looks : goal.returns-in-Err-clause-looks
returns-in-Err-clause-looks g c = record {
  looked = looked_then c.args.journal.now c.loop-at.journal c.look_at.new.journal c.loop-at.invariant.looked c.look_at.ensures.looks.looked;
  alone = search rules;
  broken = c.in-Err.ensures.looks.broken ∙ ap (λ (b : Bool). b || is_disk_fault c.in-Err.fault) c.loop-at.invariant.broken;
  cause = search rules;
}

pub returns-in_err-push-clause-looks : goal.returns-in_err-push-clause-looks
returns-in_err-push-clause-looks g c = record {
  looked = looked_then c.args.journal.now c.loop-at.journal c.look_at.new.journal c.loop-at.invariant.looked c.look_at.ensures.looks.looked;
  alone = search rules;
  broken = search rules;
  cause = search rules;
}

pub returns-in_err-extend_from_slice-clause-looks : goal.returns-in_err-extend_from_slice-clause-looks
returns-in_err-extend_from_slice-clause-looks g c = record {
  looked = looked_then c.args.journal.now c.loop-at.journal c.look_at.new.journal c.loop-at.invariant.looked c.look_at.ensures.looks.looked;
  alone = search rules;
  broken = search rules;
  cause = search rules;
}
