-- A commit is done, or nothing was begun.
use Rattle.std.proofs.Common.{Some, arith, refl, sym, subst}
use Rattle.bucket_store.proofs.Holding.{rests_under}
use Rattle.update_flow.specs.Turning.{CommitsWith, home_in}
use Rattle.update_flow.specs.declared.fault.FlowFault.{FlowFault}
use Rattle.update_flow.proofs.Needs.{commit_fits}
use Rattle.update_flow.proofs.Openings.{quiet_fault}
use Rattle.update_flow.proofs.Turning.{commit_answers, committed_ends, uncommitted_ends}
use Rattle.update_flow.proofs.ReadLaws.{commit_reads}
use Rattle.update_flow.proofs.finishing.finish.Goals as goal

pub returns-in-Ok-clause-commits : goal.returns-in-Ok-clause-commits
returns-in-Ok-clause-commits g c = record {
  commits = λ limits rest now same has. record {
    answer = refl;
    needs = let fits = c.in-Ok.ensures.image.needs rest now has in (home_in c.commit.new.self, fits.0, omega (arith, same, fits.1));
    done = λ is. rests_under now now c.commit.new.self (c.in-Ok.ensures.image.has rest now has);
    grown = λ is. let fits = c.in-Ok.ensures.image.needs rest now has in (fits.0, omega (arith, same, fits.1));
    refused = λ not no. absurd (not refl);
    moments = c.commit.ensures.image.any_moment rest now has;
  };
  ends = committed_ends c.args.buckets.now c.commit.new.self c.requires.ready.whole c.commit.ensures.ends.same_disk
      c.commit.ensures.ends.cause.later c.in-Ok.ensures.ends.broken;
}

pub returns-in-Err-clause-commits : goal.returns-in-Err-clause-commits
returns-in-Err-clause-commits g c =
    subst (λ (f : FlowFault). CommitsWith (λ now. now) (Some f) c.args.buckets.now c.commit.new.self) (sym c.store_fault.ensures)
    (record {
      commits = λ limits rest now same has. record {
        answer = commit_answers (Unit {0}) limits _ c.in-Err.fault _ same (c.in-Err.ensures.image.sound rest now has);
        needs = commit_fits limits (home_in c.args.buckets.now) _ (home_in c.commit.new.self) now c.in-Err.fault same
            (c.in-Err.ensures.image.needs rest now has);
        done = λ is. absurd (cc (is));
        grown = λ is. absurd (cc (is));
        refused = λ not no. c.in-Err.ensures.ends.same refl (quiet_fault (Unit {0}) c.in-Err.fault no);
        moments = c.commit.ensures.image.any_moment rest now has;
      };
      ends = uncommitted_ends c.args.buckets.now c.commit.new.self c.requires.ready.whole c.commit.ensures.ends.same_disk
          (Unit {0}) _ c.in-Err.fault c.in-Err.ensures.ends.alone c.in-Err.ensures.ends.broken c.in-Err.ensures.ends.cause;
    })

pub returns-in-Ok-clause-reads : goal.returns-in-Ok-clause-reads
returns-in-Ok-clause-reads g c rest now has = commit_reads rest now c.args.buckets.now c.commit.new.self has c.in-Ok.ensures.reads
