use Rattle.std.proofs.Common.{◌≤◌, ◌<◌, length, take, arith, refl, rules}
use Rattle.page_journal.proofs.Runs.{elapses_same, follows_same, tells_none, tells_written}
use Rattle.page_journal.proofs.page_run.flush.Goals as goal

pub returns-then-run-eq0-clause-tells : goal.returns-then-run-eq0-clause-tells
returns-then-run-eq0-clause-tells g c = λ content shows.
    let run = c.args.run.now in tells_none run.at run.filled run.bytes content _ c.if-run-eq0.true shows

pub returns-then-run-eq0-clause-writes : goal.returns-then-run-eq0-clause-writes
returns-then-run-eq0-clause-writes g c = record {
  crash = follows_same c.args.run.now.at c.args.run.now.filled (g.D.Disk.view c.args.disk.now).crashes;
  time = elapses_same (g.D.Disk.view c.args.disk.now).crashes;
  reads = search rules;
  cause = search rules;
}

pub returns-clause-tells : goal.returns-clause-tells
returns-clause-tells g c = λ content shows.
    let run = c.args.run.now in
    let some : 0 < run.filled = omega (arith, c.if-run-eq0.false) in
    let inside : run.filled ≤ length run.bytes = omega (arith, c.requires.size, c.requires.inside) in
    tells_written run.at run.filled run.bytes (take run.filled run.bytes) content _
    (g.D.Disk.view c.write_at.new.self) shows some inside refl c.in_ok-write_at.ensures.written
