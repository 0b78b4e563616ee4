use Rattle.std.proofs.Common.{List, ℕ, refl, subst, sym}
use Rattle.std.specs.Result.{result_err}
use Rattle.updater.specs.declared.words.Command.{Command}
use Rattle.run_promise.specs.CommandOf.{FilesFit, Names, points_of, lines_of, init_of, import_of, append_of, export_of, tiles_of, query_of}
use Rattle.run_promise.specs.CommandOf.{feed_of, follow_of, serve_of, replay_of, migrate_of, check_of, demo_of, no_store, new_store}
use Rattle.updater.specs.Command.{command_view}
use Rattle.run_promise.specs.Courses.{course_of, demo_course, init_course, replay_course}
use Rattle.run_promise.specs.Locality.{IsLocal}
use Rattle.run_promise.specs.Runs.{Runs}
use Rattle.run_promise.specs.Safety.{IsSafe}
use Rattle.run_promise.specs.World.{world}
use Rattle.updater.proofs.Asked.{asked_none}
use Rattle.run_promise.proofs.CommandRuns.{from_unused, runs_ahead, runs_by, spared_same, stays_same}
use Rattle.updater.proofs.LocalLaws.{where_done}
use Rattle.run_promise.proofs.SafeLaws.{runs_safe}
use Rattle.updater.proofs.running.run_command.Goals as goal

pub returns-in-Points : goal.returns-in-Points
returns-in-Points g c =
    let disk = g.D.Disk.view c.args.disk.now in
    let old = world (g.I.Inputs.view c.args.inputs.now) (g.D.Disk.view c.args.disk.now) (g.S.Sink.view c.args.out.now) in
    let new = world (g.I.Inputs.view c.points.new.inputs) (g.D.Disk.view c.args.disk.now) (g.S.Sink.view c.points.new.out) in
    let fault = result_err c.points.result in
    let fits = subst (λ (own : Command). FilesFit (command_view own)) c.in-Points.is c.requires.fits in
    let own = runs_by (points_of c.in-Points.key.now c.in-Points.files)
    (λ (asked : List ℕ). g.I.Inputs.reads c.args.inputs.now asked c.points.new.inputs) fault old new tt c.points.ensures.asked
    (from_unused no_store old new (course_of (points_of c.in-Points.key.now c.in-Points.files)) fault
    (λ e. absurd (cc)) c.points.ensures.course) (λ _. spared_same disk) (λ _ bytes told some. stays_same disk)
    (λ _. stays_same disk) tt tt (λ is. absurd (cc (is))) in
    record {
      runs = subst (λ (own : Command). Runs (command_view own)
          (λ (asked : List ℕ). g.I.Inputs.reads c.args.inputs.now asked c.points.new.inputs) old new fault) (sym c.in-Points.is) own;
      safe = subst (λ (own : Command). IsSafe (command_view own) old new fault) (sym c.in-Points.is)
          (runs_safe (points_of c.in-Points.key.now c.in-Points.files)
          (λ (asked : List ℕ). g.I.Inputs.reads c.args.inputs.now asked c.points.new.inputs) old new fault own);
    }

pub returns-in-Lines : goal.returns-in-Lines
returns-in-Lines g c =
    let disk = g.D.Disk.view c.args.disk.now in
    let old = world (g.I.Inputs.view c.args.inputs.now) (g.D.Disk.view c.args.disk.now) (g.S.Sink.view c.args.out.now) in
    let new = world (g.I.Inputs.view c.lines.new.inputs) (g.D.Disk.view c.args.disk.now) (g.S.Sink.view c.lines.new.out) in
    let fault = result_err c.lines.result in
    let fits = subst (λ (own : Command). FilesFit (command_view own)) c.in-Lines.is c.requires.fits in
    let own = runs_by (lines_of c.in-Lines.key.now c.in-Lines.files)
    (λ (asked : List ℕ). g.I.Inputs.reads c.args.inputs.now asked c.lines.new.inputs) fault old new tt c.lines.ensures.asked
    (from_unused no_store old new (course_of (lines_of c.in-Lines.key.now c.in-Lines.files)) fault
    (λ e. absurd (cc)) c.lines.ensures.course) (λ _. spared_same disk) (λ _ bytes told some. stays_same disk)
    (λ _. stays_same disk) tt tt (λ is. absurd (cc (is))) in
    record {
      runs = subst (λ (own : Command). Runs (command_view own)
          (λ (asked : List ℕ). g.I.Inputs.reads c.args.inputs.now asked c.lines.new.inputs) old new fault) (sym c.in-Lines.is) own;
      safe = subst (λ (own : Command). IsSafe (command_view own) old new fault) (sym c.in-Lines.is)
          (runs_safe (lines_of c.in-Lines.key.now c.in-Lines.files)
          (λ (asked : List ℕ). g.I.Inputs.reads c.args.inputs.now asked c.lines.new.inputs) old new fault own);
    }

pub returns-in-Init : goal.returns-in-Init
returns-in-Init g c =
    let laws = g.met.I.Inputs g.world.𝓛 g.world.𝓜 g.world.𝓡 ((λ s x. x), (λ x. x), (λ x. x), λ x. x) in
    let disk = g.D.Disk.view c.args.disk.now in
    let old = world (g.I.Inputs.view c.args.inputs.now) (g.D.Disk.view c.args.disk.now) (g.S.Sink.view c.args.out.now) in
    let new = world (g.I.Inputs.view c.args.inputs.now) (g.D.Disk.view c.init.new.disk) (g.S.Sink.view c.init.new.out) in
    let fault = result_err c.init.result in
    let fits = subst (λ (own : Command). FilesFit (command_view own)) c.in-Init.is c.requires.fits in
    let own = runs_by (init_of c.in-Init.store.now)
    (λ (asked : List ℕ). g.I.Inputs.reads c.args.inputs.now asked c.args.inputs.now) fault old new tt
    (asked_none g.I.Inputs.reads (Names (init_of c.in-Init.store.now)) c.args.inputs.now (laws.reads_none c.args.inputs.now))
    (from_unused new_store old new init_course fault (λ e. absurd (cc)) c.init.ensures.course) (λ none. absurd (cc))
    (λ _. c.init.ensures.looked) c.init.ensures.no_store tt tt (λ is. absurd (cc (is))) in
    record {
      runs = subst (λ (own : Command). Runs (command_view own)
          (λ (asked : List ℕ). g.I.Inputs.reads c.args.inputs.now asked c.args.inputs.now) old new fault) (sym c.in-Init.is) own;
      safe = subst (λ (own : Command). IsSafe (command_view own) old new fault) (sym c.in-Init.is)
          (runs_safe (init_of c.in-Init.store.now)
          (λ (asked : List ℕ). g.I.Inputs.reads c.args.inputs.now asked c.args.inputs.now) old new fault own);
    }

pub returns-in-Import : goal.returns-in-Import
returns-in-Import g c =
    let disk = g.D.Disk.view c.args.disk.now in
    let old = world (g.I.Inputs.view c.args.inputs.now) (g.D.Disk.view c.args.disk.now) (g.S.Sink.view c.args.out.now) in
    let new = world (g.I.Inputs.view c.import.new.inputs) (g.D.Disk.view c.import.new.disk) (g.S.Sink.view c.import.new.out) in
    let fault = result_err c.import.result in
    let fits = subst (λ (own : Command). FilesFit (command_view own)) c.in-Import.is c.requires.fits in
    let own = runs_by (import_of c.in-Import.store.now c.in-Import.files c.in-Import.buckets c.in-Import.workers)
    (λ (asked : List ℕ). g.I.Inputs.reads c.args.inputs.now asked c.import.new.inputs) fault old new fits.1 c.import.ensures.does.asked
    c.import.ensures.does.goes (λ none. absurd (cc)) (λ not. absurd (not refl)) c.import.ensures.does.unformatted tt tt
    (λ _. c.import.ensures.does.trusted) in
    record {
      runs = subst (λ (own : Command). Runs (command_view own)
          (λ (asked : List ℕ). g.I.Inputs.reads c.args.inputs.now asked c.import.new.inputs) old new fault) (sym c.in-Import.is) own;
      safe = subst (λ (own : Command). IsSafe (command_view own) old new fault) (sym c.in-Import.is)
          (runs_safe (import_of c.in-Import.store.now c.in-Import.files c.in-Import.buckets c.in-Import.workers)
          (λ (asked : List ℕ). g.I.Inputs.reads c.args.inputs.now asked c.import.new.inputs) old new fault own);
    }

pub returns-in-Append : goal.returns-in-Append
returns-in-Append g c =
    let disk = g.D.Disk.view c.args.disk.now in
    let old = world (g.I.Inputs.view c.args.inputs.now) (g.D.Disk.view c.args.disk.now) (g.S.Sink.view c.args.out.now) in
    let new = world (g.I.Inputs.view c.append.new.inputs) (g.D.Disk.view c.append.new.disk) (g.S.Sink.view c.append.new.out) in
    let fault = result_err c.append.result in
    let fits = subst (λ (own : Command). FilesFit (command_view own)) c.in-Append.is c.requires.fits in
    let command = append_of c.in-Append.store.now c.in-Append.files c.in-Append.ahead c.in-Append.workers in
    let does = c.append.ensures.does in
    let own = runs_ahead command (λ (asked : List ℕ). g.I.Inputs.reads c.args.inputs.now asked c.append.new.inputs) fault old new
    does.0 does.1 fits.0.least does.2.asked does.2.goes (λ none. absurd (cc)) (λ not. absurd (not refl)) does.2.unformatted
    (where_done c.append.result (IsLocal c.in-Append.files old new) c.append.ensures.local) tt (λ _. does.2.trusted) in
    record {
      runs = subst (λ (own : Command). Runs (command_view own)
          (λ (asked : List ℕ). g.I.Inputs.reads c.args.inputs.now asked c.append.new.inputs) old new fault) (sym c.in-Append.is) own;
      safe = subst (λ (own : Command). IsSafe (command_view own) old new fault) (sym c.in-Append.is)
          (runs_safe command (λ (asked : List ℕ). g.I.Inputs.reads c.args.inputs.now asked c.append.new.inputs) old new fault own);
    }

pub returns-in-Feed : goal.returns-in-Feed
returns-in-Feed g c =
    let old = world (g.I.Inputs.view c.args.inputs.now) (g.D.Disk.view c.args.disk.now) (g.S.Sink.view c.args.out.now) in
    let new = world (g.I.Inputs.view c.feed.new.inputs) (g.D.Disk.view c.feed.new.disk) (g.S.Sink.view c.feed.new.out) in
    let fault = result_err c.feed.result in
    let fits = subst (λ (own : Command). FilesFit (command_view own)) c.in-Feed.is c.requires.fits in
    let command = feed_of c.in-Feed.store.now c.in-Feed.files c.in-Feed.full c.in-Feed.workers in
    let own = runs_by command (λ (asked : List ℕ). g.I.Inputs.reads c.args.inputs.now asked c.feed.new.inputs) fault old new fits.least
    c.feed.ensures.does.asked c.feed.ensures.does.goes (λ none. absurd (cc)) (λ not. absurd (not refl))
    c.feed.ensures.does.unformatted tt tt (λ _. c.feed.ensures.does.trusted) in
    record {
      runs = subst (λ (own : Command). Runs (command_view own)
          (λ (asked : List ℕ). g.I.Inputs.reads c.args.inputs.now asked c.feed.new.inputs) old new fault) (sym c.in-Feed.is) own;
      safe = subst (λ (own : Command). IsSafe (command_view own) old new fault) (sym c.in-Feed.is)
          (runs_safe command (λ (asked : List ℕ). g.I.Inputs.reads c.args.inputs.now asked c.feed.new.inputs) old new fault own);
    }

pub returns-in-Follow : goal.returns-in-Follow
returns-in-Follow g c =
    let old = world (g.I.Inputs.view c.args.inputs.now) (g.D.Disk.view c.args.disk.now) (g.S.Sink.view c.args.out.now) in
    let new = world (g.I.Inputs.view c.follow.new.inputs) (g.D.Disk.view c.follow.new.disk) (g.S.Sink.view c.follow.new.out) in
    let fault = result_err c.follow.result in
    let fits = subst (λ (own : Command). FilesFit (command_view own)) c.in-Follow.is c.requires.fits in
    let command = follow_of c.in-Follow.store.now c.in-Follow.files in
    let own = runs_by command (λ (asked : List ℕ). g.I.Inputs.reads c.args.inputs.now asked c.follow.new.inputs) fault old new fits.least
    c.follow.ensures.does.asked c.follow.ensures.does.goes (λ none. absurd (cc)) (λ not. absurd (not refl))
    c.follow.ensures.does.unformatted tt tt (λ _. c.follow.ensures.does.trusted) in
    record {
      runs = subst (λ (own : Command). Runs (command_view own)
          (λ (asked : List ℕ). g.I.Inputs.reads c.args.inputs.now asked c.follow.new.inputs) old new fault) (sym c.in-Follow.is) own;
      safe = subst (λ (own : Command). IsSafe (command_view own) old new fault) (sym c.in-Follow.is)
          (runs_safe command (λ (asked : List ℕ). g.I.Inputs.reads c.args.inputs.now asked c.follow.new.inputs) old new fault own);
    }

pub returns-in-Export : goal.returns-in-Export
returns-in-Export g c =
    let laws = g.met.I.Inputs g.world.𝓛 g.world.𝓜 g.world.𝓡 ((λ s x. x), (λ x. x), (λ x. x), λ x. x) in
    let disk = g.D.Disk.view c.args.disk.now in
    let old = world (g.I.Inputs.view c.args.inputs.now) (g.D.Disk.view c.args.disk.now) (g.S.Sink.view c.args.out.now) in
    let new = world (g.I.Inputs.view c.args.inputs.now) (g.D.Disk.view c.export.new.disk) (g.S.Sink.view c.export.new.out) in
    let fault = result_err c.export.result in
    let fits = subst (λ (own : Command). FilesFit (command_view own)) c.in-Export.is c.requires.fits in
    let own = runs_by (export_of c.in-Export.store.now c.in-Export.table.now)
    (λ (asked : List ℕ). g.I.Inputs.reads c.args.inputs.now asked c.args.inputs.now) fault old new tt
    (asked_none g.I.Inputs.reads (Names (export_of c.in-Export.store.now c.in-Export.table.now)) c.args.inputs.now
    (laws.reads_none c.args.inputs.now)) c.export.ensures.does.goes (λ none. absurd (cc))
    (λ not. absurd (not refl)) c.export.ensures.does.unformatted tt tt (λ _. c.export.ensures.does.trusted) in
    record {
      runs = subst (λ (own : Command). Runs (command_view own)
          (λ (asked : List ℕ). g.I.Inputs.reads c.args.inputs.now asked c.args.inputs.now) old new fault) (sym c.in-Export.is) own;
      safe = subst (λ (own : Command). IsSafe (command_view own) old new fault) (sym c.in-Export.is)
          (runs_safe (export_of c.in-Export.store.now c.in-Export.table.now)
          (λ (asked : List ℕ). g.I.Inputs.reads c.args.inputs.now asked c.args.inputs.now) old new fault own);
    }

pub returns-in-Tiles : goal.returns-in-Tiles
returns-in-Tiles g c =
    let laws = g.met.I.Inputs g.world.𝓛 g.world.𝓜 g.world.𝓡 ((λ s x. x), (λ x. x), (λ x. x), λ x. x) in
    let disk = g.D.Disk.view c.args.disk.now in
    let old = world (g.I.Inputs.view c.args.inputs.now) (g.D.Disk.view c.args.disk.now) (g.S.Sink.view c.args.out.now) in
    let new = world (g.I.Inputs.view c.args.inputs.now) (g.D.Disk.view c.tiles.new.disk) (g.S.Sink.view c.tiles.new.out) in
    let fault = result_err c.tiles.result in
    let fits = subst (λ (own : Command). FilesFit (command_view own)) c.in-Tiles.is c.requires.fits in
    let own = runs_by (tiles_of c.in-Tiles.store.now c.in-Tiles.least c.in-Tiles.clear)
    (λ (asked : List ℕ). g.I.Inputs.reads c.args.inputs.now asked c.args.inputs.now) fault old new tt
    (asked_none g.I.Inputs.reads (Names (tiles_of c.in-Tiles.store.now c.in-Tiles.least c.in-Tiles.clear)) c.args.inputs.now
    (laws.reads_none c.args.inputs.now)) c.tiles.ensures.does.goes (λ none. absurd (cc))
    (λ not. absurd (not refl)) c.tiles.ensures.does.unformatted tt tt (λ _. c.tiles.ensures.does.trusted) in
    record {
      runs = subst (λ (own : Command). Runs (command_view own)
          (λ (asked : List ℕ). g.I.Inputs.reads c.args.inputs.now asked c.args.inputs.now) old new fault) (sym c.in-Tiles.is) own;
      safe = subst (λ (own : Command). IsSafe (command_view own) old new fault) (sym c.in-Tiles.is)
          (runs_safe (tiles_of c.in-Tiles.store.now c.in-Tiles.least c.in-Tiles.clear)
          (λ (asked : List ℕ). g.I.Inputs.reads c.args.inputs.now asked c.args.inputs.now) old new fault own);
    }

pub returns-in-Replay : goal.returns-in-Replay
returns-in-Replay g c =
    let old = world (g.I.Inputs.view c.args.inputs.now) (g.D.Disk.view c.args.disk.now) (g.S.Sink.view c.args.out.now) in
    let new = world (g.I.Inputs.view c.replay.new.inputs) (g.D.Disk.view c.replay.new.disk) (g.S.Sink.view c.replay.new.out) in
    let fault = result_err c.replay.result in
    let fits = subst (λ (own : Command). FilesFit (command_view own)) c.in-Replay.is c.requires.fits in
    let command = replay_of c.in-Replay.store.now c.in-Replay.files c.in-Replay.workers in
    let own = runs_by command (λ (asked : List ℕ). g.I.Inputs.reads c.args.inputs.now asked c.replay.new.inputs) fault old new fits.least
    c.replay.ensures.asked (from_unused new_store old new (replay_course c.in-Replay.files) fault
    (λ e. absurd (cc)) c.replay.ensures.course) (λ none. absurd (cc)) (λ _. c.replay.ensures.makes.looked)
    (λ is. absurd (c.replay.ensures.makes.formatted is)) tt tt (λ is. absurd (cc (is))) in
    record {
      runs = subst (λ (own : Command). Runs (command_view own)
          (λ (asked : List ℕ). g.I.Inputs.reads c.args.inputs.now asked c.replay.new.inputs) old new fault) (sym c.in-Replay.is) own;
      safe = subst (λ (own : Command). IsSafe (command_view own) old new fault) (sym c.in-Replay.is)
          (runs_safe command (λ (asked : List ℕ). g.I.Inputs.reads c.args.inputs.now asked c.replay.new.inputs) old new fault own);
    }

pub returns-in-Query : goal.returns-in-Query
returns-in-Query g c =
    let old = world (g.I.Inputs.view c.args.inputs.now) (g.D.Disk.view c.args.disk.now) (g.S.Sink.view c.args.out.now) in
    let new = world (g.I.Inputs.view c.query.new.inputs) (g.D.Disk.view c.query.new.disk) (g.S.Sink.view c.query.new.out) in
    let fault = result_err c.query.result in
    let fits = subst (λ (own : Command). FilesFit (command_view own)) c.in-Query.is c.requires.fits in
    let command = query_of c.in-Query.store.now c.in-Query.files in
    let own = runs_by command (λ (asked : List ℕ). g.I.Inputs.reads c.args.inputs.now asked c.query.new.inputs) fault old new fits.1
    c.query.ensures.does.asked c.query.ensures.does.goes (λ none. absurd (cc)) (λ not. absurd (not refl))
    c.query.ensures.does.unformatted tt tt (λ _. c.query.ensures.does.trusted) in
    record {
      runs = subst (λ (own : Command). Runs (command_view own)
          (λ (asked : List ℕ). g.I.Inputs.reads c.args.inputs.now asked c.query.new.inputs) old new fault) (sym c.in-Query.is) own;
      safe = subst (λ (own : Command). IsSafe (command_view own) old new fault) (sym c.in-Query.is)
          (runs_safe command (λ (asked : List ℕ). g.I.Inputs.reads c.args.inputs.now asked c.query.new.inputs) old new fault own);
    }

pub returns-in-Serve : goal.returns-in-Serve
returns-in-Serve g c =
    let old = world (g.I.Inputs.view c.args.inputs.now) (g.D.Disk.view c.args.disk.now) (g.S.Sink.view c.args.out.now) in
    let new = world (g.I.Inputs.view c.serve.new.inputs) (g.D.Disk.view c.serve.new.disk) (g.S.Sink.view c.serve.new.out) in
    let fault = result_err c.serve.result in
    let fits = subst (λ (own : Command). FilesFit (command_view own)) c.in-Serve.is c.requires.fits in
    let command = serve_of c.in-Serve.store.now c.in-Serve.files c.in-Serve.workers c.in-Serve.readers in
    let own = runs_by command (λ (asked : List ℕ). g.I.Inputs.reads c.args.inputs.now asked c.serve.new.inputs) fault old new fits.0.least
    c.serve.ensures.does.asked c.serve.ensures.does.goes (λ none. absurd (cc)) (λ not. absurd (not refl))
    c.serve.ensures.does.unformatted tt tt (λ _. c.serve.ensures.does.trusted) in
    record {
      runs = subst (λ (own : Command). Runs (command_view own)
          (λ (asked : List ℕ). g.I.Inputs.reads c.args.inputs.now asked c.serve.new.inputs) old new fault) (sym c.in-Serve.is) own;
      safe = subst (λ (own : Command). IsSafe (command_view own) old new fault) (sym c.in-Serve.is)
          (runs_safe command (λ (asked : List ℕ). g.I.Inputs.reads c.args.inputs.now asked c.serve.new.inputs) old new fault own);
    }

pub returns-in-Migrate : goal.returns-in-Migrate
returns-in-Migrate g c =
    let laws = g.met.I.Inputs g.world.𝓛 g.world.𝓜 g.world.𝓡 ((λ s x. x), (λ x. x), (λ x. x), λ x. x) in
    let disk = g.D.Disk.view c.args.disk.now in
    let old = world (g.I.Inputs.view c.args.inputs.now) (g.D.Disk.view c.args.disk.now) (g.S.Sink.view c.args.out.now) in
    let new = world (g.I.Inputs.view c.args.inputs.now) (g.D.Disk.view c.migrate.new.disk) (g.S.Sink.view c.migrate.new.out) in
    let fault = result_err c.migrate.result in
    let fits = subst (λ (own : Command). FilesFit (command_view own)) c.in-Migrate.is c.requires.fits in
    let own = runs_by (migrate_of c.in-Migrate.store.now)
    (λ (asked : List ℕ). g.I.Inputs.reads c.args.inputs.now asked c.args.inputs.now) fault old new tt
    (asked_none g.I.Inputs.reads (Names (migrate_of c.in-Migrate.store.now)) c.args.inputs.now (laws.reads_none c.args.inputs.now))
    c.migrate.ensures.does.goes (λ none. absurd (cc)) (λ not. absurd (not refl)) c.migrate.ensures.does.unformatted tt tt
    (λ _. c.migrate.ensures.does.trusted) in
    record {
      runs = subst (λ (own : Command). Runs (command_view own)
          (λ (asked : List ℕ). g.I.Inputs.reads c.args.inputs.now asked c.args.inputs.now) old new fault) (sym c.in-Migrate.is) own;
      safe = subst (λ (own : Command). IsSafe (command_view own) old new fault) (sym c.in-Migrate.is)
          (runs_safe (migrate_of c.in-Migrate.store.now)
          (λ (asked : List ℕ). g.I.Inputs.reads c.args.inputs.now asked c.args.inputs.now) old new fault own);
    }

pub returns-in-Check : goal.returns-in-Check
returns-in-Check g c =
    let laws = g.met.I.Inputs g.world.𝓛 g.world.𝓜 g.world.𝓡 ((λ s x. x), (λ x. x), (λ x. x), λ x. x) in
    let disk = g.D.Disk.view c.args.disk.now in
    let old = world (g.I.Inputs.view c.args.inputs.now) (g.D.Disk.view c.args.disk.now) (g.S.Sink.view c.args.out.now) in
    let new = world (g.I.Inputs.view c.args.inputs.now) (g.D.Disk.view c.check.new.disk) (g.S.Sink.view c.check.new.out) in
    let fault = result_err c.check.result in
    let fits = subst (λ (own : Command). FilesFit (command_view own)) c.in-Check.is c.requires.fits in
    let own = runs_by (check_of c.in-Check.store.now)
    (λ (asked : List ℕ). g.I.Inputs.reads c.args.inputs.now asked c.args.inputs.now) fault old new tt
    (asked_none g.I.Inputs.reads (Names (check_of c.in-Check.store.now)) c.args.inputs.now (laws.reads_none c.args.inputs.now))
    c.check.ensures.does.goes (λ none. absurd (cc)) (λ not. absurd (not refl)) c.check.ensures.does.unformatted tt
    c.check.ensures.checked (λ _. c.check.ensures.does.trusted) in
    record {
      runs = subst (λ (own : Command). Runs (command_view own)
          (λ (asked : List ℕ). g.I.Inputs.reads c.args.inputs.now asked c.args.inputs.now) old new fault) (sym c.in-Check.is) own;
      safe = subst (λ (own : Command). IsSafe (command_view own) old new fault) (sym c.in-Check.is)
          (runs_safe (check_of c.in-Check.store.now)
          (λ (asked : List ℕ). g.I.Inputs.reads c.args.inputs.now asked c.args.inputs.now) old new fault own);
    }

pub returns-in-Demo : goal.returns-in-Demo
returns-in-Demo g c =
    let laws = g.met.I.Inputs g.world.𝓛 g.world.𝓜 g.world.𝓡 ((λ s x. x), (λ x. x), (λ x. x), λ x. x) in
    let old = world (g.I.Inputs.view c.args.inputs.now) (g.D.Disk.view c.args.disk.now) (g.S.Sink.view c.args.out.now) in
    let new = world (g.I.Inputs.view c.args.inputs.now) (g.D.Disk.view c.demo.new.disk) (g.S.Sink.view c.demo.new.out) in
    let fault = result_err c.demo.result in
    let command = demo_of c.in-Demo.squares.count c.in-Demo.store.now c.in-Demo.workers in
    let own = runs_by command (λ (asked : List ℕ). g.I.Inputs.reads c.args.inputs.now asked c.args.inputs.now) fault old new tt
    (asked_none g.I.Inputs.reads (Names command) c.args.inputs.now (laws.reads_none c.args.inputs.now))
    (from_unused new_store old new (demo_course c.in-Demo.squares.count) fault (λ e. absurd (cc)) c.demo.ensures.course) (λ none. absurd (cc))
    (λ _. c.demo.ensures.makes.looked) (λ is. absurd (c.demo.ensures.makes.formatted is)) tt tt (λ is. absurd (cc (is))) in
    record {
      runs = subst (λ (own : Command). Runs (command_view own)
          (λ (asked : List ℕ). g.I.Inputs.reads c.args.inputs.now asked c.args.inputs.now) old new fault) (sym c.in-Demo.is) own;
      safe = subst (λ (own : Command). IsSafe (command_view own) old new fault) (sym c.in-Demo.is)
          (runs_safe command (λ (asked : List ℕ). g.I.Inputs.reads c.args.inputs.now asked c.args.inputs.now) old new fault own);
    }
