-- Files that a run reads before their turn.
use Rattle.std.proofs.Common.{◌≤◌, ℕ, Option, Some, None, refl, arith}
use Rattle.outside.specs.Causes.{Rose}
use Rattle.outside.specs.Inputs.{FilesView}
use Rattle.run_promise.specs.declared.fault.Fault.{Fault}
use Rattle.run_promise.specs.declared.fault.Fault.TheVariants as faults
use Rattle.run_promise.specs.Ahead.{IsReadAhead, MayBeAhead}
use Rattle.run_promise.specs.CommandOf.{CommandOf, Names, points_of, lines_of, init_of, import_of, append_of, export_of, tiles_of, query_of}
use Rattle.run_promise.specs.CommandOf.{feed_of, follow_of, serve_of, replay_of, migrate_of, check_of, demo_of}
use Rattle.run_promise.specs.Leaves.{HasCause}
use Rattle.run_promise.specs.World.{Before, World, with_files}

-- no file was read ahead
pub none_ahead : (may : ℕ → Type 0) (files : FilesView) → IsReadAhead may files files
none_ahead may files = record { others = λ file not. refl; ended = λ file is. is; later = omega arith }

-- of more files it may be so
pub ahead_among : (one other : ℕ → Type 0) (seen now : FilesView) → ((file : ℕ) → one file → other file) → IsReadAhead one seen now
    → IsReadAhead other seen now
ahead_among one other seen now wider ahead = record {
  others = λ file not. ahead.others file (λ may. not (wider file may));
  ended = ahead.ended;
  later = ahead.later;
}

-- only files that the command names are read ahead
pub ahead_named : (command : CommandOf) (fault : Option Fault) (file : ℕ) → MayBeAhead command fault file → Names command file
ahead_named (append_of store files ahead workers) fault file may = (let from = may.from in omega (arith, from), may.to)
ahead_named (points_of key files) fault file may = absurd may
ahead_named (lines_of key files) fault file may = absurd may
ahead_named (init_of store) fault file may = absurd may
ahead_named (import_of store files buckets workers) fault file may = absurd may
ahead_named (feed_of store files full workers) fault file may = absurd may
ahead_named (follow_of store files) fault file may = absurd may
ahead_named (export_of store table) fault file may = absurd may
ahead_named (tiles_of store least clear) fault file may = absurd may
ahead_named (query_of store files) fault file may = absurd may
ahead_named (serve_of store files workers readers) fault file may = absurd may
ahead_named (replay_of store files workers) fault file may = absurd may
ahead_named (migrate_of store) fault file may = absurd may
ahead_named (check_of store) fault file may = absurd may
ahead_named (demo_of count store workers) fault file may = absurd may

rose_later : (before seen now : ℕ) → seen ≤ now → Rose before seen → Rose before now
rose_later before seen now later rose = omega (arith, later, rose)

-- the call that a fault blames has failed, whatever was read ahead
pub cause_ahead : (old : Before) (seen : FilesView) (new : World) (fault : Option Fault) → seen.faults ≤ new.files.faults
    → HasCause old (with_files seen new) fault → HasCause old new fault
cause_ahead old seen new (Some (faults.ReadFault file)) later cause = rose_later old.read_faults seen.faults new.files.faults later cause
cause_ahead old seen new (Some faults.WriteFault) later cause = cause
cause_ahead old seen new (Some faults.DiskFault) later cause = cause
cause_ahead old seen new None later cause = tt
cause_ahead old seen new (Some faults.Usage) later cause = tt
cause_ahead old seen new (Some (faults.Malformed file line why)) later cause = tt
cause_ahead old seen new (Some (faults.BadStyle file why part)) later cause = tt
cause_ahead old seen new (Some (faults.BadBounds file line)) later cause = tt
cause_ahead old seen new (Some (faults.BadQuery file line why)) later cause = tt
cause_ahead old seen new (Some (faults.BadFeed file line why)) later cause = tt
cause_ahead old seen new (Some (faults.Gap file have got)) later cause = tt
cause_ahead old seen new (Some (faults.Limit which value)) later cause = tt
cause_ahead old seen new (Some faults.NotFormatted) later cause = tt
cause_ahead old seen new (Some faults.NotEmpty) later cause = tt
cause_ahead old seen new (Some faults.NotImported) later cause = tt
cause_ahead old seen new (Some faults.AlreadyImported) later cause = tt
cause_ahead old seen new (Some faults.OldFormat) later cause = tt
cause_ahead old seen new (Some faults.Follower) later cause = tt
cause_ahead old seen new (Some faults.UnknownTable) later cause = tt
cause_ahead old seen new (Some (faults.BadStore page)) later cause = tt
cause_ahead old seen new (Some faults.OutOfMemory) later cause = tt
