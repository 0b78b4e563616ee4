-- What reading the files of a command comes to.
use Rattle.std.proofs.Common.{◌≡◌, ◌≤◌, ◌<◌, ◌+◌, ℕ, Option, Some, None, List, [], length, Ok, Err, refl, sym, ◌∙◌, ap, subst, arith}
use Rattle.std.proofs.Common.{map as each}
use Rattle.osm_base.specs.bounds.Limits.{standard}
use Rattle.osm_base.specs.declared.bounds.limits.LimitKind.TheVariants.{FileEntries, StyleBytes, BoundsBytes, QueryBytes}
use Rattle.osm_base.specs.declared.bounds.limits.TheConstants.{MAX_ENTRIES}
use Rattle.osm_base.specs.declared.values.object.Entry.{Entry}
use Rattle.map_query.specs.Line.{query_of}
use Rattle.map_query.specs.Reading.{HasItsCause}
use Rattle.map_query.specs.declared.fault.QueryFault.{QueryFault}
use Rattle.map_query.specs.declared.fault.QueryFault.TheVariants as queries
use Rattle.map_query.specs.declared.query.Query.{Query}
use Rattle.opl_lines.specs.Lines.{lines_of}
use Rattle.outside.specs.Bytes.{IfTold}
use Rattle.outside.specs.Causes.{Rose}
use Rattle.outside.specs.Inputs.{FilesView}
use Rattle.opl_files.specs.Entries.{IsAccepted, entries_of}
use Rattle.opl_files.specs.Reading.{HasEntries, IsFaultOf}
use Rattle.outside.specs.Reads.{IsReadAlone}
use Rattle.opl_files.specs.Stops.{Stops}
use Rattle.opl_files.specs.Whole.{IsOver, IsWhole, StopsWhole}
use Rattle.opl_files.specs.declared.fault.FileFault.{FileFault}
use Rattle.opl_files.specs.declared.fault.FileFault.TheVariants as file_faults
use Rattle.opl_files.specs.declared.whole.WholeFault.{WholeFault}
use Rattle.opl_files.specs.declared.whole.WholeFault.TheVariants as wholes
use Rattle.style_read.specs.Reading.{Gives, reading}
use Rattle.style_read.specs.Style.{StyleOf}
use Rattle.style_read.specs.declared.fault.StyleFault.{StyleFault}
use Rattle.style_read.specs.declared.fault.StyleFault.TheVariants as styles
use Rattle.tile_cover.specs.Boundaries.{HasItsLine, IsTableOf, lats_of}
use Rattle.tile_cover.specs.Table.{BoundsOf}
use Rattle.tile_cover.specs.declared.fault.BoundsFault.{BoundsFault}
use Rattle.tile_cover.specs.declared.fault.BoundsFault.TheVariants as bounds
use Rattle.run_promise.specs.declared.fault.Fault.TheVariants as faults
use Rattle.run_promise.specs.declared.files.TheConstants.{MAX_WHOLE}
use Rattle.updater.specs.FileReads.{IsRead, IsUnread}
use Rattle.run_promise.specs.Files.{IsBounds, IsChange, IsQueries, IsStyle, bounds_fault, change_in, fault_in, of_file, query_fault}
use Rattle.run_promise.specs.Files.{style_fault, whole_fault}

-- a fault of the bytes of a file, as that of a run
of_told : (file : ℕ) (fault : FileFault) (told : Option (List ℕ)) → IsFaultOf standard told fault
    → IfTold told (λ bytes. change_in file bytes ≡ Err (fault_in file fault))
of_told file fault None h bytes is = absurd (cc)
of_told file fault (Some known) h bytes is =
    let same : known ≡ bytes = cc in
    ap (of_file file) (subst (λ (own : List ℕ). entries_of standard own ≡ Err fault) same h)

-- a file of changes is read
has_change : (file : ℕ) (entries : List Entry) (left rest : Option (List ℕ)) → HasEntries standard entries left rest
    → IfTold left (λ bytes. IsChange file bytes (Ok entries)) × IfTold left (λ _. rest ≡ Some [])
has_change file entries None rest h = (λ bytes is. absurd (cc), λ bytes is. absurd (cc))
has_change file entries (Some known) None h = absurd h
has_change file entries (Some known) (Some later) h = (
  λ bytes is. let same : known ≡ bytes = cc in
      subst (λ (own : List ℕ). IsChange file own (Ok entries)) same (ap (of_file file) h.0),
  λ bytes is. ap Some h.1,
)

pub change_read : (file : ℕ) (entries : List Entry) (old new : FilesView) → HasEntries standard entries (old.left file) (new.left file)
    → IsReadAlone file old new → IsRead (IsChange file) file entries old new
change_read file entries old new h alone = let own = has_change file entries (old.left file) (new.left file) h in
    record { accepted = own.0; at_end = own.1; alone = alone }

-- or it is not
pub change_unread : (file : ℕ) (fault : FileFault) (old new : FilesView)
    → Stops (IsFaultOf standard (old.left file)) (Rose old.faults new.faults) fault → IsReadAlone file old new
    → IsUnread (IsChange file) file (fault_in file fault) old new
change_unread file (file_faults.Malformed line why) old new stops alone =
    record { why = (refl, of_told file (file_faults.Malformed line why) (old.left file) stops); alone = alone }
change_unread file (file_faults.Limit which value) old new stops alone =
    record { why = (tt, of_told file (file_faults.Limit which value) (old.left file) stops); alone = alone }
change_unread file file_faults.ReadFault old new stops alone = record { why = (refl, stops); alone = alone }
change_unread file file_faults.OutOfMemory old new stops alone = record { why = tt; alone = alone }

-- no file that is told has too many entries
pub too_many : (file : ℕ) (entries : List Entry) (old new : FilesView) → IfTold (old.left file) (λ bytes. IsAccepted standard bytes entries)
    → MAX_ENTRIES < length entries → IsReadAlone file old new
    → IsUnread (IsChange file) file (faults.Limit FileEntries (MAX_ENTRIES + 1)) old new
too_many file entries old new accepted many alone =
    record { why = (tt, λ bytes told. absurd (let few = (accepted bytes told).counted in omega (arith, few, many))); alone = alone }

-- a file that is read whole
whole_is : (bytes : List ℕ) (left rest : Option (List ℕ)) → IsWhole bytes left rest
    → IfTold left (λ own. own ≡ bytes) × IfTold left (λ _. rest ≡ Some [])
whole_is bytes None rest h = (λ own is. absurd (cc), λ own is. absurd (cc))
whole_is bytes (Some known) None h = absurd h
whole_is bytes (Some known) (Some later) h = (λ own is. (let same : known ≡ own = cc in sym same ∙ h.0), λ own is. ap Some h.1)

over_is : (max : ℕ) (left : Option (List ℕ)) → IsOver max 0 left → IfTold left (λ own. max < length own)
over_is max None h own is = absurd (cc)
over_is max (Some known) h own is = let same : known ≡ own = cc in subst (λ (bytes : List ℕ). max < length bytes) same (omega (arith, h))

pub style_read : (file : ℕ) (bytes : List ℕ) (style : StyleOf) (old new : FilesView) → IsWhole bytes (old.left file) (new.left file)
    → length bytes ≤ MAX_WHOLE → reading bytes ≡ Ok style → IsReadAlone file old new
    → IsRead (IsStyle file) file (style, bytes) old new
style_read file bytes style old new whole short is alone =
    let own = whole_is bytes (old.left file) (new.left file) whole in
    record {
      accepted = λ other told. subst (λ (own : List ℕ). IsStyle file own (Ok (style, bytes))) (sym (own.0 other told)) (short, refl, is);
      at_end = own.1;
      alone = alone;
    }

pub style_unread : (file : ℕ) (bytes : List ℕ) (fault : StyleFault) (old new : FilesView) → IsWhole bytes (old.left file) (new.left file)
    → length bytes ≤ MAX_WHOLE → Gives (Err fault) (reading bytes) → IsReadAlone file old new
    → IsUnread (IsStyle file) file (style_fault file fault) old new
style_unread file bytes (styles.Bad why part) old new whole short is alone =
    let own = whole_is bytes (old.left file) (new.left file) whole in
    record {
      why = (
        refl,
        λ other told. subst (λ (own : List ℕ). IsStyle file own (Err (faults.BadStyle file why part)))
            (sym (own.0 other told)) (short, refl, is),
      );
      alone = alone;
    }
style_unread file bytes styles.OutOfMemory old new whole short is alone = record { why = tt; alone = alone }

pub bounds_read : (file : ℕ) (bytes : List ℕ) (table : BoundsOf) (old new : FilesView) → IsWhole bytes (old.left file) (new.left file)
    → length bytes ≤ MAX_WHOLE → IsTableOf (lines_of bytes) table.zoom
    → table.lats ≡ lats_of (lines_of bytes) → IsReadAlone file old new → IsRead (IsBounds file) file table old new
bounds_read file bytes table old new whole short is lats alone =
    let own = whole_is bytes (old.left file) (new.left file) whole in
    record {
      accepted = λ other told. subst (λ (own : List ℕ). IsBounds file own (Ok table)) (sym (own.0 other told)) (short, is, lats);
      at_end = own.1;
      alone = alone;
    }

pub bounds_unread : (file : ℕ) (bytes : List ℕ) (fault : BoundsFault) (old new : FilesView) → IsWhole bytes (old.left file) (new.left file)
    → length bytes ≤ MAX_WHOLE → HasItsLine (lines_of bytes) fault → IsReadAlone file old new
    → IsUnread (IsBounds file) file (bounds_fault file fault) old new
bounds_unread file bytes (bounds.Bad line) old new whole short is alone =
    let own = whole_is bytes (old.left file) (new.left file) whole in
    record {
      why = (
        refl,
        λ other told. subst (λ (own : List ℕ). IsBounds file own (Err (faults.BadBounds file line)))
            (sym (own.0 other told)) (short, refl, is),
      );
      alone = alone;
    }
bounds_unread file bytes bounds.OutOfMemory old new whole short is alone = record { why = tt; alone = alone }

pub queries_read : (style : StyleOf) (file : ℕ) (bytes : List ℕ) (found : List Query) (old new : FilesView)
    → IsWhole bytes (old.left file) (new.left file) → length bytes ≤ MAX_WHOLE
    → each Ok found ≡ each (query_of style) (lines_of bytes) → IsReadAlone file old new → IsRead (IsQueries style file) file found old new
queries_read style file bytes found old new whole short is alone =
    let own = whole_is bytes (old.left file) (new.left file) whole in
    record {
      accepted = λ other told. subst (λ (own : List ℕ). IsQueries style file own (Ok found)) (sym (own.0 other told)) (short, is);
      at_end = own.1;
      alone = alone;
    }

pub queries_unread : (style : StyleOf) (file : ℕ) (bytes : List ℕ) (fault : QueryFault) (old new : FilesView)
    → IsWhole bytes (old.left file) (new.left file) → length bytes ≤ MAX_WHOLE → HasItsCause style (lines_of bytes) fault
    → IsReadAlone file old new → IsUnread (IsQueries style file) file (query_fault file fault) old new
queries_unread style file bytes (queries.Bad line why) old new whole short is alone =
    let own = whole_is bytes (old.left file) (new.left file) whole in
    record {
      why = (
        refl,
        λ other told. subst (λ (own : List ℕ). IsQueries style file own (Err (faults.BadQuery file line why)))
            (sym (own.0 other told)) (short, refl, is),
      );
      alone = alone;
    }
queries_unread style file bytes queries.OutOfMemory old new whole short is alone = record { why = tt; alone = alone }

-- a file that is not read whole
pub style_unwhole : (file : ℕ) (fault : WholeFault) (old new : FilesView)
    → StopsWhole (IsOver MAX_WHOLE 0 (old.left file)) (Rose old.faults new.faults) fault → IsReadAlone file old new
    → IsUnread (IsStyle file) file (whole_fault file StyleBytes fault) old new
style_unwhole file wholes.TooLong old new stops alone =
    record { why = (tt, λ own told. (over_is MAX_WHOLE (old.left file) stops own told, refl)); alone = alone }
style_unwhole file wholes.ReadFault old new stops alone = record { why = (refl, stops); alone = alone }
style_unwhole file wholes.OutOfMemory old new stops alone = record { why = tt; alone = alone }

pub bounds_unwhole : (file : ℕ) (fault : WholeFault) (old new : FilesView)
    → StopsWhole (IsOver MAX_WHOLE 0 (old.left file)) (Rose old.faults new.faults) fault → IsReadAlone file old new
    → IsUnread (IsBounds file) file (whole_fault file BoundsBytes fault) old new
bounds_unwhole file wholes.TooLong old new stops alone =
    record { why = (tt, λ own told. (over_is MAX_WHOLE (old.left file) stops own told, refl)); alone = alone }
bounds_unwhole file wholes.ReadFault old new stops alone = record { why = (refl, stops); alone = alone }
bounds_unwhole file wholes.OutOfMemory old new stops alone = record { why = tt; alone = alone }

pub queries_unwhole : (style : StyleOf) (file : ℕ) (fault : WholeFault) (old new : FilesView)
    → StopsWhole (IsOver MAX_WHOLE 0 (old.left file)) (Rose old.faults new.faults) fault → IsReadAlone file old new
    → IsUnread (IsQueries style file) file (whole_fault file QueryBytes fault) old new
queries_unwhole style file wholes.TooLong old new stops alone =
    record { why = (tt, λ own told. (over_is MAX_WHOLE (old.left file) stops own told, refl)); alone = alone }
queries_unwhole style file wholes.ReadFault old new stops alone = record { why = (refl, stops); alone = alone }
queries_unwhole style file wholes.OutOfMemory old new stops alone = record { why = tt; alone = alone }
