-- What a change of the rows of ways makes, and the texts of the commands.
use Rattle.std.proofs.Common.{◌≡◌, ℕ, List, [], map, fold, Option, Some, None, Result, Ok, Err, sym, ap, ◌∙◌}
use Rattle.std.specs.FinMap as finite
use Rattle.std.specs.Str.{chars}
use Rattle.osm_base.specs.declared.bounds.limits.LimitNumbers.{LimitNumbers}
use Rattle.osm_base.specs.declared.values.object.Entry.{Entry}
use Rattle.opl_files.specs.declared.fault.FileFault.{FileFault}
use Rattle.opl_files.specs.Entries.{entries_of}
use Rattle.osm_base.specs.map.Objects.{folded_all}
use Rattle.opl_files.specs.Keeps.{kept_all}
use Rattle.opl_files.specs.Reading.{ReadsAll}
use Rattle.tag_rows.specs.TrimmedChange.{TrimmedEntries, trimmed_entry, with_entry}
use Rattle.tag_rows.specs.Lines.{lines_text, lines_text_of}
use Rattle.tag_rows.specs.WayRows.{WaysRead, after_way, no_ways}
use Rattle.tag_rows.proofs.WayLaws.{fold-with_entry, fold-after_way, trimmed-rows}

-- a file that was read into what is kept of it, and then taken
taken-all : (old new : WaysRead) (change : TrimmedEntries) (result : Result (List Entry) FileFault)
    → new ≡ record { key = old.key; objects = folded_all old.objects change.entries }
    → kept_all with_entry (record { key = old.key; entries = [] }) result ≡ Ok change → kept_all after_way old result ≡ Ok new
taken-all old new change (Ok entries) took is =
    let read : fold with_entry (record { key = old.key; entries = [] }) entries ≡ change = cc in
    let kept : map (trimmed_entry old.key) entries ≡ change.entries =
    ap (λ (own : TrimmedEntries). own.entries) (sym (fold-with_entry old.key [] entries) ∙ read) in
    ap Ok (fold-after_way old.key old.objects entries ∙ ap (λ own. record { key = old.key; objects = folded_all old.objects own }) kept
    ∙ sym took)
taken-all old new change (Err fault) took is = absurd (cc)

pub taken-reads : (limits : LimitNumbers) (old new : WaysRead) (change : TrimmedEntries) (left rest : Option (List ℕ))
    → new ≡ record { key = old.key; objects = folded_all old.objects change.entries }
    → ReadsAll with_entry limits (record { key = old.key; entries = [] }) change left rest → ReadsAll after_way limits old new left rest
taken-reads limits old new change None rest took reads = tt
taken-reads limits old new change (Some bytes) None took reads = reads
taken-reads limits old new change (Some bytes) (Some later) took reads =
    (taken-all old new change (entries_of limits bytes) took reads.0, reads.1)

-- the text of what all entries make of the rows of no way
pub ways-are : (key : List ℕ) (entries : List Entry)
    → lines_text (fold after_way (no_ways (chars key)) entries).key (fold after_way (no_ways (chars key)) entries).objects
    ≡ lines_text_of key entries
ways-are key entries = ap (λ (own : WaysRead). lines_text own.key own.objects) (fold-after_way (chars key) finite.empty entries)
    ∙ trimmed-rows (chars key) entries
