use Rattle.std.proofs.Common.{rules, ◌≡◌, ◌∷◌, ◌++◌, [], sym, List}
use Rattle.osm_base.specs.declared.values.object.Entry.{Entry}
use Rattle.opl_files.proofs.PartLaws.{last_key-last}
use Rattle.opl_files.proofs.parts.last_behind.Goals as goal

pub returns-in-Some : goal.returns-in-Some
returns-in-Some c =
    let front : List Entry = c.in-Some._front.now in
    let cut : c.args.part.now.change ≡ front ++ c.in-Some.entry.now ∷ [] = search rules in
    record { last = rw cut (sym (last_key-last c.args.passed.now.last front c.in-Some.entry.now)) }
