use Rattle.value_bytes.specs.Tags.{tag_bytes, IsTag}
use Rattle.value_bytes.proofs.ListLaws.{HasRead}
use Rattle.value_bytes.proofs.tags.front_list.Given as goal

-- so far so many tags were read
abbrev pub invariant-loop : goal.invariant-loop
invariant-loop l = HasRead tag_bytes IsTag l.count l.bytes l.counter l.list l.rest
