use Rattle.std.proofs.Common.{None, [], ◌∷◌, ◌++◌, ◌+◌, ◌∙◌, ap, sym, subst, arith}
use Rattle.std.proofs.lemmas.List.{append-nil}
use Rattle.osm_base.specs.declared.values.object.Entry.{Entry}
use Rattle.osm_base.specs.values.KeyOrder.{is_below}
use Rattle.object_fold.specs.Change.{Follows, IsProper, last_key}
use Rattle.demo_map.specs.Parts.{first_of}
use Rattle.demo_map.proofs.KeyOrders.{first_is, passes_over, proper, rises}
use Rattle.demo_map.proofs.PartLists.{none_of, one_of}
use Rattle.demo_map.proofs.parts.keep_of.Goals as goal

pub returns-then-not-takes_square-clause-ok : goal.returns-then-not-takes_square-clause-ok
returns-then-not-takes_square-clause-ok c =
    rw (none_of c.args.part c.args.squares.count c.args.square (sym c.if-not-takes_square.ensures.takes), append-nil)

pub returns-then-not-takes_square-clause-next : goal.returns-then-not-takes_square-clause-next
returns-then-not-takes_square-clause-next c =
    passes_over c.args.part c.args.square (last_key None c.args.change.now) (sym c.if-not-takes_square.ensures.takes) c.requires.follows

pub keep-requires-clause-takes : goal.keep-requires-clause-takes
keep-requires-clause-takes c =
    subst (λ key. Follows (last_key None c.args.change.now) key)
    (sym (ap (λ (own : Entry). own.key) c.in_ok-entry.ensures.entry
    ∙ first_is c.args.part c.args.squares.count c.args.square (sym c.if-not-takes_square.ensures.takes))) c.requires.follows

pub keep-requires-clause-proper : goal.keep-requires-clause-proper
keep-requires-clause-proper c =
    subst IsProper (sym c.in_ok-entry.ensures.entry) (proper c.args.part c.args.squares.count c.args.square (omega arith))

pub returns-clause-ok : goal.returns-clause-ok
returns-clause-ok c =
    c.in_ok-keep.ensures.ok ∙ ap (λ own. c.args.change.now ++ own ∷ []) c.in_ok-entry.ensures.entry
    ∙ ap (λ list. c.args.change.now ++ list)
    (sym (one_of c.args.part c.args.squares.count c.args.square (sym c.if-not-takes_square.ensures.takes)))

pub returns-clause-next : goal.returns-clause-next
returns-clause-next c =
    c.in_ok-keep.ensures.rises (first_of c.args.part (c.args.square + 1))
    (ap (λ (own : Entry). is_below own.key (first_of c.args.part (c.args.square + 1))) c.in_ok-entry.ensures.entry
    ∙ rises c.args.part c.args.squares.count c.args.square (sym c.if-not-takes_square.ensures.takes))
