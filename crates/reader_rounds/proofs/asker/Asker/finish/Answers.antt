use Rattle.std.proofs.Common.{◌≡◌, List, IfOk, length, map, sym, subst}
use Rattle.std.specs.List.{AllByRecursion}
use Rattle.map_query.specs.declared.query.Query.{Query}
use Rattle.table_versions.specs.declared.answers.Answer.{Answer}
use Rattle.reader_rounds.specs.Asking.{begin_of}
use Rattle.reader_rounds.specs.Rounds.{AreServed}
use Rattle.reader_rounds.specs.Settling.{HasLength, answered, all_last_or_given, shut_rounds}
use Rattle.reader_rounds.proofs.RoundLaws.{ok_as, whole_answered}
use Rattle.reader_rounds.proofs.ServedLaws.{begins_all, served_open, served_shut}
use Rattle.reader_rounds.proofs.asker.Asker.finish.Goals as goal

pub settle_rounds-requires : goal.settle_rounds-requires
settle_rounds-requires g c =
    let rounds : List (List Answer) = c.ask_last.new.self.rounds in
    let own = c.ask_last.ensures.answered c.args.style.now (begin_of c.args.told) c.args.rounds c.requires.asked c.in-None.is in
    record {
      whole = subst (λ (asked : List Query). AllByRecursion (HasLength (length asked)) rounds) (sym c.as_slice-queries.ensures.items)
          (whole_answered c.args.style.now (begin_of c.args.told) c.args.told c.args.queries.now c.args.rounds rounds own);
    }

pub returns-in-None : goal.returns-in-None
returns-in-None g c =
    let style = c.args.style.now in
    let tables = c.args.tables.now in
    let last = c.args.told in
    let queries : List Query = c.args.queries.now in
    let rounds : List (List Answer) = c.ask_last.new.self.rounds in
    let own = c.ask_last.ensures.answered style (begin_of last) c.args.rounds c.requires.asked c.in-None.is in
    let served = served_open style (begin_of last) last
    (begins_all last) tables c.args.version c.requires.tables c.requires.version queries c.args.rounds rounds own in
    let last_or_given = subst (λ (asked : List Query).
    IfOk c.settle_rounds.result (λ given. given ≡ map (all_last_or_given style tables c.args.version asked) rounds))
    c.as_slice-queries.ensures.items c.settle_rounds.ensures.last_or_given in
    record {
      served = ok_as c.settle_rounds.result (map (all_last_or_given style tables c.args.version queries) rounds)
          (AreServed style last queries c.args.rounds) last_or_given served;
    }

pub returns-in-Some-Shut : goal.returns-in-Some-Shut
returns-in-Some-Shut g c =
    let style = c.args.style.now in
    let tables = c.args.tables.now in
    let last = c.args.told in
    let queries : List Query = c.args.queries.now in
    let served = served_shut style (begin_of last) last
    (begins_all last) tables c.args.version c.requires.tables c.requires.version queries c.args.rounds in
    let given = subst (λ (asked : List Query).
    IfOk c.all_last.result (λ given. given ≡ shut_rounds c.args.rounds (map (answered style tables c.args.version) asked)))
    c.as_slice-queries.ensures.items c.all_last.ensures.last in
    record {
      served = ok_as c.all_last.result (shut_rounds c.args.rounds (map (answered style tables c.args.version) queries))
          (AreServed style last queries c.args.rounds) given served;
    }
