-- A text whose pages were told has marks on them.
use Rattle.std.proofs.Common.{Err, Ok, ap, arith, inr}
use Rattle.page_journal.specs.Journal.{is_broken}
use Rattle.store_check.proofs.Steps.{loads_none, loads_one, text_lists}
use Rattle.store_check.proofs.surveying.load_text.Goals as goal

pub returns-in-Ok : goal.returns-in-Ok
returns-in-Ok g c = record {
  loads = loads_one c.args.n c.in-Ok.pages c.args.buckets.now c.pages_of.new.self
      c.begin.new.self c.args.marks.now c.mark.new.self
      (inr (omega (arith, c.requires.text)))
      c.requires.fresh.begun
      (text_lists c.args.n c.args.buckets.now c.pages_of.new.self (Ok c.in-Ok.pages) c.requires.text c.in-Ok.ensures.lists c.in-Ok.ensures.touches)
      (record {
        begun = c.begin.ensures.begun;
        opens = c.begin.ensures.open;
        kept = c.begin.ensures.kept;
        going = c.begin.ensures.going;
        same = c.begin.ensures.same;
        whole = ap (λ j. is_broken j) c.begin.ensures.journal;
      })
      c.mark.ensures.many c.mark.ensures.marked;
}

pub returns-in-Err : goal.returns-in-Err
returns-in-Err g c = record {
  loads = loads_none c.args.n c.args.buckets.now c.pages_of.new.self c.args.marks.now c.args.marks.now c.in-Err.fault
      (text_lists c.args.n c.args.buckets.now c.pages_of.new.self (Err c.in-Err.fault) c.requires.text c.in-Err.ensures.lists
      c.in-Err.ensures.touches);
}
