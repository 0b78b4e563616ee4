-- The free pages that were told have marks.
use Rattle.std.proofs.Common.{Err, Ok, ap, inl, refl}
use Rattle.page_journal.specs.Journal.{is_broken}
use Rattle.chain_store.specs.declared.layout.TheConstants.{FREE}
use Rattle.store_check.proofs.Steps.{free_lists, loads_none, loads_one}
use Rattle.store_check.proofs.surveying.load_free.Goals as goal

pub returns-in-Ok : goal.returns-in-Ok
returns-in-Ok g c = record {
  loads = loads_one FREE c.in-Ok.pages c.args.buckets.now c.free_pages.new.self
      c.begin.new.self c.args.marks.now c.mark.new.self
      (inl refl)
      c.requires.fresh.begun
      (free_lists c.args.buckets.now c.free_pages.new.self (Ok c.in-Ok.pages) c.in-Ok.ensures.lists c.in-Ok.ensures.touches)
      (record {
        begun = c.begin.ensures.begun;
        opens = c.begin.ensures.open;
        kept = c.begin.ensures.kept;
        going = c.begin.ensures.going;
        same = c.begin.ensures.same;
        whole = ap (λ j. is_broken j) c.begin.ensures.journal;
      })
      c.mark.ensures.many c.mark.ensures.marked;
}

pub returns-in-Err : goal.returns-in-Err
returns-in-Err g c = record {
  loads = loads_none FREE c.args.buckets.now c.free_pages.new.self c.args.marks.now c.args.marks.now c.in-Err.fault
      (free_lists c.args.buckets.now c.free_pages.new.self (Err c.in-Err.fault) c.in-Err.ensures.lists c.in-Err.ensures.touches);
}
