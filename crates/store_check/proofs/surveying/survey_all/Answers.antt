-- All chains are read, and then a page is left over or none is.
use Rattle.std.proofs.Common.{◌≡◌, ◌∷◌, Err, Ok, ap, refl}
use Rattle.std.specs.List.{range_with_len}
use Rattle.chain_store.specs.Chains.{kept_of}
use Rattle.chain_store.specs.declared.root.Root.{Root}
use Rattle.page_journal.specs.declared.fault.StoreFault.TheVariants.{BadStore}
use Rattle.bucket_store.specs.Buckets.{bucket_count}
use Rattle.bucket_store.specs.Transaction.{chains_of}
use Rattle.row_store.proofs.LookLaws.{looks_on, still_whole}
use Rattle.store_check.proofs.Finding.{counted, found_all, found_left, load_refused, other_refused}
use Rattle.store_check.proofs.Steps.{looks_refused}
use Rattle.store_check.proofs.surveying.survey_all.Goals as goal

pub returns-in-Err-clause-answers : goal.returns-in-Err-clause-answers
returns-in-Err-clause-answers g c pages was =
    let old = c.args.buckets.now in
    let count = c.root-count.result.buckets in
    let is : count ≡ bucket_count (chains_of old) = ap (λ (r : Root). r.buckets) c.root-count.ensures in
    load_refused pages (kept_of (chains_of old)) was.open_chains.keeps count (counted old count c.requires.fresh.begun is) c.args.marks.now
    c.load_all.new.marks c.in-Err.fault (c.in-Err.ensures.loads.answers pages was)

pub returns-in-Err-clause-looks : goal.returns-in-Err-clause-looks
returns-in-Err-clause-looks g c = c.in-Err.ensures.loads.looks

pub returns-in-Err-mark_others-clause-answers : goal.returns-in-Err-mark_others-clause-answers
returns-in-Err-mark_others-clause-answers g c pages was =
    other_refused pages (kept_of (chains_of c.args.buckets.now)) (kept_of (chains_of c.load_all.new.buckets)) (0 ∷ range_with_len 3 13)
    c.load_all.new.marks c.mark_others.new.marks c.in-Err-mark_others.fault
    (c.in-Err-mark_others.ensures.marks.answers pages (c.in_default.ensures.loads.opens pages was))

pub returns-in-Err-mark_others-clause-looks : goal.returns-in-Err-mark_others-clause-looks
returns-in-Err-mark_others-clause-looks g c =
    let old = c.args.buckets.now in
    let mid = c.load_all.new.buckets in
    let first = c.in_default.ensures.loads.looks in
    looks_on old mid c.mark_others.new.buckets (Err c.in-Err-mark_others.fault) first.same first.stays
    (still_whole old mid c.in_default.field-0 first) c.in-Err-mark_others.ensures.marks.looks

pub returns-in-Some-clause-answers : goal.returns-in-Some-clause-answers
returns-in-Some-clause-answers g c pages was =
    let old = c.args.buckets.now in
    let count = c.root-count.result.buckets in
    let is : count ≡ bucket_count (chains_of old) = ap (λ (r : Root). r.buckets) c.root-count.ensures in
    found_left old c.load_all.new.buckets c.mark_others.new.buckets count c.requires.fresh.begun is c.args.marks.now c.load_all.new.marks
    c.mark_others.new.marks c.requires.many c.requires.none c.in_default.field-0 c.in_default-mark_others.field-0
    c.in_default.ensures.loads c.in_default-mark_others.ensures.marks c.in-Some.page c.in-Some.ensures.left pages was

pub returns-in-Some-clause-looks : goal.returns-in-Some-clause-looks
returns-in-Some-clause-looks g c =
    let old = c.args.buckets.now in
    let mid = c.load_all.new.buckets in
    let last = c.mark_others.new.buckets in
    let first = c.in_default.ensures.loads.looks in
    let second = c.in_default-mark_others.ensures.marks.looks in
    let both = looks_on old mid last (Ok c.in_default-mark_others.field-0) first.same first.stays
    (still_whole old mid c.in_default.field-0 first) second in
    looks_on old last c.refuse.new.self (Err (BadStore c.in-Some.page)) both.same both.stays
    (still_whole old last c.in_default-mark_others.field-0 both)
    (looks_refused last c.refuse.new.self (BadStore c.in-Some.page) c.refuse.ensures.chains c.refuse.ensures.same c.refuse.ensures.refused
    refl tt)

pub returns-in-None-clause-answers : goal.returns-in-None-clause-answers
returns-in-None-clause-answers g c pages was =
    let old = c.args.buckets.now in
    let count = c.root-count.result.buckets in
    let is : count ≡ bucket_count (chains_of old) = ap (λ (r : Root). r.buckets) c.root-count.ensures in
    found_all old c.load_all.new.buckets c.mark_others.new.buckets count c.requires.fresh.begun is c.args.marks.now c.load_all.new.marks
    c.mark_others.new.marks c.requires.many c.requires.none c.in_default.field-0 c.in_default-mark_others.field-0
    c.in_default.ensures.loads c.in_default-mark_others.ensures.marks c.in-None.ensures.left pages was

pub returns-in-None-clause-open : goal.returns-in-None-clause-open
returns-in-None-clause-open g c pages was =
    c.in_default-mark_others.ensures.marks.opens pages (c.in_default.ensures.loads.opens pages was)

pub returns-in-None-clause-begun : goal.returns-in-None-clause-begun
returns-in-None-clause-begun g c = c.in_default-mark_others.ensures.marks.begun

pub returns-in-None-clause-looks : goal.returns-in-None-clause-looks
returns-in-None-clause-looks g c =
    let old = c.args.buckets.now in
    let mid = c.load_all.new.buckets in
    let last = c.mark_others.new.buckets in
    let first = c.in_default.ensures.loads.looks in
    looks_on old mid last (Ok tt) first.same first.stays
    (still_whole old mid c.in_default.field-0 first) c.in_default-mark_others.ensures.marks.looks
