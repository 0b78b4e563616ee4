-- The fields of a store, written out by hand.
use Rattle.std.proofs.Common.{◌≡◌, codes, refl}
use Rattle.std.specs.Int.{w64, to_le_bytes}
use Rattle.page_journal.specs.Pages.{number_pages}
use Rattle.page_journal.specs.declared.layout.TheConstants.{MARK}

-- the mark is a text of eight letters
pub mark-text : to_le_bytes w64 MARK ≡ codes "SLIMUPD1"
mark-text = refl

-- 512 numbers fill a page
pub number_pages-full : number_pages 512 ≡ 1
number_pages-full = refl

pub number_pages-more : number_pages 513 ≡ 2
number_pages-more = refl
