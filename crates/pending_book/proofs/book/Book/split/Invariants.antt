-- Which amount the split gives away.
use Rattle.pending_book.proofs.book.Book.split.Given as goal

abbrev pub ghosts-split_by : goal.ghosts-split_by
ghosts-split_by a = record { amount = a.give }
