use Rattle.reader_rounds.proofs.askers.Askers.ask_rounds.Goals as goal

pub returns : goal.returns
returns g c = record { asks = record { each = c.ask_in_threads.ensures.asking; count = c.ask_in_threads.ensures.count } }
