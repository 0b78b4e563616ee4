use Rattle.std.proofs.Common.{sym, ◌∙◌}
use Rattle.toml.specs.View.{view}
use Rattle.style_read.proofs.Own.{few}
use Rattle.style_read.proofs.reading.top_cause.Goals as goal

pub returns-clause-selections : goal.returns-clause-selections
returns-clause-selections c none = (few (view c.args.document.now) (sym c.first_cause.ensures.cause ∙ none)).0

pub returns-clause-tables : goal.returns-clause-tables
returns-clause-tables c none = (few (view c.args.document.now) (sym c.first_cause.ensures.cause ∙ none)).1
