-- What is answered over a version is over what its history made.
use Rattle.std.proofs.Common.{◌≡◌, ℕ, [], length, sym, ap, ◌∙◌, arith}
use Rattle.osm_base.specs.map.Spots.{TableMap}
use Rattle.style_read.specs.Style.{StyleOf}
use Rattle.row_text.specs.Numbered.{rows_of}
use Rattle.map_query.specs.Answer.{answer}
use Rattle.map_query.specs.declared.query.Query.{Query}
use Rattle.table_versions.specs.Fronts.{Begins, FrontOf}
use Rattle.table_versions.proofs.Shapes.{begins_itself}
use Rattle.table_versions.specs.declared.answers.Answer.{Answer}
use Rattle.table_versions.specs.declared.answers.Counted.{Counted}
use Rattle.table_versions.specs.declared.shown.Shown.{Shown}
use Rattle.table_versions.specs.Answers.{IsAnswer, IsCount}
use Rattle.table_versions.specs.Rule.{IsVersion}
use Rattle.table_versions.specs.Versions.{tables_of, version_of}

pub answered : (style : StyleOf) (query : Query) (front : FrontOf) (tables : TableMap) (given : Answer) → tables ≡ tables_of front
    → given.version ≡ version_of front → given.found ≡ answer style tables query
    → IsAnswer style front query given
answered style query front tables given is version found =
    record { found = found ∙ ap (λ (tables : TableMap). answer style tables query) is; version = version }

pub counted : (table : ℕ) (front : FrontOf) (tables : TableMap) (given : Counted) → tables ≡ tables_of front
    → given.version ≡ version_of front → given.rows ≡ length (rows_of tables table) → IsCount front table given
counted table front tables given is version rows =
    record { rows = rows ∙ ap (λ (tables : TableMap). length (rows_of tables table)) is; version = version }

-- the tables and the number of a version that is shown
pub shown_tables : (shown : Shown) (front : FrontOf) → IsVersion shown → front ≡ shown.front → shown.tables ≡ tables_of front
shown_tables shown front is same = is.tables ∙ ap tables_of (sym same)

pub shown_number : (shown : Shown) (front : FrontOf) → IsVersion shown → front ≡ shown.front → shown.version ≡ version_of front
shown_number shown front is same = is.version ∙ ap version_of (sym same)

-- and of the first one
pub first_tables : (front : FrontOf) (tables : TableMap) → front.first ≡ tables → front.log ≡ [] → tables ≡ tables_of front
first_tables front tables first none = sym first ∙ ap (λ log. tables_of (record front { log = log })) (sym none)

pub first_number : (front : FrontOf) (version : ℕ) → front.base ≡ version → front.log ≡ [] → version ≡ version_of front
first_number front version base none = omega (arith, base, ap length none)

pub begins_self : (front : FrontOf) → Begins front front
begins_self front = begins_itself front
