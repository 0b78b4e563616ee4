-- Between two files of a run that gathers the entries of its files.
use Rattle.std.specs.Prelude.{◌≡◌, ◌≤◌, ℕ, List, [], fold, Some}
use Rattle.osm_base.specs.declared.values.object.Entry.{Entry}
use Rattle.outside.specs.Bytes.{IfTold}
use Rattle.outside.specs.Inputs.{FilesView}
use Rattle.run_promise.specs.Comes.{Comes, AreTold}
use Rattle.run_promise.specs.Course.{Course}
use Rattle.run_promise.specs.Courses.{gathers}
use Rattle.run_promise.specs.Progress.{unused, Progress, Ending, begun, IsIn}
use Rattle.run_promise.specs.World.{Before}

-- So many files are left, from this one on, and none of them was touched; those before it are read to their ends. `now` is what
-- was made of their entries. Whatever ending the rest of the course has from here, the whole course has from its beginning.
pub record IsTurn {K : Type 0} (after : K → Entry → K) (start : K) (rest : List Entry → Course) (course : Course) (file count : ℕ)
    (old : Before) (now : K) (files : FilesView) : Type 0 where
  pub done : Progress
  pub entries : List Entry
  pub untouched : done.store ≡ unused
  pub unwritten : done.written ≡ []
  pub leads_back : (ending : Ending) → Comes old (gathers file count entries rest) done ending → Comes old course (begun unused 0) ending
  pub made : AreTold old done.read → now ≡ fold after start entries
  pub unread : (other : ℕ) → file ≤ other → ¬ IsIn done.read other
  pub at_end : (other : ℕ) → IsIn done.read other → IfTold (old.left other) (λ _. files.left other ≡ Some [])
  pub others : (other : ℕ) → ¬ IsIn done.read other → files.left other ≡ old.left other
  pub later : old.read_faults ≤ files.faults
