use Rattle.run_promise.specs.Courses.{course_of}
use Rattle.run_promise.proofs.CourseLaws.{comes_due}
use Rattle.run_promise.proofs.laws.ends_are_due.Goals as goal

pub returns : goal.returns
returns c = record { due = λ command old start ending comes not. comes_due old (course_of command) start ending comes not }
