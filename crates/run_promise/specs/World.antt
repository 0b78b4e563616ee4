-- What a run sees of the outside: its files, the disk of its store, and its output.
use Rattle.std.specs.Prelude.{◌≡◌, ℕ, List, ◌++◌, Option}
use Rattle.outside.specs.Bytes.{BothKnown}
use Rattle.outside.specs.Causes.{Rose}
use Rattle.outside.specs.Disk.{DiskView}
use Rattle.outside.specs.Inputs.{FilesView}
use Rattle.outside.specs.Sink.{SinkView}

pub record World : Type 1 where
  pub files : FilesView
  pub disk : DiskView
  pub output : SinkView

abbrev pub world : FilesView → DiskView → SinkView → World
world files disk output = record { files = files; disk = disk; output = output }

-- with other files
abbrev pub with_files : FilesView → World → World
with_files files own = world files own.disk own.output

-- what is remembered of the outside as a run began: the bytes in each file, on the disk and in the output, where they are
-- told, the moment, and the counts of faults
pub record Before : Type 0 where
  pub left : ℕ → Option (List ℕ)
  pub read_faults : ℕ
  pub content : Option (List ℕ)
  pub moment : ℕ
  pub disk_faults : ℕ
  pub taken : Option (List ℕ)
  pub write_faults : ℕ

abbrev pub remembered : World → Before
remembered old = record {
  left = old.files.left;
  read_faults = old.files.faults;
  content = old.disk.content;
  moment = old.disk.crashes.moment;
  disk_faults = old.disk.faults;
  taken = old.output.taken;
  write_faults = old.output.faults;
}

-- a call of this part of the outside failed
abbrev pub ReadFailed : Before → World → Type 0
ReadFailed old new = Rose old.read_faults new.files.faults

abbrev pub WriteFailed : Before → World → Type 0
WriteFailed old new = Rose old.write_faults new.output.faults

abbrev pub DiskFailed : Before → World → Type 0
DiskFailed old new = Rose old.disk_faults new.disk.faults

-- bytes grew by these, and then by some front of those
pub record GrewBy (whole half before after : List ℕ) : Type 0 where
  pub front : List ℕ
  pub rest : List ℕ
  pub cut : half ≡ front ++ rest
  pub grown : after ≡ before ++ whole ++ front

-- the output took these bytes, and some front of those
abbrev pub Took : (whole half : List ℕ) → Before → World → Type 0
Took whole half old new = BothKnown old.taken new.output.taken (GrewBy whole half)
