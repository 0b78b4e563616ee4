-- A pipe and its two ends as contracts see them.
use Rattle.std.specs.Prelude.{◌≡◌, ℕ, List, [], refl}
use Rattle.std.specs.Coded.{Coded, code_by, coded×, coded_list}
use Rattle.atomic_table.specs.Seated.{TableId, table_id_coded}
use Rattle.change_pipe.specs.declared.parcel.Parcel.{Parcel}
use Rattle.change_pipe.specs.contracts.parcel.Parcel as parcel

-- which pipe it is, and how many parcels it holds at most
pub record PipeView : Type 0 where
  pub home : TableId
  pub ahead : ℕ

-- which pipe it is the end of, and the parcels that went through it there, in order
pub record EndView : Type 0 where
  pub home : TableId
  pub list : List Parcel

-- these are stored as the pair of their fields
abbrev pub end_code : Coded EndView
end_code =
    code_by (TableId × List Parcel) (coded× table_id_coded (coded_list parcel.the_row.coded)) (λ end. (end.home, end.list))
    (λ pair. record { home = pair.0; list = pair.1 }) (λ _. refl)

abbrev pub end_view : TableId → List Parcel → EndView
end_view home list = record { home = home; list = list }

-- this is an end of the pipe
abbrev pub IsEndOf : PipeView → EndView → Type 0
IsEndOf pipe end = end.home ≡ pipe.home

-- and nothing went through it yet
abbrev pub IsUnused : PipeView → EndView → Type 0
IsUnused pipe end = end ≡ end_view pipe.home []
