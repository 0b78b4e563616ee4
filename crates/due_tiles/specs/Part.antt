-- A list of runs is that of a set in one way at most.
use Rattle.std.specs.Prelude.{List, [], ◌∷◌}
use Rattle.std.specs.Coded.{Unit-prop, le_prop, ×_prop}
use Rattle.std.specs.List.{AllByRecursion-prop}
use Rattle.tile_cover.specs.declared.runs.Run.{Run}
use Rattle.tile_cover.specs.Runs.{AreApart, Follows, IsRun, IsTileSet}

AreApart-prop : (runs : List Run) → IsProp (AreApart runs)
AreApart-prop [] = Unit-prop
AreApart-prop (run ∷ runs) = ×_prop (AllByRecursion-prop (Follows run) (λ next. le_prop) runs) (AreApart-prop runs)

IsRun-prop : (run : Run) → IsProp (IsRun run)
IsRun-prop run = hlevel le_prop

pub IsTileSet-prop : (runs : List Run) → IsProp (IsTileSet runs)
IsTileSet-prop runs = hlevel (AllByRecursion-prop IsRun IsRun-prop runs, AreApart-prop runs)
