-- The rows hold because they are closed: both sides evaluate to the same numbers.
use mathlib.Core.Bool.{true}
use mathlib.Core.Path.{◌≡◌, refl}
use Rattle.worked.specs.Bench.{passes}
use Rattle.cached.specs.Rows.{ConditionWorked, line_rows}

pub line_rows_lem : passes line_rows ≡ true
line_rows_lem = refl

condition_worked : ConditionWorked
condition_worked = (refl, refl, refl, refl, refl, refl, refl, refl, refl, refl, refl, refl)
