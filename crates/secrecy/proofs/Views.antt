-- The rows hold because they are closed: both sides evaluate to the same numbers.
use mathlib.Core.Bool.{true}
use mathlib.Core.Path.{◌≡◌, refl}
use Rattle.worked.specs.Bench.{passes}
use Rattle.secrecy.specs.Views.{level_one, level_two}

pub level_1_views : passes level_one ≡ true
level_1_views = refl

pub level_2_views : passes level_two ≡ true
level_2_views = refl
