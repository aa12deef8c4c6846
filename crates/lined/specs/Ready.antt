-- What the caller of `lined` has seen to: main flash in whole rows, and a target that main flash or OTP holds.
use Rattle.std.specs.Prelude.{Option, Some, None, ◌≡◌, ℕ, ◌+◌, ◌%◌, ◌≤◌}
use Rattle.map.specs.Sectors.{largest_main}
use Rattle.part.specs.declared.Target.{Target}
use Rattle.part.specs.declared.Running.{Running}
use Rattle.part.specs.declared.Target.TheVariants as target

abbrev pub Rowed : ℕ → Type 0
Rowed main = (main % 16 ≡ 0) × (main ≤ largest_main)

abbrev pub TargetSmall : Target → Type 0
TargetSmall (target.Bytes w) = w.offset + w.width ≤ largest_main
TargetSmall (target.Sector k) = Unit {0}
TargetSmall (target.Main len) = Unit {0}
TargetSmall target.Options = Unit {0}
TargetSmall (target.Regression len option) = Unit {0}

abbrev pub OperationSmall : Option Running → Type 0
OperationSmall None = Unit {0}
OperationSmall (Some running) = TargetSmall running.target
