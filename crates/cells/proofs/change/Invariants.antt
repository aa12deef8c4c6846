-- What is left to change, from byte i on, ends as the whole does.
use Rattle.std.proofs.Common.{ℕ, ◌+◌, ◌-◌, ◌≡◌}
use Rattle.cells.specs.Bytes.{changed}
use Rattle.cells.proofs.change.Given as goal

abbrev pub invariant-loop-i : goal.invariant-loop-i
invariant-loop-i g l =
    (f : ℕ → ℕ → ℕ → ℕ) → ((old b i r : ℕ) → goal.F-post g l.new old b i r → r ≡ f old b i)
    → changed f l.s (l.at + l.i) l.i (l.width - l.i) l.v ≡ changed f l.initial.s l.at 0 l.width l.value
