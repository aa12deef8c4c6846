-- From the last byte down: v is the value of the bytes from i on, which leaves room for one more.
use Rattle.std.proofs.Common.{ℕ, ◌+◌, ◌-◌, ◌≡◌, ◌≤◌, ◌<◌, ◌^◌}
use Rattle.cells.specs.Bytes.{little}
use Rattle.cells.proofs.little.Given as goal

abbrev pub invariant-loop-i : goal.invariant-loop-i
invariant-loop-i g l =
    (l.at ≤ l.i) × (l.v < 256 ^ (l.at + l.n - l.i))
    × ((f : ℕ → ℕ) → ((i b : ℕ) → l.at ≤ i → i < l.at + l.n → goal.F-post g l.byte i b → b ≡ f i) → l.v ≡ little f l.i (l.at + l.n - l.i))
