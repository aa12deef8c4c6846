-- A number of up to four bytes fits into 32 bits.
use mathlib.Core.Bool.{cond}
use mathlib.Core.List.{List}
use mathlib.Core.Path.{◌≡◌}
use Prim.Native.Nat.{ℕ, ◌%◌, ◌^◌, ◌<◌, ◌≤◌}
use native.Mathlib.Nat.{mod-eq_of_lt, lt_of_lt_of_le, pow-le-pow_right, zero-lt-suc}
use native.Mathlib.Omega.{arith}
use lib.Dec.{leb}
use lib.ListN.{get_or}
use borrow.Author.Tests.{le-leb}
use Rattle.cells.proofs.Laws.{little_bound}
use Rattle.cells.specs.Bytes.{value_at}

pub number : (s : List ℕ) (at width v : ℕ) → ((i : ℕ) → get_or s i 0 < 256) → width ≤ 4 → v ≡ cond (leb width 8) (value_at s at width) 0
    → v % 2 ^ 32 ≡ value_at s at width
number s at width v bytes l e =
    let f : v ≡ value_at s at width = rw (le-leb width 8 (omega arith)) at e in
    let b : value_at s at width < 256 ^ 4 =
    lt_of_lt_of_le (little_bound (λ (i : ℕ). get_or s i 0) bytes at width) (pow-le-pow_right {n = 256} (zero-lt-suc 255) l) in
    rw f (mod-eq_of_lt b)
