-- The units, and the range test by induction on the list of timings.
use mathlib.Core.Bool.{Bool, true, false, ◌||◌, false≢true}
use mathlib.Core.List.{List, [], ◌∷◌}
use mathlib.Core.Logic.{◌↔◌}
use mathlib.Core.Path.{◌≡◌, refl, sym}
use Prim.Native.Nat.{ℕ, zero, suc, ◌*◌, ◌<◌, ◌≤◌, suc-le-suc}
use native.Mathlib.Nat.{le_of_suc-le-suc, not-suc-le-zero, zero-lt-suc}
use native.Mathlib.Omega.{arith}
use lib.Dec.{ltb}
use lib.ListN.{length, get_or}
use borrow.Author.Tests.{ltb-false, le-ltb}
use Rattle.time.specs.Timings.{longest_timing, out_of_range}
use Rattle.time.specs.Units.{to_micros}
use Rattle.time.specs.declared.Millis.{Millis}

-- one becomes the other by a product with 1,000
pub thousand : (t : Millis) → (to_micros t).0 ≡ 1000 * t.0
thousand t = omega arith

-- every one of the timings is 1 to 60,000,000 exactly when none is out of range
pub in_range : (s : List ℕ) → (out_of_range s ≡ false) ↔ ((i : ℕ) → i < length s → (1 ≤ get_or s i 0) × (get_or s i 0 ≤ longest_timing))
in_range s = (each s, none s)
  where
    neither : (a b : Bool) → a || b ≡ false → (a ≡ false) × (b ≡ false)
    neither true b e = absurd (false≢true (sym e))
    neither false b e = (refl, e)

    each : (s : List ℕ) → out_of_range s ≡ false → (i : ℕ) → i < length s → (1 ≤ get_or s i 0) × (get_or s i 0 ≤ longest_timing)
    each [] e i h = absurd (not-suc-le-zero h)
    each (t ∷ ts) e zero h =
        let here = neither (ltb t 1) (ltb longest_timing t) (neither (ltb t 1 || ltb longest_timing t) (out_of_range ts) e).0 in
        (ltb-false t 1 here.0, ltb-false longest_timing t here.1)
    each (t ∷ ts) e (suc i) h = each ts (neither (ltb t 1 || ltb longest_timing t) (out_of_range ts) e).1 i (le_of_suc-le-suc h)

    none : (s : List ℕ) → ((i : ℕ) → i < length s → (1 ≤ get_or s i 0) × (get_or s i 0 ≤ longest_timing)) → out_of_range s ≡ false
    none [] all = refl
    none (t ∷ ts) all =
        rw (le-ltb t 1 (all zero (zero-lt-suc (length ts))).0, le-ltb longest_timing t (all zero (zero-lt-suc (length ts))).1)
        (none ts (λ i h. all (suc i) (suc-le-suc h)))

-- the limits of a timing
pub limits_worked : (out_of_range (1 ∷ 60_000_000 ∷ []) ≡ false) × (out_of_range (60_000_001 ∷ []) ≡ true) × (out_of_range (0 ∷ []) ≡ true)
limits_worked = (refl, refl, refl)
