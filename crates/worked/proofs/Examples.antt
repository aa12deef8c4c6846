-- The bench examples hold: one test, computed over the table, and one law that turns it into each entry's equation.
use mathlib.Core.Bool.{true, false≢true}
use mathlib.Core.List.{List, [], ◌∷◌}
use mathlib.Core.Path.{◌≡◌, refl, ap₂}
use Prim.Native.Nat.{ℕ, zero, suc, ◌<◌}
use native.Mathlib.Nat.{le_of_suc-le-suc, not-suc-le-zero}
use lib.Dec.{eqb}
use lib.ListN.{length, get_or}
use borrow.Author.Tests.{eqb-true}
use Rattle.worked.specs.Bench.{Example, passes, same_numbers}
use Rattle.worked.specs.Examples.{table, unstarred, shut_out}
use Rattle.map.proofs.Forms.{both_left, both_right}

worked : passes table ≡ true
worked = refl

same_numbers_lem : (xs ys : List ℕ) → same_numbers xs ys ≡ true → xs ≡ ys
same_numbers_lem [] [] e = refl
same_numbers_lem [] (y ∷ ys) e = absurd (false≢true e)
same_numbers_lem (x ∷ xs) [] e = absurd (false≢true e)
same_numbers_lem (x ∷ xs) (y ∷ ys) e =
    ap₂ {C = List ℕ} (λ a l. a ∷ l) (eqb-true x y (both_left (eqb x y) (same_numbers xs ys) e))
    (same_numbers_lem xs ys (both_right (eqb x y) (same_numbers xs ys) e))

entry : (es : List Example) → passes es ≡ true → (i : ℕ) (d : Example) → i < length es → (get_or es i d).found ≡ (get_or es i d).wanted
entry [] e i d h = absurd (not-suc-le-zero h)
entry (x ∷ es) e zero d h = same_numbers_lem x.found x.wanted (both_left (same_numbers x.found x.wanted) (passes es) e)
entry (x ∷ es) e (suc i) d h = entry es (both_right (same_numbers x.found x.wanted) (passes es) e) i d (le_of_suc-le-suc h)

-- each of the 14 entries is what the document says
pub each : (i : ℕ) (d : Example) → i < length table → (get_or table i d).found ≡ (get_or table i d).wanted
each i d h = entry table worked i d h

-- the examples without a star follow by evaluation too
pub rest : passes unstarred ≡ true
rest = refl

-- and so do the answers that a wrong part would not give
pub told_apart : passes shut_out ≡ true
told_apart = refl
