-- What each branch of the code returns, as the definitions say it, stated over plain variables.
use mathlib.Core.Bool.{false, cond, or-true}
use mathlib.Core.Path.{◌≡◌, refl}
use mathlib.Core.List.{List, [], ◌∷◌, ◌++◌, append-nil}
use Prim.Native.Nat.{ℕ, zero, suc, ◌+◌, ◌-◌, ◌/◌, ◌%◌, ◌≤◌}
use native.Mathlib.Omega.{arith}
use native.Mathlib.Nat.{add-zero, suc-add}
use borrow.Author.Tests.{ne_eqb, le-leb}
use lib.Dec.{eqb, leb, eqb-zero-suc}
use lib.ListN.{get_or}
use Rattle.cells.specs.Bytes.{value_at}
use Rattle.caches.specs.Sides.{Side, slot, line_of, used}
use Rattle.caches.specs.Sides.{through, accessed, refreshed_byte, refreshed}

-- ---- an access

module _ (main : List ℕ) (at width : ℕ) (s : Side) (one : 1 ≤ width) (eight : width ≤ 8) where
  high : at + (width - 1) ≡ at + width - 1
  high = omega arith

  pub access_two : (r : ℕ) (low up lines : List ℕ) (t u : Side) → (at / 16 ≡ (at + (width - 1)) / 16 → ⊥)
      → low ≡ line_of main (at / 16) s → t ≡ used main (at / 16) s
      → up ≡ line_of main ((at + (width - 1)) / 16) t → u ≡ used main ((at + (width - 1)) / 16) t
      → lines ≡ low ++ (up ++ []) → r ≡ cond (leb width 8) (value_at lines (at % 16) width) 0 → through r u ≡ accessed main at width s
  access_two r low up lines t u h p q a b j e =
      let other : at / 16 ≡ (at + width - 1) / 16 → ⊥ = rw high at h in
      rw (ne_eqb (at / 16) ((at + width - 1) / 16) other, e, le-leb width 8 eight, j, append-nil up, p, a, b, q, high)

-- ---- programming

-- where the first line is free it is the slot of every row, and no row is held
free_slot : (row : ℕ) (tags : List ℕ) → get_or tags 0 0 ≡ 0 → eqb (get_or tags (slot row tags) 0) (suc row) ≡ false
free_slot row [] z = eqb-zero-suc row
free_slot row (x ∷ []) z = rw z (eqb-zero-suc row)
free_slot row (x ∷ y ∷ ys) z = rw (z, or-true (eqb 0 (suc row))) (eqb-zero-suc row)

pub refreshed_free : (main : List ℕ) (o n : ℕ) (s : Side) → get_or s.tags 0 0 ≡ 0 → s ≡ refreshed main o n s
refreshed_free main o zero s z = refl
refreshed_free main o (suc n) s z = rw (free_slot (o / 16) s.tags z) (refreshed_free main (suc o) n s z)

-- a byte more
pub refreshed_more : (main : List ℕ) (o n : ℕ) (s : Side) → refreshed main o (n + 1) s ≡ refreshed_byte main (o + n) (refreshed main o n s)
refreshed_more main o zero t = rw (add-zero o)
refreshed_more main o (suc n) t = let e : suc o + n ≡ o + suc n = omega arith in rw (← e, suc-add) (refreshed_more main (suc o) n (refreshed_byte main o t))
