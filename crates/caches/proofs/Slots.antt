-- The slot of a row: it lies among the lines, and a search that stops at the first line of the row, or free, finds it.
use mathlib.Core.Bool.{Bool, true, false, cond, ◌||◌, not}
use mathlib.Core.Path.{◌≡◌, refl, sym, ap, ◌∙◌}
use mathlib.Core.List.{List, [], ◌∷◌}
use Prim.Native.Nat.{ℕ, suc, ◌+◌, ◌-◌, ◌<◌}
use native.Mathlib.Omega.{arith}
use borrow.Author.Tests.{ltb-false}
use lib.Dec.{eqb, ltb}
use lib.ListN.{length, take}
use lib.Seq.{length-take-le}
use Rattle.std.specs.List.{position, position_or_len}
use Rattle.std.specs.Option.{unwrap_or}
use Rattle.std.proofs.Common.{Option, None}
use Rattle.std.proofs.lemmas.List.Sums.{prefix_len-le-length}
use Rattle.cascade.proofs.Picks.{keep, keep_by}
use Rattle.caches.specs.Sides.{slot}

pub slot_cons : (row x : ℕ) (xs : List ℕ) → 0 < length xs → slot row (x ∷ xs) ≡ cond (eqb x (suc row) || eqb x 0) 0 (suc (slot row xs))
slot_cons row x [] l = absurd (omega arith)
slot_cons row x (y ∷ ys) l = refl

pub slot_below : (row : ℕ) (xs : List ℕ) → 0 < length xs → slot row xs < length xs
slot_below row [] l = l
slot_below row (x ∷ []) l = l
slot_below row (x ∷ y ∷ ys) l =
    keep (λ k. k < suc (length (y ∷ ys))) (eqb x (suc row) || eqb x 0) 0 (suc (slot row (y ∷ ys))) (omega arith)
    (omega (arith, slot_below row (y ∷ ys) (omega arith)))

-- the first place that passes, or the length
first_or_len : (p : ℕ → Bool) (xs : List ℕ) → unwrap_or (position p xs) (length xs) ≡ position_or_len p xs
first_or_len p xs =
    keep_by (λ (o : Option ℕ). unwrap_or o (length xs) ≡ position_or_len p xs) (ltb (position_or_len p xs) (length xs)) _ None (λ e. refl)
    (λ e. omega (arith, ltb-false (position_or_len p xs) (length xs) e, prefix_len-le-length (λ x. not (p x)) xs))

turned : (t : Bool) (k m : ℕ) → k ≡ m → cond t 0 (suc k) ≡ cond (not t) (1 + m) 0
turned true k m e = refl
turned false k m e = omega arith

slot_or_len : (row x : ℕ) (xs : List ℕ) → slot row (x ∷ xs) ≡ position_or_len (λ y. eqb y (suc row) || eqb y 0) (take (length xs) (x ∷ xs))
slot_or_len row x [] = refl
slot_or_len row x (y ∷ ys) = turned (eqb x (suc row) || eqb x 0) (slot row (y ∷ ys)) _ (slot_or_len row y ys)

-- the first line that has the tag or is free, among all but the last, else the last
pub slot_place : (row tag : ℕ) (xs : List ℕ) → tag ≡ suc row → 0 < length xs
    → unwrap_or (position (λ x. eqb x tag || eqb x 0) (take (length xs - 1) xs)) (length xs - 1) ≡ slot row xs
slot_place row tag [] e l = absurd (omega arith)
slot_place row tag (x ∷ xs) e l =
    let before : length (x ∷ xs) - 1 ≡ length xs = omega arith in
    let long : length (take (length xs) (x ∷ xs)) ≡ length xs = length-take-le (length xs) (x ∷ xs) (omega arith) in
    let p : ℕ → Bool = λ y. eqb y (suc row) || eqb y 0 in
    let found : unwrap_or (position p (take (length xs) (x ∷ xs))) (length xs) ≡ slot row (x ∷ xs)
    = ap (unwrap_or (position p (take (length xs) (x ∷ xs)))) (sym long) ∙ first_or_len p (take (length xs) (x ∷ xs)) ∙ sym (slot_or_len row x xs) in
    rw (before, e) found
