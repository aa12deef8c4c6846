-- A buffer of places of one width, filled one after the other: what stands before a place and in it, and what stands behind it.
use mathlib.Core.Bool.{true, cond}
use mathlib.Core.List.{List, ◌++◌, append_assoc}
use mathlib.Core.Path.{◌≡◌, sym, ap, ◌∙◌}
use Prim.Native.Nat.{ℕ, suc, ◌+◌, ◌-◌, ◌*◌, ◌≤◌}
use native.Mathlib.Nat.{mul-suc}
use native.Mathlib.Omega.{arith}
use lib.Dec.{eqb}
use lib.ListN.{length, take, drop, length-append, length-drop}
use lib.Seq.{take_at, drop_at, drop-drop, length-take-le}
use borrow.Author.Tests.{eq-eqb}

module _ (w : ℕ) (room : List ℕ) (i : ℕ) (fits : w * i + w ≤ length room) where
  -- place i filled with x
  abbrev pub filled : List ℕ → List ℕ
  filled x = take (w * i) room ++ (x ++ drop w (drop (w * i) room))

  -- the part that is lent for a place has its width
  pub place_put : (x y t : List ℕ) → x ≡ y
      → (let k = w * i + w - w * i in
      t ≡ cond (eqb (length (take k (drop (w * i) room))) w) x (take k (drop (w * i) room))
      → take (w * i) room ++ (t ++ drop k (drop (w * i) room)) ≡ filled y)
  place_put x y t e given =
      let k : w * i + w - w * i ≡ w = omega arith in
      let l : eqb (length (take w (drop (w * i) room))) w ≡ true =
      eq-eqb (length (take w (drop (w * i) room))) w (length-take-le w (drop (w * i) room) (omega (arith, length-drop (w * i) room))) in
      let q : t ≡ y = rw (k, l) at given ∙ e in
      λ j. take (w * i) room ++ (q j ++ drop (k j) (drop (w * i) room))

  module _ (x : List ℕ) (wide : length x ≡ w) where
    split : filled x ≡ (take (w * i) room ++ x) ++ drop w (drop (w * i) room)
    split = sym (append_assoc (take (w * i) room) x (drop w (drop (w * i) room)))

    upto : length (take (w * i) room ++ x) ≡ w * suc i
    upto = rw (length-append (take (w * i) room) x, length-take-le (w * i) room (omega arith), wide, mul-suc w i) (omega arith)

    pub before_next : take (w * suc i) (filled x) ≡ take (w * i) room ++ x
    before_next = ap (take (w * suc i)) split ∙ take_at (take (w * i) room ++ x) (drop w (drop (w * i) room)) (w * suc i) upto

    pub from_next : drop (w * suc i) (filled x) ≡ drop w (drop (w * i) room)
    from_next = ap (drop (w * suc i)) split ∙ drop_at (take (w * i) room ++ x) (drop w (drop (w * i) room)) (w * suc i) upto

-- places further on are the same in rooms that are the same from place i on
pub rest_next : (w i : ℕ) (room other : List ℕ) → drop (w * i) room ≡ drop (w * i) other → drop w (drop (w * i) room) ≡ drop (w * suc i) other
rest_next w i room other e =
    let k : w * i + w ≡ w * suc i = rw (mul-suc w i) (omega arith) in
    ap (drop w) e ∙ drop-drop w (w * i) other ∙ ap (λ (j : ℕ). drop j other) k
