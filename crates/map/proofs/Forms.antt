-- The forms in which the code computes a test, each equal to the definition's.
use mathlib.Core.Bool.{Bool, true, false, not, ◌&&◌, ◌||◌, false≢true}
use mathlib.Core.Path.{◌≡◌, refl, sym, ap}
use Prim.Native.Nat.{ℕ, zero, suc, ◌+◌, ◌-◌, ◌*◌, ◌/◌, ◌%◌, ◌^◌, ◌<◌, ◌≤◌}
use native.Mathlib.Omega.{arith}
use native.Mathlib.Nat.{div-eq_of_lt, mod-eq_of_lt, mod-lt, mod-one, lt_of_lt_of_le, le_of_lt, two-pow-succ, one-mul}
use lib.Bits.{bit_and, and_mask}
use lib.Dec.{eqb, lit<}
use lib.Pow.{pow_mono, pow_pos, mod-pow-add, shl_exact}
use borrow.Author.Tests.{eqb-true, eq-eqb, ne_eqb}
use Rattle.map.specs.Protection.{protected_by, any_protected}

-- two tests that are true together are one
pub same : (s t : Bool) → (s ≡ true → t ≡ true) → (t ≡ true → s ≡ true) → s ≡ t
same true t f g = sym (f refl)
same false true f g = g refl
same false false f g = refl

pub both_left : (s t : Bool) → (s && t) ≡ true → s ≡ true
both_left true t e = refl
both_left false t e = e

pub both_right : (s t : Bool) → (s && t) ≡ true → t ≡ true
both_right true t e = e
both_right false t e = absurd (false≢true e)

pub eqb_same : (a b c d : ℕ) → (a ≡ b → c ≡ d) → (c ≡ d → a ≡ b) → eqb a b ≡ eqb c d
eqb_same a b c d f g = same (eqb a b) (eqb c d) (λ e. eq-eqb c d (f (eqb-true a b e))) (λ e. eq-eqb a b (g (eqb-true c d e)))

-- ---- protection

-- a number of 32 bits has no bit above
pub protected_far : (nwrp k : ℕ) → nwrp < 2 ^ 32 → 32 ≤ k → true ≡ protected_by nwrp k
protected_far nwrp k p q = let z : nwrp / 2 ^ k ≡ 0 = div-eq_of_lt (lt_of_lt_of_le p (pow_mono q)) in rw z

-- bit b above the number r below p: one of the bits is 0 exactly where the whole is not all ones
mask_step : (b r p : ℕ) → b < 2 → r < p → (eqb b 0 || not (eqb r (p - 1))) ≡ not (eqb (b * p + r) (p + p - 1))
mask_step zero r p l h = sym (ap not (ne_eqb (0 * p + r) (p + p - 1) (λ e. omega arith)))
mask_step (suc zero) r p l h = ap not (eqb_same r (p - 1) (1 * p + r) (p + p - 1) (λ e. omega arith) (λ e. omega arith))
mask_step (suc (suc b)) r p l h = absurd (omega arith)

-- the bits below n are all 1 exactly where they make the mask of n ones
pub any_by_mask : (nwrp n : ℕ) → any_protected nwrp n ≡ not (eqb (nwrp % 2 ^ n) (2 ^ n - 1))
any_by_mask nwrp zero = rw (mod-one nwrp)
any_by_mask nwrp (suc n) =
    let s : 1 + n ≡ suc n = omega arith in
    let e : nwrp % 2 ^ suc n ≡ nwrp / 2 ^ n % 2 * 2 ^ n + nwrp % 2 ^ n = rw s at (mod-pow-add nwrp 1 n) in
    rw (any_by_mask nwrp n, e, two-pow-succ n) (mask_step (nwrp / 2 ^ n % 2) (nwrp % 2 ^ n) (2 ^ n) (mod-lt (nwrp / 2 ^ n) (lit< tt)) (mod-lt nwrp (pow_pos n)))

pub any_near : (nwrp n : ℕ) → n ≤ 32 → not (eqb (bit_and nwrp ((1 * 2 ^ n) % 2 ^ 64 - 1)) ((1 * 2 ^ n) % 2 ^ 64 - 1)) ≡ any_protected nwrp n
any_near nwrp n l = rw (shl_exact {a = 1} 1 n 64 (lit< tt) (omega arith), one-mul, and_mask nwrp n) (sym (any_by_mask nwrp n))

pub any_far : (nwrp n : ℕ) → nwrp < 2 ^ 32 → 32 < n → true ≡ any_protected nwrp n
any_far nwrp n p q =
    let m = pow_mono {i = 33} {j = n} q in
    rw (any_by_mask nwrp n, mod-eq_of_lt (lt_of_lt_of_le p (pow_mono (le_of_lt q)))) (sym (ap not (ne_eqb nwrp (2 ^ n - 1) (λ e. omega arith))))
