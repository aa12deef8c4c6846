-- The run of m bits of x from bit k up is x / 2 ^ k % 2 ^ m; a bit is a run of 1, a byte lane one of 8.
-- The operations on words work on each run apart, since they do so above and below any place.
use mathlib.Core.Path.{◌≡◌, sym, ap, ◌∙◌}
use Prim.Native.Nat.{ℕ, ◌+◌, ◌-◌, ◌*◌, ◌/◌, ◌%◌, ◌^◌, ◌≤◌, ◌<◌}
use native.Mathlib.Nat.{add-mul, div-eq_of_lt, lt_of_lt_of_le, mod-lt, mul_assoc, mul-mod_left, sub-zero, zero-div, zero-mod}
use native.Mathlib.Omega.{arith}
use lib.Bits.{bit_and, bit_or, and_shr, and_mod, or_shr, or_mod}
use lib.Pow.{field, high, low, mod-mod-pow, ones_lt, ones_split, ones_sub-lt, pow-add, pow_mono, pow_pos, shl-shr, shr_lt, shr-shr, split}

pub and_run : (a b k m : ℕ) → bit_and a b / 2 ^ k % 2 ^ m ≡ bit_and (a / 2 ^ k % 2 ^ m) (b / 2 ^ k % 2 ^ m)
and_run a b k m = rw (and_shr a b k) (and_mod (a / 2 ^ k) (b / 2 ^ k) m)

pub or_run : (a b k m : ℕ) → bit_or a b / 2 ^ k % 2 ^ m ≡ bit_or (a / 2 ^ k % 2 ^ m) (b / 2 ^ k % 2 ^ m)
or_run a b k m = rw (or_shr a b k) (or_mod (a / 2 ^ k) (b / 2 ^ k) m)

-- the complement, above and below bit k
not_split : (x j k : ℕ) → x < 2 ^ (j + k)
    → (2 ^ (j + k) - 1) - x ≡ ((2 ^ j - 1) - x / 2 ^ k) * 2 ^ k + ((2 ^ k - 1) - x % 2 ^ k)
not_split x j k h =
    let y = x / 2 ^ k in
    let whole : (((2 ^ j - 1) - y) + y) * 2 ^ k ≡ (2 ^ j - 1) * 2 ^ k = ap (λ (z : ℕ). z * 2 ^ k) (omega (arith, shr_lt j k h)) in
    rw (ones_split j k) (omega (arith, split x k, mod-lt x (pow_pos k), shr_lt j k h, whole, add-mul ((2 ^ j - 1) - y) y (2 ^ k)))

pub not_run : (x w k m : ℕ) → x < 2 ^ w → k + m ≤ w → ((2 ^ w - 1) - x) / 2 ^ k % 2 ^ m ≡ (2 ^ m - 1) - x / 2 ^ k % 2 ^ m
not_run x w k m h fits =
    let j = w - (m + k) in
    let e : w ≡ (j + m) + k = omega arith in
    let g : x < 2 ^ ((j + m) + k) = rw e at h in
    rw (e, not_split x (j + m) k g, high ((2 ^ (j + m) - 1) - x / 2 ^ k) k (ones_sub-lt k (x % 2 ^ k)))
    (rw (not_split (x / 2 ^ k) j m (shr_lt (j + m) k g)) (low ((2 ^ j - 1) - x / 2 ^ k / 2 ^ m) m (ones_sub-lt m (x / 2 ^ k % 2 ^ m))))

-- of the n low bits, a run below their end and one above it
pub low_run : (x n k m : ℕ) → k + m ≤ n → x % 2 ^ n / 2 ^ k % 2 ^ m ≡ x / 2 ^ k % 2 ^ m
low_run x n k m h =
    let j = n - (m + k) in
    let e : n ≡ (j + m) + k = omega arith in
    ap (λ (z : ℕ). x % 2 ^ z / 2 ^ k % 2 ^ m) e ∙ ap (λ (z : ℕ). z % 2 ^ m) (field x (j + m) k) ∙ mod-mod-pow (x / 2 ^ k) j m

pub low_run_above : (x n k m : ℕ) → n ≤ k → x % 2 ^ n / 2 ^ k % 2 ^ m ≡ 0
low_run_above x n k m h = rw (div-eq_of_lt (lt_of_lt_of_le (mod-lt x (pow_pos n)) (pow_mono h))) (zero-mod (2 ^ m))

-- of a number shifted up by n, a run above its end and one below it
pub shifted_run : (x n k m : ℕ) → n ≤ k → x * 2 ^ n / 2 ^ k % 2 ^ m ≡ x / 2 ^ (k - n) % 2 ^ m
shifted_run x n k m h =
    let e : k ≡ n + (k - n) = omega arith in
    ap (λ (z : ℕ). x * 2 ^ n / 2 ^ z % 2 ^ m) e ∙ ap (λ (z : ℕ). z % 2 ^ m) (sym (shr-shr (x * 2 ^ n) n (k - n)))
    ∙ ap (λ (z : ℕ). z / 2 ^ (k - n) % 2 ^ m) (shl-shr x n)

pub shifted_run_below : (x n k m : ℕ) → k + m ≤ n → x * 2 ^ n / 2 ^ k % 2 ^ m ≡ 0
shifted_run_below x n k m h =
    let j = n - (m + k) in
    let e : n ≡ (j + m) + k = omega arith in
    let parts : (a b : ℕ) → x * 2 ^ (a + b) ≡ (x * 2 ^ a) * 2 ^ b = λ a b. ap (λ (z : ℕ). x * z) (pow-add 2 a b) ∙ sym (mul_assoc x (2 ^ a) (2 ^ b)) in
    ap (λ (z : ℕ). x * 2 ^ z / 2 ^ k % 2 ^ m) e ∙ ap (λ (z : ℕ). z / 2 ^ k % 2 ^ m) (parts (j + m) k)
    ∙ ap (λ (z : ℕ). z % 2 ^ m) (shl-shr (x * 2 ^ (j + m)) k ∙ parts j m) ∙ mul-mod_left (x * 2 ^ j) (2 ^ m)

-- of n ones, a run below their end and one above it
pub ones_run : (n k m : ℕ) → k + m ≤ n → (2 ^ n - 1) / 2 ^ k % 2 ^ m ≡ 2 ^ m - 1
ones_run n k m h =
    ap (λ (z : ℕ). z / 2 ^ k % 2 ^ m) (sym (sub-zero (2 ^ n - 1))) ∙ not_run 0 n k m (pow_pos n) h
    ∙ rw (zero-div (2 ^ k), zero-mod (2 ^ m)) (sub-zero (2 ^ m - 1))

pub ones_run_above : (n k m : ℕ) → n ≤ k → (2 ^ n - 1) / 2 ^ k % 2 ^ m ≡ 0
ones_run_above n k m h = rw (div-eq_of_lt (lt_of_lt_of_le (ones_lt n) (pow_mono h))) (zero-mod (2 ^ m))
