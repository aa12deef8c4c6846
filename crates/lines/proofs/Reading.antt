-- The digits of a number say that number: read one by one they give it back, since each is one digit of 16.
use mathlib.Core.Bool.{Bool, true, false, cond}
use mathlib.Core.List.{List, [], ◌∷◌, ◌++◌}
use mathlib.Core.Path.{◌≡◌, refl, ◌∙◌}
use Prim.Native.Nat.{ℕ, zero, suc, ◌+◌, ◌-◌, ◌*◌, ◌/◌, ◌%◌, ◌^◌, ◌<◌}
use native.Mathlib.Nat.{div-lt_iff_lt-mul, pow-suc}
use native.Mathlib.Omega.{arith}
use lib.Dec.{ltb, lit<}
use borrow.Author.Tests.{lt-ltb, le-ltb, ltb-true, ltb-false}
use Rattle.lines.specs.Lines.{digit_of, hex_of}

-- digits from 48 on, letters from 65 on
abbrev pub read_from : ℕ → List ℕ → ℕ
read_from n [] = n
read_from n (b ∷ rest) = read_from (n * 16 + cond (ltb b 65) (b - 48) (b - 55)) rest

read_both : (n : ℕ) (a b : List ℕ) → read_from n (a ++ b) ≡ read_from (read_from n a) b
read_both n [] b = refl
read_both n (x ∷ a) b = read_both (n * 16 + cond (ltb x 65) (x - 48) (x - 55)) a b

a_digit : (d : ℕ) → d < 16 → cond (ltb (digit_of d) 65) (digit_of d - 48) (digit_of d - 55) ≡ d
a_digit d h = by (ltb d 10) refl
  where
    by : (b : Bool) → ltb d 10 ≡ b → cond (ltb (digit_of d) 65) (digit_of d - 48) (digit_of d - 55) ≡ d
    by true p = rw (p, lt-ltb (48 + d) 65 (omega (arith, ltb-true d 10 p))) (omega arith)
    by false p = rw (p, le-ltb (55 + d) 65 (omega (arith, ltb-false d 10 p))) (omega arith)

pub read_hex : (n v : ℕ) → v < 16 ^ n → read_from 0 (hex_of n v) ≡ v
read_hex zero v h = omega arith
read_hex (suc n) v h =
    read_both 0 (hex_of n (v / 16)) (digit_of (v % 16) ∷ [])
    ∙ rw (read_hex n (v / 16) ((div-lt_iff_lt-mul (lit< tt)).1 (rw (pow-suc 16 n) at h)), a_digit (v % 16) (omega arith)) (omega arith)
