-- What holds of an access by its width.
use mathlib.Core.Bool.{Bool, true, false, not}
use mathlib.Core.Path.{◌≡◌, refl, sym, ◌∙◌}
use Prim.Native.Nat.{ℕ, ◌*◌, ◌/◌, ◌^◌, ◌≤◌, ◌<◌}
use native.Mathlib.Nat.{div-eq_of_lt, div-lt_iff_lt-mul, lt_of_lt_of_le, one-mul}
use native.Mathlib.Omega.{arith}
use lib.Dec.{eqb, leb, lit<}
use lib.Pow.{pow_mono, pow_pos}
use borrow.Author.Tests.{leb-true, leb-false, lt-leb, ne_eqb, eq-eqb, not-false}
use Rattle.part.proofs.Entries as entries
use Rattle.part.specs.Refusals.{bad_width, too_big}

-- a property of the four widths is one of every width that is not refused
pub by_width : (P : ℕ → Type 0) (w : ℕ) → bad_width w ≡ false → P 1 → P 2 → P 4 → P 8 → P w
by_width P w e p₁ p₂ p₄ p₈ = entries.by_width P w p₁ p₂ p₄ p₈ (not-false _ (sym (entries.width_is w) ∙ e))

-- a value fits into so many bits exactly if its quotient by their power of two is 0
pub big_near : (width v : ℕ) → not (eqb (v / 2 ^ (8 * width)) 0) ≡ too_big width v
big_near width v = at (leb (2 ^ (8 * width)) v) refl
  where
    at : (t : Bool) → leb (2 ^ (8 * width)) v ≡ t → not (eqb (v / 2 ^ (8 * width)) 0) ≡ too_big width v
    at true e =
        let l = leb-true (2 ^ (8 * width)) v e in
        rw (
          e,
          ne_eqb (v / 2 ^ (8 * width)) 0 (λ z.
              let s : v / 2 ^ (8 * width) < 1 = rw z (lit< tt) in
              let q : v < 1 * 2 ^ (8 * width) = (div-lt_iff_lt-mul {k = 2 ^ (8 * width)} {x = v} {y = 1} (pow_pos (8 * width))).0 s in
              let b = rw one-mul at q in omega (arith, b, l)),
        )
    at false e =
        rw (e, eq-eqb (v / 2 ^ (8 * width)) 0 (div-eq_of_lt (leb-false (2 ^ (8 * width)) v e)))

-- no value of 64 bits is too big for 8 bytes
pub big_far : (width v : ℕ) → v < 2 ^ 64 → 8 ≤ width → too_big width v ≡ false
big_far width v p q =
    let l : 64 ≤ 8 * width = omega arith in
    lt-leb (2 ^ (8 * width)) v (lt_of_lt_of_le p (pow_mono l))
