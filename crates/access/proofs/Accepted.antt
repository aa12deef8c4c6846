-- What an access that is not malformed may be: its width is 1, 2, 4 or 8, its value fits into it, and a register takes at most a word.
use mathlib.Core.Bool.{true, false, true≢false}
use mathlib.Core.Path.{◌≡◌}
use Prim.Native.Nat.{ℕ, ◌^◌, ◌<◌}
use native.Mathlib.Omega.{arith}
use borrow.Author.Tests.{leb-false}
use Rattle.part.specs.Refusals.{bad_width, too_big, misaligned}
use Rattle.record.proofs.Widths.{by_width}

-- a register access that is not refused is not of 8 bytes, so its value has 32 bits
pub register_value : (offset w v : ℕ) → bad_width w ≡ false → too_big w v ≡ false → misaligned offset w ≡ false → v < 2 ^ 32
register_value offset w v e =
    by_width (λ (w : ℕ). too_big w v ≡ false → misaligned offset w ≡ false → v < 2 ^ 32) w e
    (λ b _. let l = leb-false (2 ^ 8) v b in omega arith)
    (λ b _. let l = leb-false (2 ^ 16) v b in omega arith)
    (λ b _. leb-false (2 ^ 32) v b)
    (λ b m. absurd (true≢false m))
