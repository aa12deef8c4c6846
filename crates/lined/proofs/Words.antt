-- The lanes that are written are those of the value's low 32 bits.
use mathlib.Core.Path.{◌≡◌, sym, ap, ◌∙◌}
use Prim.Native.Nat.{ℕ, ◌+◌, ◌*◌, ◌/◌, ◌%◌, ◌^◌}
use native.Mathlib.Nat.{add-mul, div-add-mod', mul-add-mod_self_right, mul_right_comm}
use lib.Bits.{bit_and}
use Rattle.registers.specs.Words.{lane_mask, lane_shift, placed, shl32}

low_shift : (v k : ℕ) → shl32 (v % 2 ^ 32) k ≡ shl32 v k
low_shift v k =
    let q = v / 2 ^ 32 in
    let r = v % 2 ^ 32 in
    sym (mul-add-mod_self_right (q * 2 ^ k) (2 ^ 32) (r * 2 ^ k))
    ∙ ap (λ (x : ℕ). (x + r * 2 ^ k) % 2 ^ 32) (mul_right_comm q (2 ^ k) (2 ^ 32))
    ∙ ap (λ (x : ℕ). x % 2 ^ 32) (sym (add-mul (q * 2 ^ 32) r (2 ^ k)))
    ∙ ap (λ (x : ℕ). shl32 x k) (div-add-mod' v (2 ^ 32))

pub low_placed : (v width offset : ℕ) → placed (v % 2 ^ 32) width offset ≡ placed v width offset
low_placed v width offset = ap (λ (x : ℕ). bit_and x (lane_mask width offset)) (low_shift v (lane_shift offset))
