-- A register's word after a write, lane by lane, is what the merge gives: both have the same four byte lanes and no more.
use mathlib.Core.Logic.{◌⊎◌}
use mathlib.Core.Path.{◌≡◌, refl, sym, ap, ◌∙◌}
use Prim.Native.Nat.{ℕ, ◌+◌, ◌*◌, ◌/◌, ◌%◌, ◌^◌, ◌<◌, ◌≤◌}
use native.Mathlib.Nat.{mod-eq_of_lt, div-one}
use native.Mathlib.Omega.{arith}
use lib.Dec.{lit<}
use lib.Pow.{shr-shr, shr_lt, split}
use Rattle.registers.proofs.Laws.{lane_merged, merged_small}
use Rattle.registers.specs.Words.{merged}
use Rattle.part.specs.Rules.{lane_after, word_after}
use Rattle.part.proofs.Types.{Access}

-- a word is its four byte lanes
by_lanes : (x : ℕ) → x < 2 ^ 32 → x ≡ x / 256 ^ 0 % 256 + 256 * (x / 256 ^ 1 % 256) + 256 ^ 2 * (x / 256 ^ 2 % 256) + 256 ^ 3 * (x / 256 ^ 3 % 256)
by_lanes x h = lanes_sum (x / 256) (x / 256 ^ 2) (x / 256 ^ 3) x (split x 8) (ap (λ (y : ℕ). y * 256 + x / 256 % 256) (sym (shr-shr x 8 8)) ∙ split (x / 256) 8)
    (ap (λ (y : ℕ). y * 256 + x / 256 ^ 2 % 256) (sym (shr-shr x 16 8)) ∙ split (x / 256 ^ 2) 8) (mod-eq_of_lt (shr_lt {n = x} 8 24 h))
  where
    lanes_sum : (a b c x : ℕ) → a * 256 + x % 256 ≡ x → b * 256 + a % 256 ≡ a → c * 256 + b % 256 ≡ b → c % 256 ≡ c
        → x ≡ x / 1 % 256 + 256 * (a % 256) + 65_536 * (b % 256) + 16_777_216 * (c % 256)
    lanes_sum a b c x p q r s = rw (div-one x, s) (omega arith)

pub word_after_lem : (old value : ℕ) (a : Access) (offset : ℕ) → old < 2 ^ 32 → (a.width ≡ 1) ⊎ (a.width ≡ 2) ⊎ (a.width ≡ 4)
    → offset % 4 ≡ a.address % 4 → a.address % 4 + a.width ≤ 4 → merged old value a.width offset ≡ word_after old value a
word_after_lem old value a offset small sizes same fits =
    let m = merged old value a.width offset in
    let f : offset % 4 + a.width ≤ 4 = rw same fits in
    let lane : (i : ℕ) → i < 4 → m / 256 ^ i % 256 ≡ lane_after old value a.width (a.address % 4) i =
    λ i h. lane_merged a.width offset sizes f old value i h ∙ ap (λ (o : ℕ). lane_after old value a.width o i) same in
    by_lanes m (merged_small old value a.width offset small)
    ∙ rw (lane 0 (lit< tt), lane 1 (lit< tt), lane 2 (lit< tt), lane 3 (lit< tt)) refl
