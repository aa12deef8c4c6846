-- What the definitions on words mean in plain arithmetic: bit k of x is x / 2 ^ k % 2, byte lane i x / 256 ^ i % 256; each law follows run by run (Runs).
use mathlib.Core.Bool.{Bool, true, false, not, cond, ◌&&◌, ◌||◌, beq, false≢true, and-true, and-false, or-false}
use mathlib.Core.Logic.{◌⊎◌, ⊎_elim}
use mathlib.Core.Path.{◌≡◌, refl, sym, ap, ap₂, ◌∙◌}
use Prim.Native.Nat.{ℕ, zero, suc, ◌+◌, ◌-◌, ◌*◌, ◌/◌, ◌%◌, ◌^◌, ◌≤◌, ◌<◌}
use native.Mathlib.Nat.{div-eq_of_lt, eq-or-lt_of_le, le_of_suc-le-suc, lt_of_le_of_lt, lt_of_lt_of_le, mod-lt, mod-one, not-suc-le-zero, mul-suc, pow-suc}
use native.Mathlib.Nat.{mod-eq_of_lt, zero-div, zero-lt-suc, zero-mul}
use native.Mathlib.Omega.{arith}
use lib.Bits.{bit_and, bit_or, and_high, and_le_l, and_le_r, and_mask, and_zero_l, mask_lt, or_lt, or_zero_r}
use lib.Dec.{eqb, leb, ltb, lit<, lit≤}
use lib.Pow.{mod-pow-add, ones_lt, pow-add, pow_mono, pow_pos, shl_exact, shr-shr}
use borrow.Author.Tests.{eqb-true, le-ltb, leb-true, leb-false, ltb-true, ltb-false, ne_eqb}
use Rattle.cascade.proofs.Picks.{keep, keep_by}
use Rattle.registers.proofs.Runs.{and_run, or_run, not_run, low_run, low_run_above, shifted_run, shifted_run_below, ones_run, ones_run_above}
use Rattle.registers.specs.Fields.{acr_after, acr_bits, DCEN, DCRST, ICEN, ICRST}
use Rattle.registers.specs.Words.{field, is_set, lane_shift, low_mask, lane_mask, lanes, placed, merged, cleared_by, chosen, not32, shl32}

-- ---- fields and bits

pub a_field : (x k m : ℕ) → field x k m ≡ x / 2 ^ k % 2 ^ m
a_field x k m = and_mask (x / 2 ^ k) m

-- what holds of 0 and of 1 holds of a bit
bit_cases : (P : ℕ → Type 0) → P 0 → P 1 → (x : ℕ) → P (x % 2)
bit_cases P p q x = go (x % 2) (mod-lt x (zero-lt-suc 1))
  where
    go : (d : ℕ) → d < 2 → P d
    go zero h = p
    go (suc zero) h = q
    go (suc (suc d)) h = absurd (not-suc-le-zero (le_of_suc-le-suc (le_of_suc-le-suc h)))

pub a_bit : (x k : ℕ) → is_set x (2 ^ k) ≡ eqb (x / 2 ^ k % 2) 1
a_bit x k =
    let mask : 2 ^ (1 + k) - 2 ^ k ≡ 2 ^ k = omega (arith, pow-add 2 1 k) in
    ap (λ (z : ℕ). not (eqb z 0)) (sym (ap (bit_and x) mask) ∙ and_high x 1 k)
    ∙ bit_cases (λ (d : ℕ). not (eqb (d * 2 ^ k) 0) ≡ eqb d 1) (rw (zero-mul (2 ^ k)))
    (ap not (ne_eqb (1 * 2 ^ k) 0 (λ e. omega (arith, pow_pos k, e)))) (x / 2 ^ k)

-- an operation that works on each run apart, at one bit: its table of four rows
by_table : (op : ℕ → ℕ → ℕ) (f : Bool → Bool → Bool)
    → ((a b k m : ℕ) → op a b / 2 ^ k % 2 ^ m ≡ op (a / 2 ^ k % 2 ^ m) (b / 2 ^ k % 2 ^ m))
    → eqb (op 0 0) 1 ≡ f false false → eqb (op 0 1) 1 ≡ f false true → eqb (op 1 0) 1 ≡ f true false → eqb (op 1 1) 1 ≡ f true true
    → (a b k : ℕ) → eqb (op a b / 2 ^ k % 2) 1 ≡ f (eqb (a / 2 ^ k % 2) 1) (eqb (b / 2 ^ k % 2) 1)
by_table op f run e₀₀ e₀₁ e₁₀ e₁₁ a b k =
    ap (λ (z : ℕ). eqb z 1) (run a b k 1)
    ∙ bit_cases (λ (p : ℕ). eqb (op p (b / 2 ^ k % 2)) 1 ≡ f (eqb p 1) (eqb (b / 2 ^ k % 2) 1))
    (bit_cases (λ (q : ℕ). eqb (op 0 q) 1 ≡ f false (eqb q 1)) e₀₀ e₀₁ (b / 2 ^ k))
    (bit_cases (λ (q : ℕ). eqb (op 1 q) 1 ≡ f true (eqb q 1)) e₁₀ e₁₁ (b / 2 ^ k)) (a / 2 ^ k)

pub bit_and_lem : (a b k : ℕ) → eqb (bit_and a b / 2 ^ k % 2) 1 ≡ eqb (a / 2 ^ k % 2) 1 && eqb (b / 2 ^ k % 2) 1
bit_and_lem = by_table bit_and (λ s t. s && t) and_run refl refl refl refl

pub bit_or_lem : (a b k : ℕ) → eqb (bit_or a b / 2 ^ k % 2) 1 ≡ eqb (a / 2 ^ k % 2) 1 || eqb (b / 2 ^ k % 2) 1
bit_or_lem = by_table bit_or (λ s t. s || t) or_run refl refl refl refl

module _ (k : ℕ) (in_word : k < 32) where
  pub bit_not : (x : ℕ) → x < 2 ^ 32 → eqb (not32 x / 2 ^ k % 2) 1 ≡ not (eqb (x / 2 ^ k % 2) 1)
  bit_not x h =
      ap (λ (z : ℕ). eqb z 1) (not_run x 32 k 1 h (omega arith))
      ∙ bit_cases (λ (d : ℕ). eqb (1 - d) 1 ≡ not (eqb d 1)) refl refl (x / 2 ^ k)

  -- the bits of the mask come from a, the others from b
  pub bit_chosen : (mask a b : ℕ) → mask < 2 ^ 32
      → eqb (chosen mask a b / 2 ^ k % 2) 1 ≡ cond (eqb (mask / 2 ^ k % 2) 1) (eqb (a / 2 ^ k % 2) 1) (eqb (b / 2 ^ k % 2) 1)
  bit_chosen mask a b h =
      rw (bit_or_lem (bit_and a mask) (bit_and b (not32 mask)) k, bit_and_lem a mask k, bit_and_lem b (not32 mask) k, bit_not mask h)
      (one_of (eqb (mask / 2 ^ k % 2) 1) (eqb (a / 2 ^ k % 2) 1) (eqb (b / 2 ^ k % 2) 1))
    where
      one_of : (m s t : Bool) → (s && m) || (t && not m) ≡ cond m s t
      one_of true s t = rw (and-true s, and-false t, or-false s)
      one_of false s t = rw (and-false s, and-true t)

  -- a flag stays exactly where no 1 is written to a clearable one
  pub bit_cleared : (x written clearable : ℕ) → clearable < 2 ^ 32
      → eqb (cleared_by x written clearable / 2 ^ k % 2) 1
      ≡ eqb (x / 2 ^ k % 2) 1 && not (eqb (written / 2 ^ k % 2) 1 && eqb (clearable / 2 ^ k % 2) 1)
  bit_cleared x written clearable h =
      let fits = lt_of_le_of_lt (and_le_r written clearable) h in
      rw (bit_and_lem x (not32 (bit_and written clearable)) k, bit_not (bit_and written clearable) fits, bit_and_lem written clearable k)

-- runs are equal that have equal bits
same_runs : (x y k l m : ℕ) → ((j : ℕ) → j < m → eqb (x / 2 ^ (k + j) % 2) 1 ≡ eqb (y / 2 ^ (l + j) % 2) 1) → x / 2 ^ k % 2 ^ m ≡ y / 2 ^ l % 2 ^ m
same_runs x y k l zero e = mod-one (x / 2 ^ k) ∙ sym (mod-one (y / 2 ^ l))
same_runs x y k l (suc m) e =
    parts x k ∙ ap₂ (λ (b r : ℕ). b * 2 ^ m + r) (same_bit (x / 2 ^ (k + m)) (y / 2 ^ (l + m)) (e m (omega arith)))
    (same_runs x y k l m (λ j h. e j (omega arith))) ∙ sym (parts y l)
  where
    parts : (z n : ℕ) → z / 2 ^ n % 2 ^ suc m ≡ (z / 2 ^ (n + m) % 2) * 2 ^ m + z / 2 ^ n % 2 ^ m
    parts z n =
        ap (λ (p : ℕ). z / 2 ^ n % 2 ^ p) (omega arith) ∙ mod-pow-add (z / 2 ^ n) 1 m
        ∙ ap (λ (q : ℕ). q % 2 * 2 ^ m + z / 2 ^ n % 2 ^ m) (shr-shr z n m)

    same_bit : (a b : ℕ) → eqb (a % 2) 1 ≡ eqb (b % 2) 1 → a % 2 ≡ b % 2
    same_bit a b =
        bit_cases (λ (d : ℕ). eqb d 1 ≡ eqb (b % 2) 1 → d ≡ b % 2)
        (bit_cases (λ (d : ℕ). false ≡ eqb d 1 → 0 ≡ d) (λ f. refl) (λ f. absurd (false≢true f)) b)
        (bit_cases (λ (d : ℕ). true ≡ eqb d 1 → 1 ≡ d) (λ f. absurd (false≢true (sym f))) (λ f. refl) b) a

-- ---- ACR

-- two tests that agree at each number below n, tried one by one
module _ (s t : ℕ → Bool) where
  abbrev agree : ℕ → Bool
  agree zero = true
  agree (suc n) = beq (s n) (t n) && agree n

  agree_below : (n : ℕ) → agree n ≡ true → (k : ℕ) → k < n → s k ≡ t k
  agree_below zero e k h = absurd (not-suc-le-zero h)
  agree_below (suc n) e k h =
      let tried = here (s n) (t n) (agree n) e in
      ⊎_elim (λ same. rw same tried.0) (λ less. agree_below n tried.1 k less) (eq-or-lt_of_le (le_of_suc-le-suc h))
    where
      here : (a b c : Bool) → beq a b && c ≡ true → (a ≡ b) × (c ≡ true)
      here true true c e = (refl, e)
      here true false c e = absurd (false≢true e)
      here false true c e = absurd (false≢true e)
      here false false c e = (refl, e)

-- bit n where bit j of a word is 1
bit_if : (x j n k : ℕ) → agree (λ k. eqb (2 ^ n / 2 ^ k % 2) 1) (λ k. eqb k n) 32 ≡ true → k < 32
    → eqb (cond (is_set x (2 ^ j)) (2 ^ n) 0 / 2 ^ k % 2) 1 ≡ eqb (x / 2 ^ j % 2) 1 && eqb k n
bit_if x j n k e h =
    under (is_set x (2 ^ j))
    ∙ ap₂ (λ (s t : Bool). s && t) (a_bit x j) (agree_below (λ k. eqb (2 ^ n / 2 ^ k % 2) 1) (λ k. eqb k n) 32 e k h)
  where
    under : (t : Bool) → eqb (cond t (2 ^ n) 0 / 2 ^ k % 2) 1 ≡ t && eqb (2 ^ n / 2 ^ k % 2) 1
    under true = refl
    under false = rw (zero-div (2 ^ k))

-- bit 12 stays if bit 10 (DCEN) was 1, bit 11 if bit 9 (ICEN) was 1; bits 12 to 8 and 2 to 0 are else as written, and every other bit is 0
pub bit_acr : (old w k : ℕ) → k < 32
    → eqb (acr_after old w / 2 ^ k % 2) 1
    ≡ cond (eqb (old / 2 ^ 10 % 2) 1 && eqb k 12 || eqb (old / 2 ^ 9 % 2) 1 && eqb k 11) (eqb (old / 2 ^ k % 2) 1)
    (eqb (w / 2 ^ k % 2) 1 && (ltb k 3 || ltb 7 k && ltb k 13))
bit_acr old w k h =
    let of_data = cond (is_set old DCEN) DCRST 0 in
    let of_code = cond (is_set old ICEN) ICRST 0 in
    let fits : (t : Bool) (m : ℕ) → m < 2 ^ 32 → cond t m 0 < 2 ^ 32 = λ t m l. keep (λ (z : ℕ). z < 2 ^ 32) t m 0 l (lit< tt) in
    let both_fit = or_lt 32 of_data of_code (fits (is_set old DCEN) DCRST (lit< tt)) (fits (is_set old ICEN) ICRST (lit< tt)) in
    rw (bit_chosen k h (bit_or of_data of_code) old (bit_and w acr_bits) both_fit, bit_or_lem of_data of_code k, bit_if old 10 12 k refl h)
    (rw (bit_if old 9 11 k refl h, bit_and_lem w acr_bits k)
    (rw (agree_below (λ k. eqb (acr_bits / 2 ^ k % 2) 1) (λ k. ltb k 3 || ltb 7 k && ltb k 13) 32 refl k h)))

-- ---- byte lanes

pub lane_power : (i : ℕ) → 256 ^ i ≡ 2 ^ (8 * i)
lane_power zero = refl
lane_power (suc i) = pow-suc 256 i ∙ ap (λ (z : ℕ). z * 256) (lane_power i) ∙ sym (ap (λ (n : ℕ). 2 ^ n) (mul-suc 8 i) ∙ pow-add 2 (8 * i) 8)

lane_shift_lem : (offset : ℕ) → lane_shift offset ≡ 8 * (offset % 4)
lane_shift_lem offset = omega (arith, and_mask offset 2)

-- all ones, moved up by the bits of a width in two halves, leave its lanes: three bits have eight values
pub low_moved : (width : ℕ) → not32 (shl32 (shl32 0xffff_ffff (bit_and width 7 * 4)) (bit_and width 7 * 4)) ≡ (2 ^ (8 * bit_and width 7) - 1) % 2 ^ 32
low_moved width =
    let moved : (b : ℕ) → ℕ = λ b. not32 (shl32 (shl32 0xffff_ffff (b * 4)) (b * 4)) in
    let ones : (b : ℕ) → ℕ = λ b. (2 ^ (8 * b) - 1) % 2 ^ 32 in
    eqb-true (moved (bit_and width 7)) (ones (bit_and width 7))
    (agree_below (λ b. eqb (moved b) (ones b)) (λ b. true) 8 refl (bit_and width 7) (mask_lt width 3))

mask_small : (width offset : ℕ) → lane_mask width offset < 2 ^ 32
mask_small width offset = omega arith

placed_small : (value width offset : ℕ) → placed value width offset < 2 ^ 32
placed_small value width offset =
    lt_of_le_of_lt (and_le_r (shl32 value (lane_shift offset)) (lane_mask width offset)) (mask_small width offset)

-- a word stays a word, and onto a word of zeros the written lanes are merged alone
pub merged_small : (old value width offset : ℕ) → old < 2 ^ 32 → merged old value width offset < 2 ^ 32
merged_small old value width offset h =
    let others = not32 (lane_mask width offset) in
    or_lt 32 (placed value width offset) (bit_and old others) (placed_small value width offset) (lt_of_le_of_lt (and_le_l old others) h)

pub merged_alone : (value width offset : ℕ) → merged 0 value width offset ≡ placed value width offset
merged_alone value width offset =
    let lone = placed value width offset in
    ap (bit_or lone) (and_zero_l (not32 (lane_mask width offset))) ∙ or_zero_r lone

module _ (width offset : ℕ) (sizes : (width ≡ 1) ⊎ (width ≡ 2) ⊎ (width ≡ 4)) where
  -- all that is asked of the three widths
  at_most_4 : width ≤ 4
  at_most_4 = ⊎_elim (λ e. rw e (lit≤ tt)) (⊎_elim (λ e. rw e (lit≤ tt)) (λ e. rw e (lit≤ tt))) sizes

  low_ones : low_mask width ≡ 2 ^ (8 * width) - 1
  low_ones =
      let few = at_most_4 in
      let same : bit_and width 7 ≡ width = omega (arith, and_mask width 3) in
      let small : 8 * width ≤ 32 = omega arith in
      ap (λ (w : ℕ). (2 ^ (8 * w) - 1) % 2 ^ 32) same ∙ mod-eq_of_lt (lt_of_lt_of_le (ones_lt (8 * width)) (pow_mono small))

  low_bits : (x : ℕ) → bit_and x (low_mask width) ≡ x % 2 ^ (8 * width)
  low_bits x = ap (bit_and x) low_ones ∙ and_mask x (8 * width)

  -- what is read is as many lanes of the word as the width, from the offset on
  pub lanes_are : (x : ℕ) → lanes x width offset ≡ x / 256 ^ (offset % 4) % 256 ^ width
  lanes_are x =
      rw (low_bits (x / 2 ^ lane_shift offset), lane_power (offset % 4), lane_power width)
      (ap (λ (n : ℕ). x / 2 ^ n % 2 ^ (8 * width)) (lane_shift_lem offset))

  -- lane j of what is read is lane o + j of the word, o the offset in it
  pub lane_read : (x j : ℕ) → lanes x width offset / 256 ^ j % 256 ≡ cond (ltb j width) (x / 256 ^ (offset % 4 + j) % 256) 0
  lane_read x j =
      let y = x / 2 ^ lane_shift offset in
      let place : lane_shift offset + 8 * j ≡ 8 * (offset % 4 + j) = omega (arith, lane_shift_lem offset) in
      rw (low_bits y, lane_power j)
      (keep_by (λ (z : ℕ). y % 2 ^ (8 * width) / 2 ^ (8 * j) % 2 ^ 8 ≡ z) (ltb j width) (x / 256 ^ (offset % 4 + j) % 256) 0
      (λ t. low_run y (8 * width) (8 * j) 8 (omega (arith, ltb-true j width t)) ∙ rw (shr-shr x (lane_shift offset) (8 * j), place, lane_power (offset % 4 + j)))
      (λ f. low_run_above y (8 * width) (8 * j) 8 (omega (arith, ltb-false j width f))))

  -- an aligned access lies within its word, which is all that the laws below ask of the offset
  pub aligned_fits : offset % width ≡ 0 → offset % 4 + width ≤ 4
  aligned_fits e =
      let lane : offset % 4 < 4 = mod-lt offset (lit< tt) in
      ⊎_elim (λ w. omega arith)
      (⊎_elim (λ w. let even : offset % 2 ≡ 0 = rw w at e in omega arith) (λ w. let whole : offset % 4 ≡ 0 = rw w at e in omega arith)) sizes

  module _ (fits : offset % 4 + width ≤ 4) where
    -- bit i of the mask is 1 exactly where byte lane i / 8 is written: the lanes from o on, as many as the width
    pub bit_mask : (i : ℕ) → eqb (lane_mask width offset / 2 ^ i % 2) 1 ≡ leb (offset % 4) (i / 8) && ltb (i / 8) (offset % 4 + width)
    bit_mask i =
        let o = offset % 4 in
        let ones = 2 ^ (8 * width) - 1 in
        let exact : lane_mask width offset ≡ ones * 2 ^ (8 * o) =
        ap₂ shl32 low_ones (lane_shift_lem offset) ∙ shl_exact (8 * width) (8 * o) 32 (ones_lt (8 * width)) (omega arith) in
        let above : o ≤ i / 8 → lane_mask width offset / 2 ^ i % 2 ≡ ones / 2 ^ (i - 8 * o) % 2 =
        λ l. ap (λ (x : ℕ). x / 2 ^ i % 2) exact ∙ shifted_run ones (8 * o) i 1 (omega arith) in
        both (λ (b : Bool). eqb (lane_mask width offset / 2 ^ i % 2) 1 ≡ b) (leb o (i / 8)) (ltb (i / 8) (o + width))
        (λ s t. ap (λ (x : ℕ). eqb x 1) (above (leb-true o (i / 8) s)
        ∙ ones_run (8 * width) (i - 8 * o) 1 (omega (arith, leb-true o (i / 8) s, ltb-true (i / 8) (o + width) t))))
        (λ s f. ap (λ (x : ℕ). eqb x 1) (above (leb-true o (i / 8) s)
        ∙ ones_run_above (8 * width) (i - 8 * o) 1 (omega (arith, ltb-false (i / 8) (o + width) f))))
        (λ f. ap (λ (x : ℕ). eqb x 1) (ap (λ (x : ℕ). x / 2 ^ i % 2) exact ∙ shifted_run_below ones (8 * o) i 1 (omega (arith, leb-false o (i / 8) f))))
      where
        both : (P : Bool → Type 0) (s t : Bool) → (s ≡ true → t ≡ true → P true) → (s ≡ true → t ≡ false → P false) → (s ≡ false → P false) → P (s && t)
        both P true true x y z = x refl refl
        both P true false x y z = y refl refl
        both P false t x y z = z refl

    -- a merged word has lane i - o of the value in the lanes of the mask, and the old word's in the others
    pub lane_merged : (old value i : ℕ) → i < 4
        → merged old value width offset / 256 ^ i % 256
        ≡ cond (leb (offset % 4) i && ltb i (offset % 4 + width)) (value / 256 ^ (i - offset % 4) % 256) (old / 256 ^ i % 256)
    lane_merged old value i h =
        let o = offset % 4 in
        let word = merged old value width offset in
        let moved = shl32 value (lane_shift offset) in
        let written = leb o i && ltb i (o + width) in
        let bit : (x j : ℕ) → Bool = λ x j. eqb (x / 2 ^ (8 * i + j) % 2) 1 in
        let masked : (j : ℕ) → j < 8 → bit (lane_mask width offset) j ≡ written =
        λ j g. bit_mask (8 * i + j) ∙ ap (λ (l : ℕ). leb o l && ltb l (o + width)) (omega arith) in
        let merged_bit : (j : ℕ) → j < 8 → bit word j ≡ cond written (bit moved j) (bit old j) =
        λ j g. bit_chosen (8 * i + j) (omega arith) (lane_mask width offset) moved old (mask_small width offset)
        ∙ ap (λ (t : Bool). cond t (bit moved j) (bit old j)) (masked j g) in
        let moved_bit : o ≤ i → (j : ℕ) → j < 8 → bit moved j ≡ eqb (value / 2 ^ (8 * (i - o) + j) % 2) 1 =
        λ l j g. ap (λ (x : ℕ). eqb x 1) (
        ap (λ (n : ℕ). shl32 value n / 2 ^ (8 * i + j) % 2) (lane_shift_lem offset)
        ∙ low_run (value * 2 ^ (8 * o)) 32 (8 * i + j) 1 (omega arith)
        ∙ shifted_run value (8 * o) (8 * i + j) 1 (omega arith) ∙ ap (λ (n : ℕ). value / 2 ^ n % 2) (omega arith)
        ) in
        rw (lane_power i, lane_power (i - o))
        (keep_by (λ (z : ℕ). word / 2 ^ (8 * i) % 2 ^ 8 ≡ z) written (value / 2 ^ (8 * (i - o)) % 2 ^ 8) (old / 2 ^ (8 * i) % 2 ^ 8)
        (λ t. let from = leb-true o i (and_left (leb o i) (ltb i (o + width)) t) in
        same_runs word value (8 * i) (8 * (i - o)) 8 (λ j g. merged_bit j g ∙ rw t (moved_bit from j g)))
        (λ f. same_runs word old (8 * i) (8 * i) 8 (λ j g. merged_bit j g ∙ rw f)))
      where
        and_left : (s t : Bool) → s && t ≡ true → s ≡ true
        and_left true t e = refl
        and_left false t e = e

    -- a written word has the same in those lanes, and 0 in the others
    pub lane_placed : (value i : ℕ)
        → placed value width offset / 256 ^ i % 256
        ≡ cond (leb (offset % 4) i && ltb i (offset % 4 + width)) (value / 256 ^ (i - offset % 4) % 256) 0
    lane_placed value i =
        let o = offset % 4 in
        let lone = placed value width offset in
        let v = value / 256 ^ (i - o) % 256 in
        let written = leb o i && ltb i (o + width) in
        keep_by (λ (b : Bool). lone / 256 ^ i % 256 ≡ cond written v 0) (ltb i 4) true true
        (λ t. ap (λ (x : ℕ). x / 256 ^ i % 256) (sym (merged_alone value width offset)) ∙ lane_merged 0 value i (ltb-true i 4 t)
        ∙ ap (cond written v) (rw (zero-div (256 ^ i))))
        (λ f. let above : 32 ≤ 8 * i = omega (arith, ltb-false i 4 f) in
        let none = div-eq_of_lt (lt_of_lt_of_le (placed_small value width offset) (pow_mono above)) in
        rw (lane_power i, none, le-ltb i (o + width) (omega arith), and-false (leb o i)))

-- ---- worked out: the masks of the aligned accesses; of flags F3, ones written to 81 leave 72; a half-word at offset 2, and a byte at offset 1, in a word

pub masks_worked :
    (lane_mask 1 0 ≡ 0xFF) × (lane_mask 1 1 ≡ 0xFF00) × (lane_mask 1 2 ≡ 0xFF_0000) × (lane_mask 1 3 ≡ 0xFF00_0000)
    × (lane_mask 2 0 ≡ 0xFFFF) × (lane_mask 2 2 ≡ 0xFFFF_0000) × (lane_mask 4 0 ≡ 0xFFFF_FFFF)
masks_worked = (refl, refl, refl, refl, refl, refl, refl)

pub words_worked : (cleared_by 0xF3 0x81 0xF3 ≡ 0x72) × (merged 0x89AB_CDEF 0x1234 2 2 ≡ 0x1234_CDEF) × (merged 0x89AB_CDEF 0x12 1 1 ≡ 0x89AB_12EF)
words_worked = (refl, refl, refl)
