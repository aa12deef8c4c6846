-- One turn and the end of each loop over bytes, stated over plain variables.
use mathlib.Core.Path.{◌≡◌, refl}
use mathlib.Core.List.{List}
use Prim.Native.Nat.{ℕ, zero, suc, ◌+◌, ◌-◌, ◌*◌, ◌/◌, ◌%◌, ◌^◌, ◌<◌, ◌≤◌}
use native.Mathlib.Omega.{arith}
use native.Mathlib.Nat.{lt_of_lt_of_le, pow-le-pow_right, pow-suc, pow-zero, div-one, div-div-eq-div-mul}
use native.Mathlib.Numerals.{add-one}
use lib.Bits.{bit_and, bit_or}
use lib.Dec.{lit<}
use lib.ListN.{get_or, set}
use Rattle.cells.specs.Bytes.{little, stored, changed, programmed, sparing}
use Rattle.cells.proofs.Laws.{spared_byte_lem}

-- ---- a value, from its last byte down: before byte i - 1, v is the value of those from i to the end

pub little_down : (f : ℕ → ℕ) (i end v b : ℕ) → 0 < i → i ≤ end → b ≡ f (i - 1) → v ≡ little f i (end - i)
    → b + 256 * v ≡ little f (i - 1) (end - (i - 1))
little_down f i end v b p q d e =
    let e1 : suc (i - 1) ≡ i = omega arith in
    let e2 : end - (i - 1) ≡ suc (end - i) = omega arith in
    rw (d, e, e2, e1)

-- with one more byte it is below one more power
pub room_down : (i end v b : ℕ) → 0 < i → i ≤ end → b < 256 → v < 256 ^ (end - i) → b + 256 * v < 256 ^ (end - (i - 1))
room_down i end v b p q r h =
    let e : end - (i - 1) ≡ suc (end - i) = omega arith in
    rw (e, pow-suc 256 (end - i)) (omega arith)

-- so before the last of at most 8 bytes there is room for one more
pub room_left : (i end v : ℕ) → end - i ≤ 7 → v < 256 ^ (end - i) → v < 2 ^ 56
room_left i end v p h = lt_of_lt_of_le h (pow-le-pow_right {n = 256} (lit< tt) p)

-- ---- bytes changed, from the first one up: a byte, and what is left

pub changed_turn : (f : ℕ → ℕ → ℕ → ℕ) (s : List ℕ) (at i n v : ℕ) → i < n
    → changed f s (at + i) i (n - i) v ≡ changed f (set s (at + i) (f (get_or s (at + i) 0) (v % 256) i)) (at + (i + 1)) (i + 1) (n - (i + 1)) (v / 256)
changed_turn f s at i n v l =
    let e : n - i ≡ suc (n - (i + 1)) = omega arith in
    let k : at + (i + 1) ≡ suc (at + i) = omega arith in
    rw (e, k, add-one i) refl

pub stores : (s : List ℕ) (at i n v : ℕ) → changed (λ o b k. b) s at i n v ≡ stored s at n v
stores s at i zero v = refl
stores s at i (suc n) v = stores (set s at (v % 256)) (suc at) (suc i) n (v / 256)

pub programs : (s : List ℕ) (at i n v : ℕ) → changed (λ o b k. bit_and o b) s at i n v ≡ programmed s at n v
programs s at i zero v = refl
programs s at i (suc n) v = programs (set s at (bit_and (get_or s at 0) (v % 256))) (suc at) (suc i) n (v / 256)

-- a program that is cut: the low byte is written OR scrap, and the others are those of what is left
pub spares : (scrap : List ℕ) → ((k : ℕ) → get_or scrap k 0 < 256) → (s : List ℕ) (at i n v : ℕ)
    → changed (λ o b k. bit_and o (bit_or b (get_or scrap k 0))) s at i n (v / 256 ^ i)
    ≡ programmed s at n (little (λ k. bit_or (v / 256 ^ k % 256) (get_or scrap k 0)) i n)
spares scrap bytes s at i zero v = refl
spares scrap bytes s at i (suc n) v =
    let f : ℕ → ℕ = λ k. bit_or (v / 256 ^ k % 256) (get_or scrap k 0) in
    let small : f i < 256 = spared_byte_lem v scrap bytes i in
    let rest = little f (suc i) n in
    let low : (f i + 256 * rest) % 256 ≡ f i = omega arith in
    let high : (f i + 256 * rest) / 256 ≡ rest = omega arith in
    let digits : v / 256 ^ i / 256 ≡ v / 256 ^ suc i = rw (pow-suc 256 i) (div-div-eq-div-mul v (256 ^ i) 256) in
    rw (low, high, digits) (spares scrap bytes (set s at (bit_and (get_or s at 0) (f i))) (suc at) (suc i) n v)

pub spares_all : (scrap : List ℕ) → ((k : ℕ) → get_or scrap k 0 < 256) → (s : List ℕ) (at n v : ℕ)
    → changed (λ o b k. bit_and o (bit_or b (get_or scrap k 0))) s at 0 n v ≡ programmed s at n (sparing n v scrap)
spares_all scrap bytes s at n v = rw (pow-zero 256, div-one v) at (spares scrap bytes s at 0 n v)
