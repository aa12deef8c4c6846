-- What reading, storing, programming and erasing do to each byte and bit, in plain arithmetic. Each law goes by induction on the number
-- of bytes, the way its definition recurs.
use mathlib.Core.Bool.{Bool, true}
use mathlib.Core.Path.{◌≡◌, refl, sym, ap, subst, ◌∙◌}
use mathlib.Core.List.{List, [], ◌∷◌, ◌++◌, append_assoc}
use mathlib.Core.Logic.{⊎_elim, ◌↔◌}
use Prim.Native.Nat.{ℕ, zero, suc, ◌+◌, ◌-◌, ◌*◌, ◌/◌, ◌%◌, ◌^◌, ◌<◌, ◌≤◌}
use native.Mathlib.Omega.{arith}
use native.Mathlib.Nat.{pow-zero, pow-suc, pow-succ', div-one, div-div-eq-div-mul, eq-or-lt_of_le, sub_self, add-zero, zero-add, suc-add}
use native.Mathlib.Nat.{mul_assoc, le_refl, le_trans, lt_of_le_of_lt, mod-lt}
use borrow.Author.Tests.{leb-true, leb-false, le-leb}
use Rattle.cascade.proofs.Picks.{keep_by}
use lib.Dec.{leb, lit<}
use lib.Bits.{bit_and, bit_or, and_step, and_shr, and_le_l, or_lt}
use lib.ListN.{length, get_or, set, take, drop, replicate, length-append, length-take, length-drop, length-set, length-replicate}
use lib.ListN.{get_or-replicate, get_or-append, get_or-eq_default}
use lib.Seq.{get_or-set_same, get_or-set_other, get_or-take, get_or-drop, get_or-append-add, length-sets, sets-eq}
use Rattle.cells.specs.Bytes.{little, bytes_of, stored, programmed, sparing, erased, scrapped}

-- two numbers compare one way or the other
by_order : (P : Type 0) (a b : ℕ) → (a ≤ b → P) → (b < a → P) → P
by_order P a b f g = keep_by (λ (x : Bool). P) (leb a b) true true (λ e. f (leb-true a b e)) (λ e. g (leb-false a b e))

-- ---- values

-- n bytes have a value below 256 to the power n
pub little_bound : (f : ℕ → ℕ) → ((i : ℕ) → f i < 256) → (at n : ℕ) → little f at n < 256 ^ n
little_bound f b at zero = omega arith
little_bound f b at (suc n) = rw (pow-suc 256 n) (omega (arith, little_bound f b (suc at) n, b at))

-- byte j of the value is the byte at j, so the lowest stands first
pub little_byte : (f : ℕ → ℕ) → ((i : ℕ) → f i < 256) → (at n j : ℕ) → j < n → little f at n / 256 ^ j % 256 ≡ f (at + j)
little_byte f b at zero j l = absurd (omega arith)
little_byte f b at (suc n) zero l = rw (pow-zero 256, div-one, add-zero) (omega (arith, b at))
little_byte f b at (suc n) (suc j) l =
    let low : (f at + 256 * little f (suc at) n) / 256 ≡ little f (suc at) n = omega (arith, b at) in
    let next : at + suc j ≡ suc at + j = omega arith in
    rw (pow-succ' 256 j, ← div-div-eq-div-mul (f at + 256 * little f (suc at) n) 256 (256 ^ j), low, next) (little_byte f b (suc at) n j (omega arith))

-- the value of m bytes and of the n after them
pub little_add : (f : ℕ → ℕ) (at m n : ℕ) → little f at (m + n) ≡ little f at m + 256 ^ m * little f (at + m) n
little_add f at zero n = rw (zero-add n, add-zero, pow-zero) (omega arith)
little_add f at (suc m) n =
    let e : at + suc m ≡ suc at + m = omega arith in
    rw (suc-add, pow-succ' 256 m, e) (omega (arith, little_add f (suc at) m n, mul_assoc 256 (256 ^ m) (little f (suc at + m) n)))

-- ---- n bytes over those from a start on

module _ (s t : List ℕ) (start n : ℕ) (e : length t ≡ n) (l : start + n ≤ length s) where
  abbrev over : List ℕ
  over = take start s ++ (t ++ drop (start + n) s)

  over_from : (j : ℕ) → start ≤ j → get_or over j 0 ≡ get_or (t ++ drop (start + n) s) (j - start) 0
  over_from j p =
      let f : length (take start s) + (j - start) ≡ j = simp length-take (omega arith) in
      rw f at (get_or-append-add (take start s) (t ++ drop (start + n) s) (j - start) 0)

  -- a byte among them is that of t
  over_byte : (j : ℕ) → start ≤ j → j < start + n → get_or over j 0 ≡ get_or t (j - start) 0
  over_byte j p q = over_from j p ∙ get_or-append t (drop (start + n) s) 0 (j - start) (omega (arith, e))

  -- every other byte stays
  over_other : (j : ℕ) → (start ≤ j → j < start + n → ⊥) → get_or over j 0 ≡ get_or s j 0
  over_other j out =
      let P = get_or over j 0 ≡ get_or s j 0 in
      by_order P start j
      (λ p. by_order P (start + n) j (after p) (λ q. absurd (out p q)))
      (λ p. get_or-append (take start s) (t ++ drop (start + n) s) 0 j (rw length-take (omega arith)) ∙ get_or-take start s j 0 p)
    where
      after : start ≤ j → start + n ≤ j → get_or over j 0 ≡ get_or s j 0
      after p q =
          let f : length t + (j - (start + n)) ≡ j - start = omega (arith, e) in
          let g : start + n + (j - (start + n)) ≡ j = omega arith in
          over_from j p ∙ rw f at (get_or-append-add t (drop (start + n) s) (j - (start + n)) 0) ∙ get_or-drop (start + n) s (j - (start + n)) 0 ∙ rw g

-- ---- storing

-- the bytes of a value are n, the lowest first
pub length_bytes : (n v : ℕ) → length (bytes_of n v) ≡ n
length_bytes zero v = refl
length_bytes (suc n) v = ap suc (length_bytes n (v / 256))

pub bytes_at_lem : (n v i : ℕ) → i < n → get_or (bytes_of n v) i 0 ≡ v / 256 ^ i % 256
bytes_at_lem zero v i h = absurd (omega arith)
bytes_at_lem (suc n) v zero h = ap (λ (x : ℕ). x % 256) (sym (div-one v))
bytes_at_lem (suc n) v (suc i) h =
    bytes_at_lem n (v / 256) i (omega arith) ∙ ap (λ (x : ℕ). x % 256) (div-div-eq-div-mul v 256 (256 ^ i) ∙ ap (λ (x : ℕ). v / x) (sym (pow-succ' 256 i)))

pub stored_length : (s : List ℕ) (at n v : ℕ) → length (stored s at n v) ≡ length s
stored_length s at n v = length-sets s at (bytes_of n v)

stored_over : (s : List ℕ) (at n v : ℕ) → at + n ≤ length s → stored s at n v ≡ take at s ++ (bytes_of n v ++ drop (at + n) s)
stored_over s at n v l =
    rw (length_bytes n v) at (sets-eq (bytes_of n v) s at (rw (length_bytes n v) l)) ∙ append_assoc (take at s) (bytes_of n v) (drop (at + n) s)

-- a byte among the n from `at` becomes that of the value
pub stored_byte_lem : (s : List ℕ) (at n v j : ℕ) → at + n ≤ length s → at ≤ j → j < at + n → get_or (stored s at n v) j 0 ≡ v / 256 ^ (j - at) % 256
stored_byte_lem s at n v j l p q =
    rw (stored_over s at n v l) (over_byte s (bytes_of n v) at n (length_bytes n v) l j p q ∙ bytes_at_lem n v (j - at) (omega arith))

-- every other byte stays
pub stored_other : (s : List ℕ) (at n v j : ℕ) → at + n ≤ length s → (at ≤ j → j < at + n → ⊥) → get_or (stored s at n v) j 0 ≡ get_or s j 0
stored_other s at n v j l out = rw (stored_over s at n v l) (over_other s (bytes_of n v) at n (length_bytes n v) l j out)

-- ---- programming

pub programmed_length : (s : List ℕ) (at n v : ℕ) → length (programmed s at n v) ≡ length s
programmed_length s at zero v = refl
programmed_length s at (suc n) v = programmed_length (set s at _) (suc at) n (v / 256) ∙ simp length-set

-- a store changes no other byte, and none past the end
set_other : (s : List ℕ) (i j b : ℕ) → (j ≡ i → j < length s → ⊥) → get_or (set s i b) j 0 ≡ get_or s j 0
set_other s i j b out =
    by_order (get_or (set s i b) j 0 ≡ get_or s j 0) (length s) j
    (λ l. get_or-eq_default (set s i b) 0 (rw length-set l) ∙ sym (get_or-eq_default s 0 l))
    (λ l. get_or-set_other s i j b 0 (λ e. out e l))

-- a byte outside the n from `at`, or past the end, stays
pub programmed_other : (s : List ℕ) (at n v j : ℕ) → (at ≤ j → j < at + n → j < length s → ⊥) → get_or (programmed s at n v) j 0 ≡ get_or s j 0
programmed_other s at zero v j out = refl
programmed_other s at (suc n) v j out =
    programmed_other (set s at _) (suc at) n (v / 256) j (λ p q r. out (omega arith) (omega arith) (rw length-set at r))
    ∙ set_other s at j _ (λ p r. out (omega arith) (omega arith) r)

programmed_first : (s : List ℕ) (at n v : ℕ) → at < length s
    → get_or (programmed s at (suc n) v) at 0 ≡ bit_and (get_or s at 0) (v / 256 ^ (at - at) % 256)
programmed_first s at n v r =
    rw (sub_self, pow-zero, div-one) (programmed_other _ (suc at) n (v / 256) at (λ p q l. omega arith) ∙ get_or-set_same s at _ 0 r)

-- the digits of v / 256 are those of v one place up
digit_up : (v i j : ℕ) → i < j → v / 256 / 256 ^ (j - suc i) ≡ v / 256 ^ (j - i)
digit_up v i j l =
    let e : j - i ≡ suc (j - suc i) = omega arith in
    rw (e, pow-succ' 256 (j - suc i)) (div-div-eq-div-mul v 256 (256 ^ (j - suc i)))

-- a byte among the n from `at` becomes old AND written
pub programmed_byte_lem : (s : List ℕ) (at n v j : ℕ) → at ≤ j → j < at + n → j < length s
    → get_or (programmed s at n v) j 0 ≡ bit_and (get_or s j 0) (v / 256 ^ (j - at) % 256)
programmed_byte_lem s at zero v j p q r = absurd (omega arith)
programmed_byte_lem s at (suc n) v j p q r =
    ⊎_elim
    (λ e. subst (λ k. get_or (programmed s at (suc n) v) k 0 ≡ bit_and (get_or s k 0) (v / 256 ^ (k - at) % 256)) e (programmed_first s at n v (omega arith)))
    (λ l. programmed_byte_lem (set s at _) (suc at) n (v / 256) j l (omega arith) (rw length-set r)
    ∙ rw (digit_up v at j l, set_other s at j _ (λ e x. omega arith)))
    (eq-or-lt_of_le p)

-- bit k of a programmed byte is 1 exactly where the old and the written bit are
pub programmed_bit : (s : List ℕ) (at n v j k : ℕ) → at ≤ j → j < at + n → j < length s
    → (get_or (programmed s at n v) j 0 / 2 ^ k % 2 ≡ 1)
    ↔ (get_or s j 0 / 2 ^ k % 2 ≡ 1) × (v / 256 ^ (j - at) % 256 / 2 ^ k % 2 ≡ 1)
programmed_bit s at n v j k p q r =
    let a = get_or s j 0 in
    let b = v / 256 ^ (j - at) % 256 in
    rw (programmed_byte_lem s at n v j p q r, and_shr a b k) (omega (arith, and_step (a / 2 ^ k) (b / 2 ^ k)))

-- a store of a smaller byte leaves no byte larger
set_le : (s : List ℕ) (i j b : ℕ) → b ≤ get_or s i 0 → get_or (set s i b) j 0 ≤ get_or s j 0
set_le [] i j b l = le_refl 0
set_le (x ∷ s) zero zero b l = l
set_le (x ∷ s) zero (suc j) b l = le_refl (get_or s j 0)
set_le (x ∷ s) (suc i) zero b l = le_refl x
set_le (x ∷ s) (suc i) (suc j) b l = set_le s i j b l

-- programming only clears: no byte grows
pub programmed_le : (s : List ℕ) (at n v j : ℕ) → get_or (programmed s at n v) j 0 ≤ get_or s j 0
programmed_le s at zero v j = le_refl (get_or s j 0)
programmed_le s at (suc n) v j =
    let b = bit_and (get_or s at 0) (v % 256) in
    le_trans (programmed_le (set s at b) (suc at) n (v / 256) j) (set_le s at j b (and_le_l (get_or s at 0) (v % 256)))

-- bytes stay bytes
pub programmed_bytes : (s : List ℕ) (at n v : ℕ) → ((i : ℕ) → get_or s i 0 < 256) → (j : ℕ) → get_or (programmed s at n v) j 0 < 256
programmed_bytes s at n v b j = lt_of_le_of_lt (programmed_le s at n v j) (b j)

-- ---- erasing

pub erased_length : (s : List ℕ) (start n : ℕ) → length (erased s start n) ≡ length s
erased_length s start n =
    keep_by (λ (t : List ℕ). length t ≡ length s) (leb (start + n) (length s)) _ s
    (λ e. let l = leb-true (start + n) (length s) e in simp (length-append, length-take, length-replicate, length-drop) (omega arith)) (λ _. refl)

-- a byte among the n from the start becomes FF
pub erased_byte_lem : (s : List ℕ) (start n j : ℕ) → start + n ≤ length s → start ≤ j → j < start + n → get_or (erased s start n) j 0 ≡ 255
erased_byte_lem s start n j l p q =
    rw (le-leb (start + n) (length s) l)
    (over_byte s (replicate n 255) start n (length-replicate n 255) l j p q ∙ get_or-replicate n (j - start) 255 0 (omega arith))

-- every other byte stays
pub erased_other : (s : List ℕ) (start n j : ℕ) → start + n ≤ length s → (start ≤ j → j < start + n → ⊥) → get_or (erased s start n) j 0 ≡ get_or s j 0
erased_other s start n j l out =
    rw (le-leb (start + n) (length s) l) (over_other s (replicate n 255) start n (length-replicate n 255) l j out)

pub erased_bytes : (s : List ℕ) (start n : ℕ) → start + n ≤ length s → ((i : ℕ) → get_or s i 0 < 256) → (j : ℕ) → get_or (erased s start n) j 0 < 256
erased_bytes s start n l b j =
    let P = get_or (erased s start n) j 0 < 256 in
    let stays : (start ≤ j → j < start + n → ⊥) → P = λ out. rw (erased_other s start n j l out) (b j) in
    by_order P start j
    (λ p. by_order P (start + n) j (λ q. stays (omega arith)) (λ q. rw (erased_byte_lem s start n j l p q) (lit< tt)))
    (λ p. stays (omega arith))

pub erased_worked : (erased (1 ∷ 2 ∷ 3 ∷ 4 ∷ []) 1 2 ≡ 1 ∷ 255 ∷ 255 ∷ 4 ∷ []) × (erased (1 ∷ 2 ∷ 3 ∷ 4 ∷ []) 2 2 ≡ 1 ∷ 2 ∷ 255 ∷ 255 ∷ [])
    × (erased (1 ∷ 2 ∷ 3 ∷ 4 ∷ []) 3 2 ≡ 1 ∷ 2 ∷ 3 ∷ 4 ∷ [])
erased_worked = (refl, refl, refl)

-- ---- what a cut leaves

-- an erase that is cut leaves scrap, from its first byte on; it has as many bytes as are erased, and they all lie inside
module _ (s : List ℕ) (start n : ℕ) (scrap : List ℕ) where
  pub scrapped_length : length (scrapped s start n scrap) ≡ length s
  scrapped_length =
      let P : List ℕ → Type 0 = λ t. length t ≡ length s in
      keep_by P (leb (start + n) (length s)) _ s
      (λ e. keep_by P (leb n (length scrap)) _ s
      (λ f. let l = leb-true (start + n) (length s) e in let m = leb-true n (length scrap) f in
      simp (length-append, length-take, length-drop) (omega arith)) (λ _. refl)) (λ _. refl)

  module _ (l : start + n ≤ length s) (m : n ≤ length scrap) where
    first : length (take n scrap) ≡ n
    first = simp length-take (omega arith)

    pub scrapped_byte : (j : ℕ) → start ≤ j → j < start + n → get_or (scrapped s start n scrap) j 0 ≡ get_or scrap (j - start) 0
    scrapped_byte j p q =
        rw (le-leb (start + n) (length s) l, le-leb n (length scrap) m)
        (over_byte s (take n scrap) start n first l j p q ∙ get_or-take n scrap (j - start) 0 (omega arith))

    -- every other byte stays
    pub scrapped_other : (j : ℕ) → (start ≤ j → j < start + n → ⊥) → get_or (scrapped s start n scrap) j 0 ≡ get_or s j 0
    scrapped_other j out =
        rw (le-leb (start + n) (length s) l, le-leb n (length scrap) m) (over_other s (take n scrap) start n first l j out)

-- what a program that is cut writes are bytes
pub spared_byte_lem : (v : ℕ) (scrap : List ℕ) → ((i : ℕ) → get_or scrap i 0 < 256) → (i : ℕ) → bit_or (v / 256 ^ i % 256) (get_or scrap i 0) < 256
spared_byte_lem v scrap b i = or_lt 8 (v / 256 ^ i % 256) (get_or scrap i 0) (mod-lt (v / 256 ^ i) (lit< tt)) (b i)

-- byte j of it: written OR scrap
pub sparing_byte : (n v : ℕ) (scrap : List ℕ) → ((i : ℕ) → get_or scrap i 0 < 256) → (j : ℕ) → j < n
    → sparing n v scrap / 256 ^ j % 256 ≡ bit_or (v / 256 ^ j % 256) (get_or scrap j 0)
sparing_byte n v scrap b j l =
    little_byte (λ i. bit_or (v / 256 ^ i % 256) (get_or scrap i 0)) (spared_byte_lem v scrap b) 0 n j l
    ∙ ap (λ (i : ℕ). bit_or (v / 256 ^ i % 256) (get_or scrap i 0)) (zero-add j)

pub scrapped_worked : (scrapped (1 ∷ 2 ∷ 3 ∷ 4 ∷ []) 1 2 (8 ∷ 9 ∷ 10 ∷ []) ≡ 1 ∷ 8 ∷ 9 ∷ 4 ∷ [])
    × (scrapped (1 ∷ 2 ∷ 3 ∷ 4 ∷ []) 2 2 (8 ∷ 9 ∷ []) ≡ 1 ∷ 2 ∷ 8 ∷ 9 ∷ []) × (scrapped (1 ∷ 2 ∷ 3 ∷ 4 ∷ []) 3 2 (8 ∷ 9 ∷ []) ≡ 1 ∷ 2 ∷ 3 ∷ 4 ∷ [])
    × (scrapped (1 ∷ 2 ∷ 3 ∷ 4 ∷ []) 1 2 (8 ∷ []) ≡ 1 ∷ 2 ∷ 3 ∷ 4 ∷ [])
scrapped_worked = (refl, refl, refl, refl)
