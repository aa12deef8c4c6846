-- What each register reads, and what the option cells hold, bit by bit and byte by byte: the operations on words work on each bit apart,
-- and a mask's 32 bits are tried one by one.
use mathlib.Core.Bool.{Bool, true, false, not, cond, ◌&&◌, ◌||◌, beq, true≢false, and-false, and-true, and_comm, or-false, or_assoc}
use mathlib.Core.List.{List, [], ◌∷◌}
use mathlib.Core.Logic.{◌↔◌}
use mathlib.Core.Path.{◌≡◌, refl, sym, ap, ap₂, ◌∙◌}
use Prim.Native.Nat.{ℕ, ◌+◌, ◌-◌, ◌*◌, ◌/◌, ◌%◌, ◌^◌, ◌≤◌, ◌<◌}
use native.Mathlib.Nat.{lt_of_le_of_lt, mod-lt, zero-div, div-eq_of_lt, lt_of_lt_of_le}
use native.Mathlib.Omega.{arith}
use lib.Bits.{bit_and, bit_or, or_lt, and_le_r, and_block, or_block, and_mask, or_shifted_r, or_zero_r, and_zero_r}
use lib.Dec.{eqb, leb, ltb, lit<}
use lib.ListN.{length, get_or, set, replicate, length-set, length-replicate, get_or-replicate}
use lib.Pow.{mod-mod-pow, pow_mono, shr-shr, split}
use lib.Seq.{get_or-set_same, get_or-set_other}
use borrow.Author.Tests.{leb-true, leb-false, eqb-true, eqb-false, le-leb, lt-leb, lt-ltb, le-ltb}
use Rattle.cascade.proofs.Picks.{keep, keep_by}
use Rattle.lock.specs.Keys.{is_open, state_open}
use Rattle.registers.proofs.Laws.{a_field, bit_and_lem, bit_or_lem}
use Rattle.registers.proofs.Runs.{low_run, shifted_run, shifted_run_below}
use Rattle.registers.specs.Fields.{acr_bits, sr_flags, cr_fields, optcr_fields, BSY, LOCK, STRT, OPTLOCK, OPTSTRT}
use Rattle.registers.specs.Words.{field, shl32}
use Rattle.registers.specs.declared.Register.TheVariants.{Acr, Sr, Key, Control}
use Rattle.part.specs.Effects.{Loads, changed_byte, loaded_bit}
use Rattle.part.specs.Options.{user_of, rdp_of, nwrp_of, level_of, loaded_optcr, changed_options}
use Rattle.part.specs.Registers.{erases, changes_options, strt, optstrt, sr_of, cr_of, optcr_of, register_of}
use Rattle.part.specs.Rules.{bit, any_below, is_in, among}
use Rattle.part.specs.State.{is_busy, fresh}
use Rattle.part.proofs.Entries.{any_each}
use Rattle.part.proofs.Types.{Running, LockState, Open, Closed, HalfOpen, Dead, Cr, Optcr, Register, Option, None, Some, Record, Target}
use Rattle.part.proofs.Types.target

-- ---- bits of masks

-- two tests that differ nowhere below n, tried one by one
pub agree_below : (s t : ℕ → Bool) (n : ℕ) → any_below (λ k. not (beq (s k) (t k))) n ≡ false → (k : ℕ) → k < n → s k ≡ t k
agree_below s t n e k h = equal (s k) (t k) (any_each (λ k. not (beq (s k) (t k))) n e k h)
  where
    equal : (a b : Bool) → not (beq a b) ≡ false → a ≡ b
    equal true true e = refl
    equal true false e = absurd (true≢false e)
    equal false true e = absurd (true≢false e)
    equal false false e = refl

-- the mask's bits are those that pass the test
abbrev pub Masks : ℕ → (ℕ → Bool) → Type 0
Masks m t = any_below (λ k. not (beq (bit m k) (t k))) 32 ≡ false

-- ---- what the registers read

-- a lock is open in one state of four
abbrev pub is_open_at : LockState → Bool
is_open_at Open = true
is_open_at Closed = false
is_open_at HalfOpen = false
is_open_at Dead = false

open_is : (l : LockState) → state_open l ≡ is_open_at l
open_is Open = refl
open_is Closed = refl
open_is HalfOpen = refl
open_is Dead = refl

-- what an erase has for a target, of a sector or of all; what changes option cells, an option change or a regression
abbrev pub of_sectors : Target → Bool
of_sectors (target.Bytes w) = false
of_sectors (target.Sector k) = true
of_sectors (target.Main len) = true
of_sectors target.Options = false
of_sectors (target.Regression len option) = false

abbrev pub of_options : Target → Bool
of_options (target.Bytes w) = false
of_options (target.Sector k) = false
of_options (target.Main len) = false
of_options target.Options = true
of_options (target.Regression len option) = true

kind_is : (t : Target) → (erases t ≡ of_sectors t) × (changes_options t ≡ of_options t)
kind_is (target.Bytes w) = (refl, refl)
kind_is (target.Sector k) = (refl, refl)
kind_is (target.Main len) = (refl, refl)
kind_is target.Options = (refl, refl)
kind_is (target.Regression len option) = (refl, refl)

-- an operation of that kind runs
abbrev pub runs : (Target → Bool) → Option Running → Bool
runs kind None = false
runs kind (Some running) = kind running.target

started_is : (op : Option Running) → (strt op ≡ runs of_sectors op) × (optstrt op ≡ runs of_options op)
started_is None = (refl, refl)
started_is (Some running) = kind_is running.target

module _ (k : ℕ) (h : k < 32) where
  -- a register's fields
  pub of_fields : (x m : ℕ) (t : ℕ → Bool) → Masks m t → bit (bit_and x m) k ≡ (bit x k && t k)
  of_fields x m t e = bit_and_lem x m k ∙ ap (λ (b : Bool). bit x k && b) (agree_below (bit m) t 32 e k h)

  -- a bit that stands exactly while b holds
  pub of_flag : (b : Bool) (m : ℕ) (t : ℕ → Bool) → Masks m t → bit (cond b m 0) k ≡ (t k && b)
  of_flag true m t e = agree_below (bit m) t 32 e k h ∙ sym (and-true (t k))
  of_flag false m t e = rw (zero-div (2 ^ k)) (sym (and-false (t k)))

  -- a bit that stands exactly while b does not
  of_no_flag : (b : Bool) (m : ℕ) (t : ℕ → Bool) → Masks m t → bit (cond b 0 m) k ≡ (t k && not b)
  of_no_flag true m t e = of_flag false m t e
  of_no_flag false m t e = of_flag true m t e

  -- a register of fields, a lock bit and a start bit
  of_three : (x m lock start : ℕ) (opened runs : Bool) (t u v : ℕ → Bool) → Masks m t → Masks lock u → Masks start v
      → bit (bit_or (bit_and x m) (bit_or (cond opened 0 lock) (cond runs start 0))) k ≡ ((bit x k && t k) || (u k && not opened) || (v k && runs))
  of_three x m lock start opened runs t u v e f g =
      rw (bit_or_lem (bit_and x m) (bit_or (cond opened 0 lock) (cond runs start 0)) k, bit_or_lem (cond opened 0 lock) (cond runs start 0) k)
      (rw (of_fields x m t e, of_no_flag opened lock u f, of_flag runs start v g) (simp or_assoc))

  -- SR: flags in bits 7 to 4, 1 and 0, and BSY, bit 16, while something runs
  pub sr_bits : (r : Record) → bit (sr_of r) k ≡ ((bit r.sr k && is_in k (0 ∷ 1 ∷ 4 ∷ 5 ∷ 6 ∷ 7 ∷ [])) || (eqb k 16 && is_busy r.op))
  sr_bits r =
      rw (bit_or_lem (bit_and r.sr sr_flags) (cond (is_busy r.op) BSY 0) k, of_flag (is_busy r.op) BSY (λ k. eqb k 16) refl)
      (rw (of_fields r.sr sr_flags (λ k. is_in k (0 ∷ 1 ∷ 4 ∷ 5 ∷ 6 ∷ 7 ∷ [])) refl))

  -- CR: fields in bits 6 to 0, 9, 8, 25 and 24; LOCK, bit 31, while the lock is not open; STRT, bit 16, while an erase runs
  pub cr_bits : (r : Record)
      → bit (cr_of r) k
      ≡ ((bit r.cr k && (ltb k 7 || eqb k 8 || eqb k 9 || eqb k 24 || eqb k 25)) || (eqb k 31 && not (is_open_at r.lock.state))
      || (eqb k 16 && runs of_sectors r.op))
  cr_bits r =
      rw (← open_is r.lock.state, ← (started_is r.op).0)
      (of_three r.cr cr_fields LOCK STRT (is_open r.lock) (strt r.op) (λ k. ltb k 7 || eqb k 8 || eqb k 9 || eqb k 24 || eqb k 25)
      (λ k. eqb k 31) (λ k. eqb k 16) refl refl refl)

  -- OPTCR: fields in bits 27 to 5, 3 and 2; OPTLOCK, bit 0, while the lock is not open; OPTSTRT, bit 1, while option cells are to change
  pub optcr_bits : (r : Record)
      → bit (optcr_of r) k
      ≡ ((bit r.optcr k && (eqb k 2 || eqb k 3 || (leb 5 k && ltb k 28))) || (eqb k 0 && not (is_open_at r.optlock.state))
      || (eqb k 1 && runs of_options r.op))
  optcr_bits r =
      rw (← open_is r.optlock.state, ← (started_is r.op).1)
      (of_three r.optcr optcr_fields OPTLOCK OPTSTRT (is_open r.optlock) (optstrt r.op) (λ k. eqb k 2 || eqb k 3 || (leb 5 k && ltb k 28))
      (λ k. eqb k 0) (λ k. eqb k 1) refl refl refl)

  -- ACR: bits 12 to 8 and 2 to 0
  pub acr_bits_lem : (r : Record) → bit (register_of r Acr) k ≡ (bit r.acr k && (ltb k 3 || (leb 8 k && ltb k 13)))
  acr_bits_lem r = of_fields r.acr acr_bits (λ k. ltb k 3 || (leb 8 k && ltb k 13)) refl

-- LOCK and OPTLOCK read 1 exactly where their lock is not open
pub lock_bits : (r : Record) → (bit (cr_of r) 31 ≡ not (is_open r.lock)) × (bit (optcr_of r) 0 ≡ not (is_open r.optlock))
lock_bits r = (
  cr_bits 31 (lit< tt) r ∙ rw (and-false (bit r.cr 31), ← open_is r.lock.state) (or-false (not (is_open r.lock))),
  optcr_bits 0 (lit< tt) r ∙ rw (and-false (bit r.optcr 0), ← open_is r.optlock.state) (or-false (not (is_open r.optlock))),
)

masked_small : (x m : ℕ) → m < 2 ^ 32 → bit_and x m < 2 ^ 32
masked_small x m h = lt_of_le_of_lt (and_le_r x m) h

flag_small : (b : Bool) (m n : ℕ) → m < 2 ^ 32 → n < 2 ^ 32 → cond b m n < 2 ^ 32
flag_small b m n h l = keep (λ (z : ℕ). z < 2 ^ 32) b m n h l

three_small : (x m lock start : ℕ) (opened runs : Bool) → m < 2 ^ 32 → lock < 2 ^ 32 → start < 2 ^ 32
    → bit_or (bit_and x m) (bit_or (cond opened 0 lock) (cond runs start 0)) < 2 ^ 32
three_small x m lock start opened runs e f g =
    or_lt 32 (bit_and x m) (bit_or (cond opened 0 lock) (cond runs start 0)) (masked_small x m e)
    (or_lt 32 (cond opened 0 lock) (cond runs start 0) (flag_small opened 0 lock (lit< tt) f) (flag_small runs start 0 g (lit< tt)))

-- each register reads below 2 ^ 32
pub register_small : (r : Record) (x : Register) → register_of r x < 2 ^ 32
register_small r Acr = masked_small r.acr acr_bits (lit< tt)
register_small r Sr =
    or_lt 32 (bit_and r.sr sr_flags) (cond (is_busy r.op) BSY 0) (masked_small r.sr sr_flags (lit< tt))
    (flag_small (is_busy r.op) BSY 0 (lit< tt) (lit< tt))
register_small r (Key which) = lit< tt
register_small r (Control Cr) = three_small r.cr cr_fields LOCK STRT (is_open r.lock) (strt r.op) (lit< tt) (lit< tt) (lit< tt)
register_small r (Control Optcr) =
    three_small r.optcr optcr_fields OPTLOCK OPTSTRT (is_open r.optlock) (optstrt r.op) (lit< tt) (lit< tt) (lit< tt)

-- ---- the level

abbrev Levels : ℕ → ℕ → Type 0
Levels rdp n = ((n ≡ 0) ↔ (rdp ≡ 0xAA)) × ((n ≡ 2) ↔ (rdp ≡ 0xCC)) × ((n ≡ 1) ↔ ((rdp ≡ 0xAA → ⊥) × (rdp ≡ 0xCC → ⊥)))

-- RDP AA is level 0, CC is 2, all else 1
pub level_is : (options : List ℕ)
    → ((level_of options ≡ 0) ↔ (get_or options 1 0 ≡ 0xAA)) × ((level_of options ≡ 2) ↔ (get_or options 1 0 ≡ 0xCC))
    × ((level_of options ≡ 1) ↔ ((get_or options 1 0 ≡ 0xAA → ⊥) × (get_or options 1 0 ≡ 0xCC → ⊥)))
level_is options =
    let rdp = get_or options 1 0 in
    keep_by (Levels rdp) (eqb rdp 0xAA) 0 (cond (eqb rdp 0xCC) 2 1) (λ a. let e = eqb-true rdp 0xAA a in omega arith)
    (λ a. keep_by (Levels rdp) (eqb rdp 0xCC) 2 1 (λ c. let e = eqb-true rdp 0xCC c in omega arith)
    (λ c. let e = eqb-false rdp 0xAA a in let f = eqb-false rdp 0xCC c in omega arith))

-- ---- OPTCR as it loads

-- two numbers compare one way or the other
pub by_order : (P : Type 0) (a b : ℕ) → (a ≤ b → P) → (b < a → P) → P
by_order P a b f g = keep_by (λ (x : Bool). P) (leb a b) true true (λ e. f (leb-true a b e)) (λ e. g (leb-false a b e))

-- a word shifted up by n
shifted_bit : (x n k : ℕ) → k < 32 → bit (shl32 x n) k ≡ (leb n k && bit x (k - n))
shifted_bit x n k h =
    ap (λ (z : ℕ). eqb z 1) (low_run (x * 2 ^ n) 32 k 1 (omega arith))
    ∙ by_order (bit (x * 2 ^ n) k ≡ (leb n k && bit x (k - n))) n k
    (λ l. rw (le-leb n k l) (ap (λ (z : ℕ). eqb z 1) (shifted_run x n k 1 l)))
    (λ l. rw (lt-leb n k l) (ap (λ (z : ℕ). eqb z 1) (shifted_run_below x n k 1 (omega arith))))

-- a byte has 8 bits
byte_bit : (x k : ℕ) → x < 256 → 8 ≤ k → bit x k ≡ false
byte_bit x k h l = rw (div-eq_of_lt (lt_of_lt_of_le h (pow_mono {i = 8} l)))

-- two bytes, the lower first
pub two_bytes : (a b k : ℕ) → a < 256 → bit (a + 256 * b) k ≡ cond (ltb k 8) (bit a k) (bit b (k - 8))
two_bytes a b k h =
    by_order (bit (a + 256 * b) k ≡ cond (ltb k 8) (bit a k) (bit b (k - 8))) 8 k
    (λ l. rw (le-ltb k 8 l)
    (ap (λ (z : ℕ). eqb (z % 2) 1)
    (ap (λ (n : ℕ). (a + 256 * b) / 2 ^ n) (omega arith) ∙ sym (shr-shr (a + 256 * b) 8 (k - 8)) ∙ ap (λ (z : ℕ). z / 2 ^ (k - 8)) (omega arith))))
    (λ l. rw (lt-ltb k 8 l)
    (ap (λ (z : ℕ). eqb z 1) (sym (low_run (a + 256 * b) 8 k 1 (omega arith)) ∙ ap (λ (z : ℕ). z / 2 ^ k % 2) (omega arith))))

-- the bits of RDP, and those of nWRP
rdp_bits : (x k : ℕ) → x < 256 → (leb 8 k && bit x (k - 8)) ≡ (among k 8 8 && bit x (k - 8))
rdp_bits x k h =
    by_order ((leb 8 k && bit x (k - 8)) ≡ (among k 8 8 && bit x (k - 8))) 16 k
    (λ l. rw (byte_bit x (k - 8) h (omega arith)) (and-false (leb 8 k) ∙ sym (and-false (among k 8 8))))
    (λ l. rw (lt-ltb k 16 l, and-true (leb 8 k)))

nwrp_bits : (a b k : ℕ) → a < 256 → k < 32
    → (leb 16 k && bit (bit_and (a + 256 * b) 0xFFF) (k - 16)) ≡ ((among k 16 8 && bit a (k - 16)) || (among k 24 4 && bit b (k - 24)))
nwrp_bits a b k h small =
    let G = (leb 16 k && bit (bit_and (a + 256 * b) 0xFFF) (k - 16)) ≡ ((among k 16 8 && bit a (k - 16)) || (among k 24 4 && bit b (k - 24))) in
    let j = k - 16 in
    let bits : bit (bit_and (a + 256 * b) 0xFFF) j ≡ (cond (ltb j 8) (bit a j) (bit b (j - 8)) && ltb j 12) =
    of_fields j (omega arith) (a + 256 * b) 0xFFF (λ k. ltb k 12) refl ∙ ap (λ (t : Bool). t && ltb j 12) (two_bytes a b j h) in
    by_order G 16 k
    (λ l. rw (bits, le-leb 16 k l)
    (by_order (cond (ltb j 8) (bit a j) (bit b (j - 8)) && ltb j 12 ≡ ((ltb k 24 && bit a j) || (among k 24 4 && bit b (k - 24)))) 24 k
    (λ m.
    let e : j - 8 ≡ k - 24 = omega arith in
    let same : ltb j 12 ≡ ltb k 28 =
    by_order (ltb j 12 ≡ ltb k 28) 28 k (λ n. le-ltb j 12 (omega arith) ∙ sym (le-ltb k 28 n)) (λ n. lt-ltb j 12 (omega arith) ∙ sym (lt-ltb k 28 n)) in
    rw (le-ltb j 8 (omega arith), le-ltb k 24 m, le-leb 24 k m, e, same) (and_comm (bit b (k - 24)) (ltb k 28)))
    (λ m. rw (lt-ltb j 8 (omega arith), lt-ltb j 12 (omega arith), lt-ltb k 24 m, lt-leb 24 k m) (and-true (bit a j) ∙ sym (or-false (bit a j))))))
    (λ l. rw (lt-leb 16 k l, lt-leb 24 k (omega arith)))

module _ (options : List ℕ) (bytes : (i : ℕ) → get_or options i 0 < 256) where
  -- OPTCR's fields load from the option cells
  pub loaded_bits : (k : ℕ) → k < 32 → bit (loaded_optcr options) k ≡ loaded_bit options k
  loaded_bits k h =
      let user = get_or options 0 0 in
      let rdp = get_or options 1 0 in
      let low = get_or options 8 0 in
      let high = get_or options 9 0 in
      let nwrp = bit_and (low + 256 * high) 0xFFF in
      rw (
        bit_or_lem (bit_and user 0xEC) (bit_or (shl32 rdp 8) (shl32 nwrp 16)) k,
        of_fields k h user 0xEC (λ k. is_in k (2 ∷ 3 ∷ 5 ∷ 6 ∷ 7 ∷ [])) refl,
        bit_or_lem (shl32 rdp 8) (shl32 nwrp 16) k,
        shifted_bit rdp 8 k h ∙ rdp_bits rdp k (bytes 1),
        shifted_bit nwrp 16 k h ∙ nwrp_bits low high k (bytes 8) h,
      )
      (simp or_assoc)

  -- and there is nothing above them
  pub loaded : Loads options (loaded_optcr options)
  loaded =
      record {
        bits = loaded_bits;
        small =
            or_lt 32 (bit_and (user_of options) 0xEC) (bit_or (shl32 (rdp_of options) 8) (shl32 (bit_and (nwrp_of options) 0xFFF) 16))
            (masked_small (user_of options) 0xEC (lit< tt))
            (or_lt 32 (shl32 (rdp_of options) 8) (shl32 (bit_and (nwrp_of options) 0xFFF) 16) (mod-lt (rdp_of options * 2 ^ 8) (lit< tt))
            (mod-lt (bit_and (nwrp_of options) 0xFFF * 2 ^ 16) (lit< tt)));
      }

-- ---- the option cells after a change

-- one byte is put in
pub set_byte : (l : List ℕ) (i a j : ℕ) → i < length l → get_or (set l i a) j 0 ≡ cond (eqb j i) a (get_or l j 0)
set_byte l i a j h =
    keep_by (λ (z : ℕ). get_or (set l i a) j 0 ≡ z) (eqb j i) a (get_or l j 0) (λ e. rw (eqb-true j i e) (get_or-set_same l i a 0 h))
    (λ e. get_or-set_other l i j a 0 (eqb-false j i e))

-- USER takes bits 7 to 5, 3 and 2; its other bits are 1
user_byte : (x : ℕ) → bit_or (bit_and x 0xEC) 0x13 ≡ 0x13 + 4 * (x / 4 % 4) + 32 * (x / 32 % 8)
user_byte x =
    let y = x / 4 in
    let masked : bit_and x 0xEC ≡ (y / 8 % 8 * 8 + y % 8 % 4) * 4 + 0 =
    ap (λ (z : ℕ). bit_and z 0xEC) (sym (split x 2)) ∙ and_block 2 y 59 (x % 4) 0 (mod-lt x (lit< tt)) (lit< tt)
    ∙ ap₂ (λ (a b : ℕ). a * 4 + b) (ap (λ (z : ℕ). bit_and z 59) (sym (split y 3)) ∙ and_block 3 (y / 8) 7 (y % 8) 3 (mod-lt y (lit< tt)) (lit< tt)
    ∙ ap₂ (λ (a b : ℕ). a * 8 + b) (and_mask (y / 8) 3) (and_mask (y % 8) 2)) (and_zero_r (x % 4)) in
    ap (λ (z : ℕ). bit_or z 0x13) masked ∙ or_block 2 (y / 8 % 8 * 8 + y % 8 % 4) 4 0 3 (lit< tt) (lit< tt)
    ∙ ap (λ (a : ℕ). a * 4 + 3) (or_block 3 (y / 8 % 8) 0 (y % 8 % 4) 4 (omega arith) (lit< tt)
    ∙ ap₂ (λ (a b : ℕ). a * 8 + b) (or_zero_r (y / 8 % 8)) (or_shifted_r 1 2 (y % 8 % 4) (mod-lt (y % 8) (lit< tt))))
    ∙ rw (shr-shr x 2 3, mod-mod-pow y 1 2) (omega arith)

-- a change keeps the number of option cells
pub changed_length : (options : List ℕ) (optcr : ℕ) → length (changed_options options optcr) ≡ length options
changed_length options optcr = simp (length-set, length-replicate)

-- a change sets every option byte, from OPTCR alone
pub changed_bytes : (options : List ℕ) (optcr i : ℕ) → length options ≡ 16 → i < 16 → get_or (changed_options options optcr) i 0 ≡ changed_byte optcr i
changed_bytes options optcr i sixteen h =
    let blank = replicate {A = ℕ} (length options) 255 in
    let user = set blank 0 (bit_or (bit_and optcr 0xEC) 0x13) in
    let rdp = set user 1 (field optcr 8 8) in
    let low = set rdp 8 (field optcr 16 8) in
    set_byte low 9 (bit_or (field optcr 24 4) 0xF0) i (simp (length-set, length-replicate, sixteen) (lit< tt))
    ∙ ap₂ (cond (eqb i 9)) (ap (λ (z : ℕ). bit_or z 0xF0) (a_field optcr 24 4) ∙ or_shifted_r 15 4 (optcr / 2 ^ 24 % 16) (mod-lt (optcr / 2 ^ 24) (lit< tt)))
    (set_byte rdp 8 (field optcr 16 8) i (simp (length-set, length-replicate, sixteen) (lit< tt))
    ∙ ap₂ (cond (eqb i 8)) (a_field optcr 16 8)
    (set_byte user 1 (field optcr 8 8) i (simp (length-set, length-replicate, sixteen) (lit< tt))
    ∙ ap₂ (cond (eqb i 1)) (a_field optcr 8 8)
    (set_byte blank 0 (bit_or (bit_and optcr 0xEC) 0x13) i (simp (length-replicate, sixteen) (lit< tt))
    ∙ ap₂ (cond (eqb i 0)) (user_byte optcr) (get_or-replicate (length options) i 255 0 (rw sixteen h)))))

-- each is a byte
pub changed_small : (optcr i : ℕ) → changed_byte optcr i < 256
changed_small optcr i =
    let P : ℕ → Type 0 = λ n. n < 256 in
    keep P (eqb i 9) _ _ (omega arith) (keep P (eqb i 8) _ _ (omega arith) (keep P (eqb i 1) _ _ (omega arith) (keep P (eqb i 0) _ _ (omega arith) (lit< tt))))

-- a fresh record has no power, no debugger, no mark, nothing running, and every register reads 0
pub fresh_reads : (fresh.power ≡ false) × (fresh.debugger ≡ false) × (fresh.mark ≡ false) × (fresh.op ≡ None)
    × (register_of fresh Acr ≡ 0) × (sr_of fresh ≡ 0) × (cr_of fresh ≡ 0) × (optcr_of fresh ≡ 0)
fresh_reads = (refl, refl, refl, refl, refl, refl, refl, refl)
