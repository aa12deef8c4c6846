-- What an access's area says of each of its bytes: the step's tests by the area are the plain tests of entries 7, 9, 11 and 13, byte by byte.
use mathlib.Core.Bool.{Bool, true, false, not, ◌&&◌, ◌||◌, true≢false, and-false, or-true, or-false}
use mathlib.Core.List.{[], ◌∷◌}
use mathlib.Core.Path.{◌≡◌, refl, sym, ap, ◌∙◌}
use Prim.Native.Nat.{ℕ, ◌+◌, ◌-◌, ◌*◌, ◌/◌, ◌%◌, ◌≤◌, ◌<◌}
use native.Mathlib.Nat.{mod-one}
use native.Mathlib.Omega.{arith}
use lib.Dec.{eqb, leb, ltb, lit≤}
use lib.ListN.{length}
use borrow.Author.Tests.{ne_eqb, leb-true, le-leb, lt-leb, ltb-true, ltb-false, lt-ltb, le-ltb, eqb-false}
use Rattle.cascade.proofs.Picks.{keep_by}
use Rattle.map.proofs.Forms.{eqb_same, both_left, both_right}
use Rattle.map.proofs.Laws.{Lies, area_is}
use Rattle.map.specs.Areas.{area_of}
use Rattle.map.specs.Sectors.{largest_main}
use Rattle.registers.specs.Fields.{register_at}
use Rattle.part.specs.Reads.{closed_read}
use Rattle.part.specs.Refusals.{misaligned}
use Rattle.part.specs.Rules.{is_in, among, in_main, in_otp, in_options, in_sram, any_byte, to_flash, to_sram, to_word, rdp_cell, mark_guards, closed_byte, crooked}
use Rattle.part.specs.Rules.{unmapped}
use Rattle.part.specs.State.{Part}
use Rattle.part.proofs.Entries.{Sized, same, any_none, any_one, any_all, level_2, guards_is, by_width}
use Rattle.part.proofs.RegisterBits.{by_order}
use Rattle.part.proofs.Stepped.{or_left, or_right, refute}
use Rattle.part.proofs.Types.{Area, Outside, Flash, Registers, Sram, Place, Main, OptionCells, Otp, System, SystemAndOtp, Cr, Optcr, Register, Access}
use Rattle.part.proofs.Types.register

-- ---- a byte among n, or not

pub among_in : (b base n : ℕ) → base ≤ b → b < base + n → among b base n ≡ true
among_in b base n low high = rw (le-leb base b low, lt-ltb b (base + n) high)

pub among_below : (b base n : ℕ) → b < base → among b base n ≡ false
among_below b base n h = rw (lt-leb base b h)

pub among_above : (b base n : ℕ) → base + n ≤ b → among b base n ≡ false
among_above b base n h = rw (le-ltb b (base + n) h) (and-false (leb base b))

pub among_out : (b base n : ℕ) → (base ≤ b → b < base + n → ⊥) → among b base n ≡ false
among_out b base n out =
    refute (among b base n) (λ e. out (leb-true base b (both_left (leb base b) _ e)) (ltb-true b (base + n) (both_right (leb base b) _ e)))

-- a register's word is one of six
pub by_register : (P : Register → Type 0) (address o : ℕ) → address ≡ 0x4002_3C00 + o → o < 24 → (address / 4 * 4 ≡ 0x4002_3C00 → P register.Acr)
    → (address / 4 * 4 ≡ 0x4002_3C04 → P (register.Key Cr)) → (address / 4 * 4 ≡ 0x4002_3C08 → P (register.Key Optcr))
    → (address / 4 * 4 ≡ 0x4002_3C0C → P register.Sr) → (address / 4 * 4 ≡ 0x4002_3C10 → P (register.Control Cr))
    → (address / 4 * 4 ≡ 0x4002_3C14 → P (register.Control Optcr)) → P (register_at o)
by_register P address o e h acr key optkey sr cr optcr =
    keep_by P (ltb o 4) _ _ (λ t. acr (let below = ltb-true o 4 t in omega arith))
    (λ a. let a = ltb-false o 4 a in keep_by P (ltb o 8) _ _ (λ t. key (let below = ltb-true o 8 t in omega arith))
    (λ b. let b = ltb-false o 8 b in keep_by P (ltb o 12) _ _ (λ t. optkey (let below = ltb-true o 12 t in omega arith))
    (λ c. let c = ltb-false o 12 c in keep_by P (ltb o 16) _ _ (λ t. sr (let below = ltb-true o 16 t in omega arith))
    (λ d. let d = ltb-false o 16 d in keep_by P (ltb o 20) _ _ (λ t. cr (let below = ltb-true o 20 t in omega arith))
    (λ f. let f = ltb-false o 20 f in optcr (omega arith))))))

pub wide : (a : Access) → Sized a → (1 ≤ a.width) × (a.width ≤ 8)
wide a = by_width (λ w. (1 ≤ w) × (w ≤ 8)) a.width (lit≤ tt, lit≤ tt) (lit≤ tt, lit≤ tt) (lit≤ tt, lit≤ tt) (lit≤ tt, lit≤ tt)

module _ (p : Part) (a : Access) (sizes : Sized a) (small : length p.main ≤ largest_main) where
  abbrev len : ℕ
  len = length p.main

  -- the area of the access says where its bytes lie
  pub lies : (x : Area) → area_of len a.address a.width ≡ x → Lies len a.address a.width x
  lies x = (area_is len a.address a.width small (wide a sizes).0 (wide a sizes).1 x).0

  -- byte i of the access
  abbrev at : ℕ → ℕ
  at i = a.address + i

  -- ---- entry 7
  pub cells_mapped : (x : Place) → Lies len a.address a.width (Flash x) → unmapped p a ≡ false
  cells_mapped (Main o) l = any_none _ a.width (λ i h. rw (among_in (at i) 0x0800_0000 len (omega arith) (omega arith)) refl)
  cells_mapped (System o) l = any_none _ a.width (λ i h. simp (among_in (at i) 0x1FFF_0000 0x7800 (omega arith) (omega arith), or-true))
  cells_mapped (Otp o) l = any_none _ a.width (λ i h. simp (among_in (at i) 0x1FFF_7800 528 (omega arith) (omega arith), or-true))
  cells_mapped (SystemAndOtp o) l =
      any_none _ a.width (λ i h. by_order _ 0x1FFF_7800 (at i)
      (λ high. simp (among_in (at i) 0x1FFF_7800 528 high (omega arith), or-true))
      (λ low. simp (among_in (at i) 0x1FFF_0000 0x7800 (omega arith) low, or-true)))
  cells_mapped (OptionCells o) l = any_none _ a.width (λ i h. simp (among_in (at i) 0x1FFF_C000 16 (omega arith) (omega arith), or-true))

  pub registers_mapped : (o : ℕ) → Lies len a.address a.width (Registers o) → unmapped p a ≡ false
  registers_mapped o l = any_none _ a.width (λ i h. simp (among_in (at i) 0x4002_3C00 24 (omega arith) (omega arith), or-true))

  pub sram_mapped : (o : ℕ) → Lies len a.address a.width (Sram o) → unmapped p a ≡ false
  sram_mapped o l = any_none _ a.width (λ i h. simp (among_in (at i) 0x4002_4000 4096 (omega arith) (omega arith), or-true))

  pub outside_unmapped : Lies len a.address a.width Outside → unmapped p a ≡ true
  outside_unmapped (i, h, (m, r, s, o, b)) =
      any_one _ a.width i h
      (rw (
        among_out (at i) 0x0800_0000 len m,
        among_out (at i) 0x1FFF_0000 0x7800 (λ x y. s x (omega arith)),
        among_out (at i) 0x1FFF_7800 528 (λ x y. s (omega arith) (omega arith)),
        among_out (at i) 0x1FFF_C000 16 o,
        among_out (at i) 0x4002_3C00 24 r,
        among_out (at i) 0x4002_4000 4096 b,
      ) refl)

  -- ---- flash cells, registers and SRAM by the address
  pub cells_low : (x : Place) → Lies len a.address a.width (Flash x) → a.address < 0x4002_3C00
  cells_low (Main o) l = omega arith
  cells_low (System o) l = let w = (wide a sizes).0 in omega arith
  cells_low (Otp o) l = let w = (wide a sizes).0 in omega arith
  cells_low (SystemAndOtp o) l = omega arith
  cells_low (OptionCells o) l = let w = (wide a sizes).0 in omega arith

  pub to_flash_lem : (x : Place) → Lies len a.address a.width (Flash x) → to_flash a ≡ true
  to_flash_lem x l = lt-ltb a.address 0x4002_3C00 (cells_low x l)

  pub to_registers : (o : ℕ) → Lies len a.address a.width (Registers o) → to_flash a ≡ false
  to_registers o l = le-ltb a.address 0x4002_3C00 (omega arith)

  pub cells_below : (x : Place) → Lies len a.address a.width (Flash x) → to_sram a ≡ false
  cells_below x l = lt-leb 0x4002_4000 a.address (omega (arith, cells_low x l))

  pub registers_below : (o : ℕ) → Lies len a.address a.width (Registers o) → to_sram a ≡ false
  registers_below o l = lt-leb 0x4002_4000 a.address (let w = (wide a sizes).0 in omega arith)

  pub to_sram_lem : (o : ℕ) → Lies len a.address a.width (Sram o) → (to_flash a ≡ false) × (to_sram a ≡ true)
  to_sram_lem o l = (le-ltb a.address 0x4002_3C00 (omega arith), le-leb 0x4002_4000 a.address (omega arith))

  -- a word of the registers is not that of an access to flash cells, nor of one to the SRAM
  pub no_word : (k : ℕ) → a.address < 0x4002_3C00 → 0x4002_3C00 ≤ k → to_word a k ≡ false
  no_word k h g = ne_eqb (a.address / 4 * 4) k (λ e. omega arith)

  pub word_below : (k : ℕ) → 0x4002_4000 ≤ a.address → k < 0x4002_4000 → to_word a k ≡ false
  word_below k h g = ne_eqb (a.address / 4 * 4) k (λ e. omega arith)

  -- ---- entry 13
  closed_none : (b : ℕ) → in_main p b ≡ false → in_otp b ≡ false → in_options b ≡ false → in_sram b ≡ false → closed_byte p b ≡ false
  closed_none b m o c s = rw (m, o, c, s) refl

  closed_main : (b : ℕ) → in_main p b ≡ true → in_options b ≡ false → closed_byte p b ≡ mark_guards p
  closed_main b m c = rw (m, c) (or-false (mark_guards p))

  closed_otp : (b : ℕ) → in_otp b ≡ true → in_options b ≡ false → closed_byte p b ≡ mark_guards p
  closed_otp b o c = rw (o, c, or-true (in_main p b)) (or-false (mark_guards p))

  closed_sram : (b : ℕ) → in_sram b ≡ true → in_options b ≡ false → closed_byte p b ≡ mark_guards p
  closed_sram b s c = rw (s, c, or-true (in_main p b || in_otp b)) (or-false (mark_guards p))

  pub sram_closed : (o : ℕ) → Lies len a.address a.width (Sram o) → any_byte (closed_byte p) a ≡ mark_guards p
  sram_closed o l =
      any_all _ a.width (mark_guards p) (wide a sizes).0 (λ i h.
      closed_sram (at i) (among_in (at i) 0x4002_4000 4096 (omega arith) (omega arith)) (among_above (at i) 0x1FFF_C000 16 (omega arith)))

  pub closed_is : (x : Place) → Lies len a.address a.width (Flash x) → closed_read p.rec.mark p.options x ≡ any_byte (closed_byte p) a
  closed_is (Main o) l =
      guards_is p
      ∙ sym (any_all _ a.width (mark_guards p) (wide a sizes).0 (λ i h.
      closed_main (at i) (among_in (at i) 0x0800_0000 len (omega arith) (omega arith)) (among_below (at i) 0x1FFF_C000 16 (omega arith))))
  closed_is (System o) l =
      sym (any_none _ a.width (λ i h. closed_none (at i)
      (among_above (at i) 0x0800_0000 len (omega arith)) (among_below (at i) 0x1FFF_7800 528 (omega arith)) (among_below (at i) 0x1FFF_C000 16 (omega arith))
      (among_below (at i) 0x4002_4000 4096 (omega arith))))
  closed_is (Otp o) l =
      guards_is p
      ∙ sym (any_all _ a.width (mark_guards p) (wide a sizes).0 (λ i h.
      closed_otp (at i) (among_in (at i) 0x1FFF_7800 528 (omega arith) (omega arith)) (among_below (at i) 0x1FFF_C000 16 (omega arith))))
  closed_is (SystemAndOtp o) l = guards_is p ∙ sym (by (mark_guards p) refl)
    where
      bytes : (i : ℕ) → i < a.width → mark_guards p ≡ false → closed_byte p (at i) ≡ false
      bytes i h g =
          rw (g, among_below (at i) 0x1FFF_C000 16 (omega arith), and-false (in_main p (at i) || in_otp (at i) || in_sram (at i))) refl

      by : (g : Bool) → mark_guards p ≡ g → any_byte (closed_byte p) a ≡ g
      by true q =
          any_one _ a.width (a.width - 1) (omega arith)
          (closed_otp (at (a.width - 1)) (among_in (at (a.width - 1)) 0x1FFF_7800 528 (omega arith) (omega arith))
          (among_below (at (a.width - 1)) 0x1FFF_C000 16 (omega arith)) ∙ q)
      by false q = any_none _ a.width (λ i h. bytes i h q)
  closed_is (OptionCells o) l =
      level_2 p.options
      ∙ sym (any_all _ a.width (eqb (rdp_cell p) 0xCC) (wide a sizes).0 (λ i h.
      rw (
        among_in (at i) 0x1FFF_C000 16 (omega arith) (omega arith),
        among_above (at i) 0x0800_0000 len (omega arith),
        among_above (at i) 0x1FFF_7800 528 (omega arith),
        among_below (at i) 0x4002_4000 4096 (omega arith),
      ) refl))

  pub registers_open : (o : ℕ) → Lies len a.address a.width (Registers o) → any_byte (closed_byte p) a ≡ false
  registers_open o l =
      any_none _ a.width (λ i h. closed_none (at i)
      (among_above (at i) 0x0800_0000 len (omega arith)) (among_above (at i) 0x1FFF_7800 528 (omega arith))
      (among_above (at i) 0x1FFF_C000 16 (omega arith)) (among_below (at i) 0x4002_4000 4096 (omega arith)))

  -- ---- entry 9
  -- an aligned access starts at a multiple of its width
  aligned_is : (o w : ℕ) → a.address ≡ 0x4002_3C00 + o → is_in w (1 ∷ 2 ∷ 4 ∷ 8 ∷ []) ≡ true
      → ((eqb w 2 && not (eqb (o % 2) 0)) || (eqb w 4 && not (eqb (o % 4) 0)) || eqb w 8) ≡ (not (eqb (a.address % w) 0) || eqb w 8)
  aligned_is o w e s =
      by_width (λ w. ((eqb w 2 && not (eqb (o % 2) 0)) || (eqb w 4 && not (eqb (o % 4) 0)) || eqb w 8) ≡ (not (eqb (a.address % w) 0) || eqb w 8)) w
      (rw (mod-one a.address))
      (ap (λ (b : Bool). not b || false || false) (eqb_same (o % 2) 0 (a.address % 2) 0 (λ z. omega arith) (λ z. omega arith)) ∙ simp or-false)
      (ap (λ (b : Bool). not b || false) (eqb_same (o % 4) 0 (a.address % 4) 0 (λ z. omega arith) (λ z. omega arith)))
      (sym (or-true (not (eqb (a.address % 8) 0)))) s

  -- KEYR and OPTKEYR, by the offset and by the word
  keys_are : (o : ℕ) → a.address ≡ 0x4002_3C00 + o → among o 4 8 ≡ (to_word a 0x4002_3C04 || to_word a 0x4002_3C08)
  keys_are o e =
      same (among o 4 8) (to_word a 0x4002_3C04 || to_word a 0x4002_3C08)
      (λ f. rw (
        ne_eqb (a.address / 4 * 4) 0x4002_3C04 (λ z. true≢false (sym (among_in o 4 8 (omega arith) (omega arith)) ∙ f)),
        ne_eqb (a.address / 4 * 4) 0x4002_3C08 (λ z. true≢false (sym (among_in o 4 8 (omega arith) (omega arith)) ∙ f)),
      ) refl)
      (λ f. let first = eqb-false (a.address / 4 * 4) 0x4002_3C04 (or_left (to_word a 0x4002_3C04) (to_word a 0x4002_3C08) f) in
      let second = eqb-false (a.address / 4 * 4) 0x4002_3C08 (or_right (to_word a 0x4002_3C04) (to_word a 0x4002_3C08) f) in
      among_out o 4 8 (λ low high. by_order ⊥ 8 o (λ g. second (omega arith)) (λ g. first (omega arith))))

  pub misaligned_is : (o : ℕ) → Lies len a.address a.width (Registers o) → misaligned o a.width ≡ crooked a
  misaligned_is o l = rw (to_registers o l, registers_below o l, ← aligned_is o a.width l.0 sizes, ← keys_are o l.0) refl

  pub cells_straight : (x : Place) → Lies len a.address a.width (Flash x) → crooked a ≡ false
  cells_straight x l = rw (to_flash_lem x l) refl

  pub sram_straight : (o : ℕ) → Lies len a.address a.width (Sram o) → crooked a ≡ false
  sram_straight o l = rw ((to_sram_lem o l).0, (to_sram_lem o l).1) refl
