-- The flags of the step are those of document 01's rules: bit for bit in CR, and byte for byte of the access, whose bytes lie in one sector or
-- block where no row is crossed.
use mathlib.Core.Bool.{Bool, true, false, not, cond, ◌&&◌, ◌||◌, and-false, or-false}
use mathlib.Core.Path.{◌≡◌, refl, sym, ap, ◌∙◌}
use Prim.Native.Nat.{ℕ, ◌+◌, ◌-◌, ◌/◌, ◌%◌, ◌^◌, ◌≤◌, ◌<◌, zero, suc}
use native.Mathlib.Nat.{add-zero}
use native.Mathlib.Omega.{arith}
use lib.Dec.{eqb, leb, ltb}
use lib.ListN.{length, get_or}
use borrow.Author.Tests.{eqb-true, eqb-false, eq-eqb, ne_eqb, le-leb, lt-leb, ltb-false, le-ltb, not-true, not-false}
use Rattle.map.proofs.Laws.{Lies, row_is, row_sector, row_block, sectors_most}
use Rattle.map.specs.Areas.{crosses_row}
use Rattle.map.specs.Protection.{protected_by, any_protected, block_locked}
use Rattle.map.specs.Sectors.{sectors_in, sector_of, largest_main}
use Rattle.registers.proofs.Laws.{a_field, a_bit}
use Rattle.registers.specs.Fields.{STRT}
use Rattle.registers.specs.Words.{is_set}
use Rattle.part.specs.Options.{nwrp_of}
use Rattle.part.specs.Refusals.{guarded}
use Rattle.part.specs.Rules.{bit, any_below, is_in, among, in_system, in_options, any_byte, mark_guards, nwrp_bit, present, main_lengths, protected_byte, cell_flag}
use Rattle.part.specs.Rules.{cr_flag}
use Rattle.part.specs.State.{Part}
use Rattle.part.specs.Writes.{program_flag, erase_flag}
use Rattle.part.proofs.Bytes.{among_in, among_below, among_above, wide}
use Rattle.part.proofs.Entries.{Sized, same, onward, any_none, any_each, any_one, any_all, guards_is, present_is}
use Rattle.part.proofs.RegisterBits.{two_bytes, by_order}
use Rattle.part.proofs.Stepped.{and_false_right}
use Rattle.part.proofs.Types.{Flash, Main, Otp, Access, Option, None, Some}

-- a bit is 0 exactly where it is not 1
zero_bit : (x : ℕ) → eqb (x % 2) 0 ≡ not (eqb (x % 2) 1)
zero_bit x =
    same (eqb (x % 2) 0) (not (eqb (x % 2) 1))
    (λ e. ap not (eq-eqb (x % 2) 1 (let z = eqb-false (x % 2) 0 e in omega arith)))
    (λ e. ne_eqb (x % 2) 0 (λ z. let o = eqb-true (x % 2) 1 (not-false _ e) in omega arith))

module _ (p : Part) (byte8 : get_or p.options 8 0 < 256) where
  -- nWRP bit by bit
  pub protected_bit : (k : ℕ) → protected_by (nwrp_of p.options) k ≡ not (nwrp_bit p k)
  protected_bit k = zero_bit (nwrp_of p.options / 2 ^ k) ∙ ap not (two_bytes (get_or p.options 8 0) (get_or p.options 9 0) k byte8)

  -- a mass erase looks at the sectors that are present
  pub any_protected_is : is_in (length p.main) main_lengths ≡ true
      → any_protected (nwrp_of p.options) (sectors_in (length p.main)) ≡ any_below (λ k. present p k && not (nwrp_bit p k)) 12
  any_protected_is fits =
      let n = sectors_in (length p.main) in
      let nwrp = nwrp_of p.options in
      let here : (k : ℕ) → leb n k ≡ not (present p k) = λ k. present_is (length p.main) k fits in
      any_is nwrp n ∙ same (any_below (protected_by nwrp) n) (any_below (λ k. present p k && not (nwrp_bit p k)) 12)
      -- a sector that is absent doesn't count, and one that is present is not protected
      (λ e. any_none _ 12 (λ k h. by_order ((present p k && not (nwrp_bit p k)) ≡ false) n k
      (λ l. rw (not-true (present p k) (sym (here k) ∙ le-leb n k l)) refl)
      (λ l. rw (sym (protected_bit k) ∙ any_each (protected_by nwrp) n e k l) (and-false (present p k)))))
      (λ e. any_none _ n (λ k h.
      let most = sectors_most (length p.main) in
      let there = not-false (present p k) (sym (here k) ∙ lt-leb n k h) in
      protected_bit k ∙ and_false_right (present p k) _ there (any_each (λ j. present p j && not (nwrp_bit p j)) 12 e k (omega arith))))
    where
      any_is : (nwrp n : ℕ) → any_protected nwrp n ≡ any_below (protected_by nwrp) n
      any_is nwrp zero = refl
      any_is nwrp (suc n) = ap (λ (b : Bool). protected_by nwrp n || b) (any_is nwrp n)

  -- ---- CR
  pub erase_flag_is : is_in (length p.main) main_lengths ≡ true → (w : ℕ)
      → cond (is_set w STRT) (erase_flag w (sectors_in (length p.main)) (nwrp_of p.options) (guarded p.rec.mark p.options)) None ≡ cr_flag p w
  erase_flag_is fits w =
      rw (
        a_bit w 16,
        a_bit w 1,
        a_bit w 2,
        a_field w 3 4,
        guards_is p,
        protected_bit (w / 8 % 16),
        any_protected_is fits,
        present_is (length p.main) (w / 8 % 16) fits,
      )
      (at (bit w 16) (bit w 1) (bit w 2))
    where
      at : (s e m : Bool)
          → ◌≡◌ {A = Option ℕ} (cond s (cond (not e && not m) (Some 0x80) (cond ((e && m) || (e && not (present p (w / 8 % 16)))
          || cond e (not (nwrp_bit p (w / 8 % 16))) (any_below (λ k. present p k && not (nwrp_bit p k)) 12) || mark_guards p) (Some 0x10) None)) None)
          (cond (not s) None (cond (not (e || m)) (Some 0x80) (cond ((e && m) || (e && (not (present p (w / 8 % 16)) || not (nwrp_bit p (w / 8 % 16))))
          || (m && any_below (λ k. present p k && not (nwrp_bit p k)) 12) || mark_guards p) (Some 0x10) None)))
      at false e m = refl
      at true false false = refl
      at true true true = refl
      at true true false =
          ap {B = Option ℕ} (λ (b : Bool). cond (b || mark_guards p) (Some 0x10) None) (sym (or-false (not (present p (w / 8 % 16)) || not (nwrp_bit p (w / 8 % 16)))))
      at true false true = refl

  -- ---- cells
  rows_is : (a : Access) → 1 ≤ a.width → crosses_row a.address a.width ≡ not (eqb (a.address / 16) ((a.address + a.width - 1) / 16))
  rows_is a wide =
      same (crosses_row a.address a.width) (not (eqb (a.address / 16) ((a.address + a.width - 1) / 16)))
      (λ e. ap not (eq-eqb (a.address / 16) ((a.address + a.width - 1) / 16) (sym ((row_is a.address a.width wide).0 e))))
      (λ e. (row_is a.address a.width wide).1 (sym (eqb-true (a.address / 16) ((a.address + a.width - 1) / 16) (not-false _ e))))

  -- the first flag that applies, where what is protected is so for some byte unless a row is crossed
  pub cell_flag_is : (a : Access) (prot : Bool) → 1 ≤ a.width
      → (crosses_row a.address a.width ≡ false → prot ≡ any_byte (protected_byte p) a)
      → program_flag p.rec.cr a (prot || guarded p.rec.mark p.options) ≡ cell_flag p a
  cell_flag_is a prot wide f =
      rw (a_bit p.rec.cr 0, a_field p.rec.cr 8 2, guards_is p, ← rows_is a wide)
      (onward {A = Option ℕ} (not (bit p.rec.cr 0)) (Some 0x80) _ _ (λ _.
      onward {A = Option ℕ} (crosses_row a.address a.width) (Some 0x20) _ _ (λ e.
      ap {B = Option ℕ} (λ (b : Bool). cond (not (eqb a.width (2 ^ (p.rec.cr / 256 % 4)))) (Some 0x40) (cond (b || mark_guards p) (Some 0x10) None)) (f e))))

  module _ (a : Access) (sizes : Sized a) (small : length p.main ≤ largest_main) where
    pub main_protected : (o : ℕ) → Lies (length p.main) a.address a.width (Flash (Main o)) → crosses_row a.address a.width ≡ false
        → protected_by (nwrp_of p.options) (sector_of o) ≡ any_byte (protected_byte p) a
    main_protected o l row =
        protected_bit (sector_of o)
        ∙ sym (any_all _ a.width (not (nwrp_bit p (sector_of o))) (wide a sizes).0 (λ i h.
        let s : sector_of (a.address + i - 0x0800_0000) ≡ sector_of o =
        ap sector_of (let z : a.address + i - 0x0800_0000 ≡ o + i = omega arith in z)
        ∙ row_sector o a.width i (ap (λ (x : ℕ). crosses_row x a.width) (sym l.0) ∙ row) h in
        rw (
          among_below (a.address + i) 0x1FFF_0000 0x7800 (omega arith),
          among_below (a.address + i) 0x1FFF_C000 16 (omega arith),
          among_in (a.address + i) 0x0800_0000 (length p.main) (omega arith) (omega arith),
          among_below (a.address + i) 0x1FFF_7800 512 (omega arith),
          s,
        )
        (or-false (not (nwrp_bit p (sector_of o))))))

    pub otp_protected : (o : ℕ) → Lies (length p.main) a.address a.width (Flash (Otp o)) → crosses_row a.address a.width ≡ false
        → block_locked p.otp o ≡ any_byte (protected_byte p) a
    otp_protected o l row =
        sym (any_all _ a.width (block_locked p.otp o) (wide a sizes).0 (λ i h.
        let s : (o + i) / 32 ≡ o / 32 = row_block o a.width i (ap (λ (x : ℕ). crosses_row x a.width) (sym l.0) ∙ row) h in
        let d : (a.address + i - 0x1FFF_7800) / 32 ≡ o / 32 =
        ap (λ (x : ℕ). x / 32) (let z : a.address + i - 0x1FFF_7800 ≡ o + i = omega arith in z) ∙ s in
        let b : among (a.address + i) 0x1FFF_7800 512 ≡ ltb o 512 =
        rw (le-leb 0x1FFF_7800 (a.address + i) (omega arith))
        (same (ltb (a.address + i) 0x1FFF_7A00) (ltb o 512)
        (λ e. le-ltb o 512 (let g = ltb-false (a.address + i) 0x1FFF_7A00 e in omega arith))
        (λ e. le-ltb (a.address + i) 0x1FFF_7A00 (let g = ltb-false o 512 e in omega arith))) in
        rw (
          among_above (a.address + i) 0x1FFF_0000 0x7800 (omega arith),
          among_below (a.address + i) 0x1FFF_C000 16 (omega arith),
          among_above (a.address + i) 0x0800_0000 (length p.main) (omega arith),
          b,
          d,
        ) refl))

    -- the first byte is in system memory or among the option cells
    pub shut_protected : (in_system a.address || in_options a.address) ≡ true → any_byte (protected_byte p) a ≡ true
    shut_protected e =
        any_one _ a.width 0 (wide a sizes).0
        (rw (add-zero a.address, e) refl)
