-- Every call answers with the first entry of document 01 that applies, and else with its value: the step's tests are the entries' tests as far
-- as no earlier entry applies, and they stand in the same order.
use mathlib.Core.Bool.{Bool, true, false, not, cond, ◌&&◌, ◌||◌, or-true, or-false, and-false, and-true}
use mathlib.Core.List.{List, []}
use mathlib.Core.Path.{◌≡◌, refl, sym, ap, ap₂, ◌∙◌}
use Prim.Native.Nat.{ℕ, zero, suc, ◌+◌, ◌-◌, ◌*◌, ◌/◌, ◌%◌, ◌^◌, ◌≤◌, ◌<◌}
use native.Mathlib.Nat.{add-zero, add-suc, suc-add, mul_comm}
use native.Mathlib.Omega.{arith}
use lib.Bits.{bit_and}
use lib.Dec.{eqb, leb, ltb, lit<, lit≤}
use lib.ListN.{length, get_or, drop}
use borrow.Author.Tests.{eqb-true, leb-true, leb-false, le-leb, lt-leb, ltb-true, ltb-false, lt-ltb, le-ltb, not-false}
use Rattle.std.specs.Prelude.{is_some, unwrap_or}
use Rattle.cascade.proofs.Picks.{keep, keep_by, keep₂}
use Rattle.cells.specs.Bytes.{little, value_at}
use Rattle.lock.specs.Keys.{keyr_keys, optkeyr_keys, is_open}
use Rattle.map.proofs.Forms.{both_left, both_right}
use Rattle.map.proofs.Laws.{Lies, inside_both}
use Rattle.map.specs.Areas.{area_of, crosses_row, inside}
use Rattle.map.specs.Sectors.{sectors_in, largest_main}
use Rattle.registers.proofs.Laws.{a_bit, lanes_are}
use Rattle.registers.specs.Fields.{STRT, OPTSTRT, cr_fields, optcr_fields, rdp, register_at}
use Rattle.registers.specs.Words.{is_set, merged}
use Rattle.time.specs.Timings.{out_of_range}
use Rattle.time.specs.Units.{to_micros}
use Rattle.part.specs.Calls.{step, performed}
use Rattle.part.specs.Operations.{flagged_or, none_left, scrap_short, time_left}
use Rattle.part.specs.Options.{level_of, nwrp_of}
use Rattle.part.specs.Passing.{lapse_answer, lapsed, too_long}
use Rattle.part.specs.Reads.{cells_value, closed_read, read_at}
use Rattle.part.specs.Refusals.{length_refused, misaligned, guarded, unconnected, malformed}
use Rattle.part.specs.Registers.{cr_of, optcr_of, register_of}
use Rattle.part.specs.Rules.{bit, is_in, in_main, in_system, any_below, any_byte, mark_guards, to_word, word_after, main_lengths, entry1, entry2, wrong_access, cell_byte, bytes_from, done_value}
use Rattle.part.specs.Rules.{Told, told, ruled, right_word, cell_flag, cr_flag, optcr_flag, protected_byte, entries_of, first, word_at, Ruled}
use Rattle.part.specs.State.{Part, Outcome, code_of, value_of, is_busy, kept, lock_in, refuse, with_cr}
use Rattle.part.specs.Writes.{program_flag, write_at, erase_flag, cr_write, optcr_write, cell_write, control_write, protected_at, register_write, stored}
use Rattle.part.proofs.Bytes.{among_in, among_above, wide, closed_is, misaligned_is, by_register, cells_below, cells_low, cells_mapped, cells_straight}
use Rattle.part.proofs.Bytes.{no_word}
use Rattle.part.proofs.Bytes.{outside_unmapped, registers_below, registers_mapped, registers_open, sram_closed, sram_mapped, sram_straight, to_flash_lem}
use Rattle.part.proofs.Bytes.{to_registers, to_sram_lem}
use Rattle.part.proofs.Bytes.{lies, word_below}
use Rattle.part.proofs.Cut.{short_is}
use Rattle.part.proofs.Effects.{fitting}
use Rattle.part.proofs.Entries.{Sized, sized, same, any_none, any_each, entry1_is, entry2_is, listed_small, level_2, guards_is, boot_is, access_is, too_big_is}
use Rattle.part.proofs.FlagRules.{cell_flag_is, main_protected, otp_protected, shut_protected, erase_flag_is}
use Rattle.part.proofs.RegisterBits.{lock_bits, register_small}
use Rattle.part.proofs.Stepped.{or_left}
use Rattle.part.proofs.Types.{Running, Area, Outside, Flash, Registers, Sram, Place, Main, OptionCells, Otp, System, SystemAndOtp, LockOf, Cr, Optcr, Micros}
use Rattle.part.proofs.Types.{Millis}
use Rattle.part.proofs.Types.{Access, Answer, Done, Expired, Refused, Call, Reset, Read, Write, Fetch, Debugger, Time, Lapse, Pass, Wait, Off, On, Option}
use Rattle.part.proofs.Types.{None, Some, Malformed, WrongKey, Record, Reply, Target}
use Rattle.part.proofs.Types.register
use Rattle.part.proofs.WriteEffects.{in_word, key_is, whole_is}

-- ---- the cascade

abbrev tell : Answer → Told
tell a = told (code_of a) (value_of a)

abbrev reply_told : Reply → Told
reply_told y = tell y.answer

abbrev outcome_told : Outcome → Told
outcome_told o = tell o.answer

-- one choice after the other, by equal tests
along : {A : Type 0} (f : A → Told) (s t : Bool) (x y : A) (z : Told) → s ≡ t → (s ≡ false → f y ≡ z) → f (cond s x y) ≡ cond t (f x) z
along f true t x y z e g = ap (λ (b : Bool). cond b (f x) z) e
along f false t x y z e g = g refl ∙ ap (λ (b : Bool). cond b (f x) z) e

-- 1 and 2 stand first; what is left is the call's own entries
ruled_by : (timings scrap : List ℕ) (c : Call) (p : Part)
    → (entry1 timings p ≡ false → outcome_told (cond (malformed c) (kept p (refuse Malformed p.rec)) (performed timings scrap c p))
    ≡ first (told 0 (done_value c p)) (entries_of scrap c p))
    → outcome_told (step timings scrap c p) ≡ ruled timings scrap c p
ruled_by timings scrap c p f =
    along outcome_told (length_refused timings p) (entry1 timings p) _ _ _ (entry1_is timings p) (λ e1.
    along outcome_told (out_of_range timings) (entry2 timings) _ _ _ (entry2_is timings) (λ _. f (sym (entry1_is timings p) ∙ e1)))

-- ---- time

-- 8, 10 and 19 before what a lapse answers
lapse_told : (t : Lapse) (p : Part)
    → outcome_told (lapsed t p) ≡ cond (too_long t) (told 8 0) (cond (not p.rec.power) (told 10 0) (cond (none_left p.rec.op) (told 19 0)
    (tell (lapse_answer t (time_left p.rec.op)))))
lapse_told t p =
    along outcome_told (too_long t) _ _ _ _ refl (λ _. along outcome_told (not p.rec.power) _ _ _ _ refl (λ _.
    along outcome_told (none_left p.rec.op) _ _ _ _ refl (λ _. refl)))

wait_told : (t : Millis) (p : Part) → outcome_told (lapsed (Wait t) p) ≡ first (told 0 (time_left p.rec.op).0) (entries_of [] (Time (Wait t)) p)
wait_told t p =
    lapse_told (Wait t) p
    ∙ ap (λ (rest : Told). cond (too_long (Wait t)) (told 8 0) (cond (not p.rec.power) (told 10 0) rest)) (last p.rec.op)
  where
    -- a limit in microseconds
    limit : (to_micros t).0 ≡ 1000 * t.0
    limit = mul_comm t.0 1000

    before : (l : ℕ) → leb l (to_micros t).0 ≡ not (ltb (1000 * t.0) l)
    before l =
        same (leb l (to_micros t).0) (not (ltb (1000 * t.0) l))
        (λ e. ap not (lt-ltb (1000 * t.0) l (let h = leb-false l (to_micros t).0 e in omega (arith, limit))))
        (λ e. lt-leb l (to_micros t).0 (let h = ltb-true (1000 * t.0) l (not-false _ e) in omega (arith, limit)))

    -- an operation with time left and with none
    running_told : (l : ℕ) (z s : Bool) → eqb l 0 ≡ z → ltb (1000 * t.0) l ≡ s
        → cond z (told 19 0) (tell (cond (not s) (Done l) (Expired (to_micros t)))) ≡ cond s (told 18 (1000 * t.0)) (cond z (told 19 0) (told 0 l))
    running_told l true true p q = absurd (let a = eqb-true l 0 p in let b = ltb-true (1000 * t.0) l q in omega arith)
    running_told l true false p q = refl
    running_told l false true p q = ap (told 18) limit
    running_told l false false p q = refl

    last : (op : Option Running)
        → cond (none_left op) (told 19 0) (tell (lapse_answer (Wait t) (time_left op)))
        ≡ cond (ltb (1000 * t.0) (time_left op).0) (told 18 (1000 * t.0)) (cond (none_left op) (told 19 0) (told 0 (time_left op).0))
    last None = rw (le-leb 0 (to_micros t).0 (omega arith), le-ltb (1000 * t.0) 0 (omega arith)) refl
    last (Some running) =
        let l = running.left.0 in
        rw (before l) (running_told l (eqb l 0) (ltb (1000 * t.0) l) refl refl)

-- ---- reads

-- bytes by offset and by address
bytes_same : (f g : ℕ → ℕ) (n o b : ℕ) → ((i : ℕ) → i < n → f (o + i) ≡ g (b + i)) → little f o n ≡ bytes_from g b n
bytes_same f g zero o b e = refl
bytes_same f g (suc n) o b e =
    ap₂ (λ (x y : ℕ). x + 256 * y) (ap f (sym (add-zero o)) ∙ e 0 (omega arith) ∙ ap g (add-zero b))
    (bytes_same f g n (suc o) (suc b) (λ i h. ap f (suc-add o i ∙ sym (add-suc o i)) ∙ e (suc i) (omega arith) ∙ ap g (add-suc b i ∙ sym (suc-add b i))))

module _ (p : Part) (a : Access) (sizes : Sized a) (small : length p.main ≤ largest_main) where
  abbrev at : ℕ → ℕ
  at i = a.address + i

  at_system : (i : ℕ) → 0x1FFF_0000 ≤ at i → at i < 0x1FFF_7800 → 255 ≡ cell_byte p (at i)
  at_system i low high = rw (among_above (at i) 0x0800_0000 (length p.main) (omega arith), among_in (at i) 0x1FFF_0000 0x7800 low high) refl

  at_otp : (i : ℕ) → 0x1FFF_7800 ≤ at i → at i < 0x1FFF_7A10 → get_or p.otp (at i - 0x1FFF_7800) 0 ≡ cell_byte p (at i)
  at_otp i low high =
      rw (
        among_above (at i) 0x0800_0000 (length p.main) (omega arith),
        among_above (at i) 0x1FFF_0000 0x7800 low,
        among_in (at i) 0x1FFF_7800 528 low high,
      ) refl

  -- bytes from an offset above a base
  from : (s : List ℕ) (base o : ℕ) → a.address ≡ base + o → ((i : ℕ) → i < a.width → get_or s (at i - base) 0 ≡ cell_byte p (at i))
      → little (λ i. get_or s i 0) o a.width ≡ bytes_from (cell_byte p) a.address a.width
  from s base o e f =
      bytes_same (λ i. get_or s i 0) (cell_byte p) a.width o a.address (λ i h. ap (λ (j : ℕ). get_or s j 0) (omega arith) ∙ f i h)

  -- the value of a read that no entry refuses
  cells_value_lem : (x : Place) → Lies (length p.main) a.address a.width (Flash x)
      → cells_value p.main p.otp p.options x a.width ≡ bytes_from (cell_byte p) a.address a.width
  cells_value_lem (Main o) l =
      from p.main 0x0800_0000 o l.0 (λ i h. rw (among_in (at i) 0x0800_0000 (length p.main) (omega arith) (omega arith)) refl)
  cells_value_lem (System o) l = bytes_same (λ i. 255) (cell_byte p) a.width 0 a.address (λ i h. at_system i (omega arith) (omega arith))
  cells_value_lem (Otp o) l = from p.otp 0x1FFF_7800 o l.0 (λ i h. at_otp i (omega arith) (omega arith))
  cells_value_lem (SystemAndOtp o) l =
      bytes_same (λ i. cond (ltb i 0x7800) 255 (get_or p.otp (i - 0x7800) 0)) (cell_byte p) a.width o a.address (λ i h.
      keep_by (λ (z : ℕ). z ≡ cell_byte p (at i)) (ltb (o + i) 0x7800) _ _
      (λ q. at_system i (omega arith) (let z = ltb-true (o + i) 0x7800 q in omega arith))
      (λ q. let z = ltb-false (o + i) 0x7800 q in
      ap (λ (j : ℕ). get_or p.otp j 0) (omega arith) ∙ at_otp i (omega arith) (omega arith)))
  cells_value_lem (OptionCells o) l =
      from p.options 0x1FFF_C000 o l.0 (λ i h. rw (
        among_above (at i) 0x0800_0000 (length p.main) (omega arith),
        among_above (at i) 0x1FFF_0000 0x7800 (omega arith),
        among_above (at i) 0x1FFF_7800 528 (omega arith),
        among_in (at i) 0x1FFF_C000 16 (omega arith) (omega arith),
      ) refl)

  sram_value : (o : ℕ) → Lies (length p.main) a.address a.width (Sram o)
      → value_at p.sram o a.width ≡ bytes_from (cell_byte p) a.address a.width
  sram_value o l =
      from p.sram 0x4002_4000 o l.0 (λ i h. rw (
        among_above (at i) 0x0800_0000 (length p.main) (omega arith),
        among_above (at i) 0x1FFF_0000 0x7800 (omega arith),
        among_above (at i) 0x1FFF_7800 528 (omega arith),
        among_above (at i) 0x1FFF_C000 16 (omega arith),
      ) refl)

  -- a register by its word
  word_read : (o : ℕ) → a.address ≡ 0x4002_3C00 + o → o < 24 → register_of p.rec (register_at o) ≡ word_at p (a.address / 4 * 4)
  word_read o e h =
      by_register (λ x. register_of p.rec x ≡ word_at p (a.address / 4 * 4)) a.address o e h
      (λ w. rw w refl) (λ w. rw w refl) (λ w. rw w refl) (λ w. rw w refl) (λ w. rw w refl) (λ w. rw w refl)

  -- the entries after 5, 10 and 15
  abbrev read_rest : Told
  read_rest = first (told 0 (done_value (Read a) p)) (drop 3 (entries_of [] (Read a) p))

  read_at_told : (x : Area) → Lies (length p.main) a.address a.width x
      → tell (read_at p x a.width) ≡ read_rest
  read_at_told (Flash place) l =
      along tell (is_busy p.rec.op) _ _ _ _ refl (λ _. along tell (closed_read p.rec.mark p.options place) _ _ _ _ refl (λ _. refl))
      ∙ rw (
        cells_mapped p a sizes small place l,
        cells_straight p a sizes small place l,
        to_flash_lem p a sizes small place l,
        and-true (is_busy p.rec.op),
        ← closed_is p a sizes small place l,
        cells_value_lem place l,
      ) refl
  read_at_told (Registers o) l =
      rw (
        registers_mapped p a sizes small o l,
        ← misaligned_is p a sizes small o l,
        to_registers p a sizes small o l,
        registers_below p a sizes small o l,
        and-false (is_busy p.rec.op),
        registers_open p a sizes small o l,
      )
      (along tell (misaligned o a.width) _ _ _ _ refl (λ m.
      let (some, few) = wide a sizes in
      let (e, fits) = l in
      let q : a.address % 4 ≡ o % 4 = omega arith in
      ap (told 0) (lanes_are a.width o (in_word o a.width sizes m).0 (register_of p.rec (register_at o))
      ∙ ap₂ (λ (x k : ℕ). x / 256 ^ k % 256 ^ a.width) (word_read o e (omega arith)) (sym q))))
  read_at_told (Sram o) l =
      along tell (guarded p.rec.mark p.options) _ _ _ _ refl (λ _. refl)
      ∙ rw (
        sram_mapped p a sizes small o l,
        sram_straight p a sizes small o l,
        (to_sram_lem p a sizes small o l).0,
        (to_sram_lem p a sizes small o l).1,
        and-false (is_busy p.rec.op),
        sram_closed p a sizes small o l,
        guards_is p,
        sram_value o l,
      ) refl
  read_at_told Outside l = rw (outside_unmapped p a sizes small l) refl

-- ---- fetches

-- four bytes are not all in main flash where one of them is not
fetch_outside : (p : Part) (address : ℕ) → not (inside address 4 0x0800_0000 (length p.main)) ≡ any_below (λ i. not (in_main p (address + i))) 4
fetch_outside p address =
    let len = length p.main in
    same _ _
    (λ e.
    let (low, high) = inside_both address 4 0x0800_0000 len (not-false _ e) in
    any_none (λ i. not (in_main p (address + i))) 4 (λ i h. ap not (among_in (address + i) 0x0800_0000 len (omega arith) (omega arith))))
    (λ e.
    let byte : (i : ℕ) → i < 4 → in_main p (address + i) ≡ true = λ i h. not-false _ (any_each (λ i. not (in_main p (address + i))) 4 e i h) in
    let low = leb-true 0x0800_0000 (address + 0) (both_left (leb 0x0800_0000 (address + 0)) (ltb (address + 0) (0x0800_0000 + len)) (byte 0 (lit< tt))) in
    let high = ltb-true (address + 3) (0x0800_0000 + len) (both_right (leb 0x0800_0000 (address + 3)) (ltb (address + 3) (0x0800_0000 + len)) (byte 3 (lit< tt))) in
    rw (le-leb 0x0800_0000 address (omega arith), le-leb (address + 4) (0x0800_0000 + len) (omega arith)) refl)

fetch_value : (p : Part) (address : ℕ) → length p.main ≤ largest_main → not (inside address 4 0x0800_0000 (length p.main)) ≡ false
    → value_at p.main (address - 0x0800_0000) 4 ≡ bytes_from (cell_byte p) address 4
fetch_value p address small e =
    let (low, high) = inside_both address 4 0x0800_0000 (length p.main) (not-false _ e) in
    cells_value_lem p (record { who = 0; width = 4; address = address }) refl small (Main (address - 0x0800_0000)) (omega arith, omega arith)

-- ---- writes

abbrev flag_told : Option ℕ → Told
flag_told f = cond (is_some f) (told 17 (unwrap_or f 0)) (told 0 0)

abbrev TellsFlag : Reply → Option ℕ → Type 0
TellsFlag y f = reply_told y ≡ flag_told f

-- a flag, or the operation
flagged_told : (r : Record) (f : Option ℕ) (t : Target) (left : Micros) → TellsFlag (flagged_or r f t left) f
flagged_told r None t left = refl
flagged_told r (Some f) t left = refl

module _ (timings : List ℕ) (p : Part) (a : Access) (value : ℕ) (sizes : Sized a)
    (fits : is_in (length p.main) main_lengths ≡ true) (byte8 : get_or p.options 8 0 < 256) where
  abbrev small : length p.main ≤ largest_main
  small = listed_small (length p.main) fits

  -- ---- cells
  cells_told : (place : Place) → (crosses_row a.address a.width ≡ false → protected_at (nwrp_of p.options) p.otp place ≡ any_byte (protected_byte p) a)
      → TellsFlag (cell_write timings p.rec p.otp p.options place a value) (cell_flag p a)
  cells_told place f =
      let prot = protected_at (nwrp_of p.options) p.otp place in
      let flag = program_flag p.rec.cr a (prot || guarded p.rec.mark p.options) in
      flagged_told p.rec flag _ _
      ∙ ap flag_told (cell_flag_is p byte8 a prot (wide a sizes).0 f)

  protected_is : (place : Place) → Lies (length p.main) a.address a.width (Flash place) → crosses_row a.address a.width ≡ false
      → protected_at (nwrp_of p.options) p.otp place ≡ any_byte (protected_byte p) a
  protected_is (Main o) l row = main_protected p byte8 a sizes small o l row
  protected_is (System o) l row =
      sym (shut_protected p byte8 a sizes small
      (rw (among_in a.address 0x1FFF_0000 0x7800 (omega arith) (let w = (wide a sizes).0 in omega arith)) refl))
  protected_is (Otp o) l row = otp_protected p byte8 a sizes small o l row
  protected_is (SystemAndOtp o) l row =
      sym (shut_protected p byte8 a sizes small (rw (among_in a.address 0x1FFF_0000 0x7800 (omega arith) (omega arith)) refl))
  protected_is (OptionCells o) l row =
      sym (shut_protected p byte8 a sizes small
      (rw (among_in a.address 0x1FFF_C000 16 (omega arith) (let w = (wide a sizes).0 in omega arith)) (or-true (in_system a.address))))

  -- ---- registers
  -- the entries that are left for a register
  abbrev register_rest : Told
  register_rest = first (told 0 0) (drop 5 (entries_of [] (Write a value) p))

  key_told : (right : Bool) → tell (cond right (Done 0) (Refused WrongKey)) ≡ cond (not right) (told 14 0) (told 0 0)
  key_told true = refl
  key_told false = refl

  -- 11 and 12, and then the flag
  control_told : (which : LockOf) (w : ℕ) (flag : Option ℕ) (locked : Bool) → locked ≡ not (is_open (lock_in which p.rec))
      → TellsFlag (stored timings p.rec (length p.main) p.options which w) flag
      → reply_told (control_write timings p.rec (length p.main) p.options which w)
      ≡ cond (is_busy p.rec.op) (told 11 0) (cond locked (told 12 0) (flag_told flag))
  control_told which w flag locked e f =
      along reply_told (is_busy p.rec.op) _ _ _ _ refl (λ _. along reply_told (not (is_open (lock_in which p.rec))) locked _ _ _ (sym e) (λ _. f))

  cr_told : (w : ℕ) → TellsFlag (cr_write timings p.rec (length p.main) p.options w) (cr_flag p w)
  cr_told w =
      keep₂ TellsFlag (is_set w STRT) _ _ _ None (flagged_told (with_cr p.rec (bit_and w cr_fields))
      (erase_flag w (sectors_in (length p.main)) (nwrp_of p.options) (guarded p.rec.mark p.options)) _ _) refl
      ∙ ap flag_told (erase_flag_is p byte8 fits w)

  optcr_told : (w : ℕ) → TellsFlag (optcr_write timings p.rec (length p.main) p.options w) (optcr_flag p w)
  optcr_told w =
      keep_by (λ (y : Reply). TellsFlag y (cond (is_set w OPTSTRT && eqb (level_of p.options) 2) (Some 0x10) None)) (is_set w OPTSTRT) _ _
      (λ s. rw s (keep₂ TellsFlag (eqb (level_of p.options) 2) _ _ (Some 0x10) None refl
      (keep (λ (y : Reply). TellsFlag y None) (eqb (level_of p.options) 1 && eqb (rdp (bit_and w optcr_fields)) 0xAA) _ _ refl refl))) (λ s. rw s refl)
      ∙ rw (a_bit w 1, level_2 p.options) refl

  module _ (o : ℕ) (l : Lies (length p.main) a.address a.width (Registers o)) (straight : misaligned o a.width ≡ false) where
    register_told : reply_told (register_write timings p.rec (length p.main) p.options (register_at o) o a.width value) ≡ register_rest
    register_told =
        let (some, few) = wide a sizes in
        let (e, room) = l in
        let r = p.rec in
        let whole = whole_is a value o e sizes straight in
        let right = right_word r.lock.state 0x4567_0123 0xCDEF_89AB value in
        let high = le-ltb a.address 0x4002_3C00 (omega arith) in
        let low = registers_below p a sizes small o l in
        by_register (λ x. reply_told (register_write timings r (length p.main) p.options x o a.width value) ≡ register_rest) a.address o e
        (omega arith)
        (λ w. rw (w, high, low, and-false (is_busy r.op)) refl)
        (λ w. rw (w, high, low, and-false (is_busy r.op), (key_is r.lock.state value keyr_keys).0, or-false (not right)) (key_told right))
        (λ w. rw (w, high, low, and-false (is_busy r.op), (key_is r.optlock.state value optkeyr_keys).0)
        (key_told (right_word r.optlock.state 0x0819_2A3B 0x4C5D_6E7F value)))
        (λ w. rw (w, high, low, and-false (is_busy r.op)) refl)
        (λ w. rw (w, high, low, and-true (is_busy r.op), or-false (bit (cr_of r) 31))
        (control_told Cr (merged (cr_of r) value a.width o) (cr_flag p (word_after (cr_of r) value a)) (bit (cr_of r) 31) (lock_bits r).0
        (cr_told (merged (cr_of r) value a.width o) ∙ rw (whole (cr_of r) (register_small r (register.Control Cr))) refl)))
        (λ w. rw (w, high, low, and-true (is_busy r.op))
        (control_told Optcr (merged (optcr_of r) value a.width o) (optcr_flag p (word_after (optcr_of r) value a)) (bit (optcr_of r) 0) (lock_bits r).1
        (optcr_told (merged (optcr_of r) value a.width o) ∙ rw (whole (optcr_of r) (register_small r (register.Control Optcr))) refl)))

  -- ---- by the area
  abbrev write_rest : Told
  write_rest = first (told 0 0) (drop 3 (entries_of [] (Write a value) p))

  write_told : (x : Area) → Lies (length p.main) a.address a.width x
      → outcome_told (write_at timings p x a value) ≡ write_rest
  write_told (Flash place) l =
      let none : (k : ℕ) → 0x4002_3C00 ≤ k → to_word a k ≡ false = λ k h. no_word p a sizes small k (cells_low p a sizes small place l) h in
      along reply_told (is_busy p.rec.op) _ _ _ _ refl (λ _. refl)
      ∙ rw (
        cells_mapped p a sizes small place l,
        cells_straight p a sizes small place l,
        to_flash_lem p a sizes small place l,
        and-true (is_busy p.rec.op),
        none 0x4002_3C10 (lit≤ tt),
        none 0x4002_3C14 (lit≤ tt),
        none 0x4002_3C04 (lit≤ tt),
        none 0x4002_3C08 (lit≤ tt),
        cells_below p a sizes small place l,
        cells_told place (protected_is place l),
      ) refl
  write_told (Registers o) l =
      rw (registers_mapped p a sizes small o l, ← misaligned_is p a sizes small o l)
      (along reply_told (misaligned o a.width) _ _ _ _ refl (λ m. register_told o l m))
  write_told (Sram o) l =
      let high : 0x4002_4000 ≤ a.address = let e = l.0 in omega arith in
      let none : (k : ℕ) → k < 0x4002_4000 → to_word a k ≡ false = λ k g. word_below p a sizes small k high g in
      along outcome_told (guarded p.rec.mark p.options) _ _ _ _ refl (λ _. refl)
      ∙ rw (
        sram_mapped p a sizes small o l,
        sram_straight p a sizes small o l,
        (to_sram_lem p a sizes small o l).0,
        (to_sram_lem p a sizes small o l).1,
        none 0x4002_3C10 (lit< tt),
        none 0x4002_3C14 (lit< tt),
        none 0x4002_3C04 (lit< tt),
        none 0x4002_3C08 (lit< tt),
        and-false (is_busy p.rec.op),
        sram_closed p a sizes small o l,
        guards_is p,
      ) refl
  write_told Outside l = rw (outside_unmapped p a sizes small l) refl

-- the answer of every call: the first entry that applies, and else done with its value
pub answered : Ruled
answered timings scrap (Reset boot) p h =
    ruled_by timings scrap (Reset boot) p (λ _. along outcome_told (ltb 2 boot) _ _ _ _ (boot_is boot) (λ _.
    along outcome_told (eqb (level_of p.options) 2 && not (eqb boot 0)) _ _ _ _
    (ap (λ (b : Bool). b && not (eqb boot 0)) (level_2 p.options)) (λ _.
    along outcome_told (scrap_short p.rec.op (length p.main) (length scrap)) _ _ _ _ (short_is p.rec.op (length scrap) p) (λ _. refl))))
answered timings scrap (Debugger On) p h =
    ruled_by timings scrap (Debugger On) p (λ _. along reply_told (not p.rec.power) _ _ _ _ refl (λ _.
    along reply_told (eqb (level_of p.options) 2) _ _ _ _ (level_2 p.options) (λ _. refl)))
answered timings scrap (Debugger Off) p h = ruled_by timings scrap (Debugger Off) p (λ _. along reply_told (not p.rec.power) _ _ _ _ refl (λ _. refl))
answered timings scrap (Read a) p h =
    ruled_by timings scrap (Read a) p (λ e1. along outcome_told (malformed (Read a)) (wrong_access a) _ _ _ (access_is a) (λ e5.
    let f5 = sym (access_is a) ∙ e5 in
    along tell (not p.rec.power) _ _ _ _ refl (λ _. along tell (unconnected a.who p.rec.debugger) _ _ _ _ refl (λ _.
    let small = listed_small (length p.main) (fitting timings p e1).main in
    read_at_told p a (sized a f5) small (area_of (length p.main) a.address a.width) (lies p a (sized a f5) small _ refl)))))
answered timings scrap (Write a value) p h =
    let bad_is : malformed (Write a value) ≡ (wrong_access a || leb (256 ^ a.width) value) =
    ap₂ (λ (b c : Bool). b || c) (access_is a) (too_big_is a.width value) in
    ruled_by timings scrap (Write a value) p (λ e1.
    along outcome_told (malformed (Write a value)) (wrong_access a || leb (256 ^ a.width) value) _ _ _ bad_is (λ e5.
    let f5 = or_left (wrong_access a) (leb (256 ^ a.width) value) (sym bad_is ∙ e5) in
    along outcome_told (not p.rec.power) _ _ _ _ refl (λ _. along outcome_told (unconnected a.who p.rec.debugger) _ _ _ _ refl (λ _.
    let fits = (fitting timings p e1).main in
    write_told timings p a value (sized a f5) fits h (area_of (length p.main) a.address a.width)
    (lies p a (sized a f5) (listed_small (length p.main) fits) _ refl)))))
answered timings scrap (Fetch address) p h =
    ruled_by timings scrap (Fetch address) p (λ e1. along tell (not p.rec.power) _ _ _ _ refl (λ _.
    along tell (not (inside address 4 0x0800_0000 (length p.main))) _ _ _ _ (fetch_outside p address) (λ there.
    let small = listed_small (length p.main) (fitting timings p e1).main in
    along tell (is_busy p.rec.op) _ _ _ _ refl (λ _. along tell (guarded p.rec.mark p.options) (mark_guards p) _ _ _ (guards_is p) (λ _.
    ap (told 0) (fetch_value p address small there))))))
answered timings scrap (Time (Pass t)) p h = ruled_by timings scrap (Time (Pass t)) p (λ _. lapse_told (Pass t) p)
answered timings scrap (Time (Wait t)) p h = ruled_by timings scrap (Time (Wait t)) p (λ _. wait_told t p)
