-- What a write leaves behind, field by field: a write that is taken lies in flash cells, in the word of one register or in the SRAM, and there the step is a
-- short cascade of tests, whose branches are read off once and then bit by bit.
use mathlib.Core.Bool.{Bool, true, false, not, cond, ◌&&◌, ◌||◌, true≢false, false≢true, and-false, or-true, or_assoc}
use mathlib.Core.List.{List, [], ◌∷◌}
use mathlib.Core.Logic.{◌⊎◌, inl, inr}
use mathlib.Core.Path.{◌≡◌, refl, sym, ap, ap₂, subst, ◌∙◌}
use Prim.Native.Nat.{ℕ, ◌+◌, ◌-◌, ◌*◌, ◌/◌, ◌%◌, ◌^◌, ◌<◌, ◌≤◌}
use native.Mathlib.Nat.{add-zero, mod-lt, mod-mod}
use native.Mathlib.Omega.{arith}
use lib.Bits.{bit_and, bit_or, and_mask}
use lib.Dec.{eqb, leb, ltb, lit<, lit≤}
use lib.ListN.{length, get_or}
use borrow.Author.Tests.{eqb-true, not-false, ltb-true, le-leb, lt-leb, lt-ltb, eq-eqb, le-ltb}
use Rattle.std.specs.Prelude.{Ok, is_ok, is_some}
use Rattle.cascade.proofs.Picks.{keep, keep_by, keep₂}
use Rattle.lock.specs.Keys.{keyed, lock_at, after_key, killed}
use Rattle.map.proofs.Laws.{Lies}
use Rattle.map.specs.Areas.{area_of, crosses_row}
use Rattle.map.specs.Protection.{protected_by, any_protected}
use Rattle.map.specs.Sectors.{sectors_in, largest_main}
use Rattle.registers.proofs.Laws.{a_bit, a_field, bit_acr, bit_cleared, bit_or_lem, merged_alone}
use Rattle.registers.proofs.Runs.{and_run}
use Rattle.registers.specs.Fields.{PG, SER, MER, STRT, LOCK, OPTLOCK, OPTSTRT, OPERR, ERRIE, sr_flags, cr_fields, optcr_fields, snb, psize, rdp, register_at}
use Rattle.registers.specs.Words.{is_set, merged}
use Rattle.time.specs.Timings.{column, duration}
use Rattle.time.specs.Units.{micros, to_micros}
use Rattle.part.specs.Calls.{step}
use Rattle.part.specs.Effects.{AcrWritten, CrWritten, FlagRaised, Holds, KeyWritten, OptcrWritten, OtherRefusalKeeps, ProgramStarts, SrWritten}
use Rattle.part.specs.Effects.{SramWritten, WriteCells}
use Rattle.part.specs.Effects.{WriteWhere, WrongKeyCloses, accepted, state_after, stored_byte}
use Rattle.part.specs.Operations.{flagged, flagged_or, started, time_left}
use Rattle.part.specs.Options.{level_of, nwrp_of}
use Rattle.part.specs.Passing.{lapse_answer}
use Rattle.part.specs.Refusals.{length_refused, too_big, misaligned, guarded, malformed}
use Rattle.part.specs.Registers.{cr_of, optcr_of, register_of, control_of}
use Rattle.part.specs.Rules.{bit, is_in, in_otp, to_flash, to_sram, to_word, word_after, right_word}
use Rattle.part.specs.State.{Part, Outcome, code_of, value_of, reply, with_sr, with_cr, with_optcr, with_lock, with_op, with_sram, lock_in, number_of, refuse, part}
use Rattle.part.specs.Writes.{program_flag, erase_target, erase_work, cr_start, locked_if, cr_write, optcr_start, optcr_write, cell_write, keys_of, protected_at}
use Rattle.part.specs.Writes.{register_write, stored, write_to}
use Rattle.part.proofs.Bytes.{among_below, among_in, cells_below, cells_low, registers_below, to_flash_lem, to_sram_lem, wide, by_register, lies}
use Rattle.part.proofs.Effects.{fitting, fetch_keeps, read_keeps, stored_holds}
use Rattle.part.proofs.Entries.{Sized, sized, access_is, any_each, entry1_is, in_all, same, by_width}
use Rattle.part.proofs.View.{part_small, shut_flag}
use Rattle.part.proofs.RegisterBits.{agree_below, of_fields, of_flag, register_small, lock_bits}
use Rattle.part.proofs.Stepped.{Plain, and_false_left, or_left, or_right, plain_other, stepped, change_codes, step_each, control_each, write_each}
use Rattle.part.proofs.Types.{Running, Some, None, Keys, Lock, LockState, Open, Closed, HalfOpen, Dead, Flash, Registers, Sram, Place, Main, OptionCells, Otp, System}
use Rattle.part.proofs.Types.{SystemAndOtp}
use Rattle.part.proofs.Types.{LockOf, Cr, Optcr, Register, Micros, Work, Access, Answer, Done, Refused, Reset, Read, Write, Fetch, Debugger, Time, Lapse, Pass}
use Rattle.part.proofs.Types.{Wait, Off, On, Option, Reason, ClosedAccess, WrongKey, Record, Reply, Target}
use Rattle.part.proofs.Types.register
use Rattle.part.proofs.Types.work
use Rattle.part.proofs.Types.target
use Rattle.part.proofs.Words.{word_after_lem}

-- the words of the six registers, and what holds of each of them
abbrev pub words : List ℕ
words = 0x4002_3C00 ∷ 0x4002_3C04 ∷ 0x4002_3C08 ∷ 0x4002_3C0C ∷ 0x4002_3C10 ∷ 0x4002_3C14 ∷ []

pub by_word : (P : ℕ → Type 0) (word : ℕ) → P 0x4002_3C00 → P 0x4002_3C04 → P 0x4002_3C08 → P 0x4002_3C0C → P 0x4002_3C10 → P 0x4002_3C14
    → is_in word words ≡ true → P word
by_word P word acr key optkey sr cr optcr = in_all P word words (acr, (key, (optkey, (sr, (cr, (optcr, tt))))))

-- the lanes of an aligned register access
pub in_word : (o w : ℕ) → is_in w (1 ∷ 2 ∷ 4 ∷ 8 ∷ []) ≡ true → misaligned o w ≡ false → ((w ≡ 1) ⊎ (w ≡ 2) ⊎ (w ≡ 4)) × (o % 4 + w ≤ 4)
in_word o w sizes e =
    let lane : o % 4 < 4 = mod-lt o (lit< tt) in
    let s = eqb w 2 && not (eqb (o % 2) 0) in
    let t = eqb w 4 && not (eqb (o % 4) 0) in
    let three = or_left (s || t || eqb w 8) _ e in
    let two = or_left (s || t) (eqb w 8) three in
    by_width (λ (w : ℕ). ((eqb w 2 && not (eqb (o % 2) 0)) ≡ false) × ((eqb w 4 && not (eqb (o % 4) 0)) ≡ false) × (eqb w 8 ≡ false)
    → ((w ≡ 1) ⊎ (w ≡ 2) ⊎ (w ≡ 4)) × (o % 4 + w ≤ 4)) w
    (λ f. (inl refl, omega arith))
    (λ f. (inr (inl refl), let even = eqb-true (o % 2) 0 (not-false _ f.0) in omega arith))
    (λ f. (inr (inr refl), let whole = eqb-true (o % 4) 0 (not-false _ f.1) in omega arith))
    (λ f. absurd (true≢false f.2)) sizes (or_left s t two, or_right s t two, or_right (s || t) (eqb w 8) three)

-- such an access leaves the register's word lane by lane
pub whole_is : (a : Access) (value o : ℕ) → a.address ≡ 0x4002_3C00 + o → Sized a → misaligned o a.width ≡ false
    → (old : ℕ) → old < 2 ^ 32 → merged old value a.width o ≡ word_after old value a
whole_is a value o e sizes straight old small =
    let (narrow, lanes) = in_word o a.width sizes straight in
    let same : o % 4 ≡ a.address % 4 = omega arith in
    word_after_lem old value a o small narrow same (rw same at lanes)

-- ---- a reply that stores fields, and starts an operation or raises a flag

abbrev Flag : ℕ → Type 0
Flag f = is_in f (0x80 ∷ 0x40 ∷ 0x20 ∷ 0x10 ∷ []) ≡ true

abbrev FlagOrNone : Option ℕ → Type 0
FlagOrNone None = Unit {0}
FlagOrNone (Some f) = Flag f

-- s is the record with its fields stored, o the operation that runs after a reply that is done
record Stored (s : Record) (o : Option Running) (y : Reply) : Type 0 where
  fields : y.rec ≡ with_op (with_sr s y.rec.sr) y.rec.op
  taken : is_in (code_of y.answer) change_codes ≡ true
  keyless : code_of y.answer ≡ 14 → ⊥
  done : code_of y.answer ≡ 0 → (y.rec.sr ≡ s.sr) × (y.rec.op ≡ o)
  flag : code_of y.answer ≡ 17
      → (y.rec.op ≡ s.op) × Flag (value_of y.answer)
      × (y.rec.sr ≡ bit_or s.sr (bit_or (value_of y.answer) (cond (is_set s.cr ERRIE) OPERR 0)))

-- done, with o running
op_stored : (s : Record) (o : Option Running) → Stored s o (reply (Done 0) (with_op s o))
op_stored s o = record { fields = refl; taken = refl; keyless = λ e. omega arith; done = λ _. (refl, refl); flag = λ e. absurd (omega arith) }

flag_stored : (s : Record) (o : Option Running) (f : ℕ) → Flag f → Stored s o (flagged s f)
flag_stored s o f listed =
    record { fields = refl; taken = refl; keyless = λ e. omega arith; done = λ e. absurd (omega arith); flag = λ _. (refl, listed, refl) }

-- a flag, or the operation o
flag_or_stored : (s : Record) (f : Option ℕ) (t : Target) (left : Micros) (o : Option Running) → FlagOrNone f
    → (is_some f ≡ false → Some (record { target = t; left = left }) ≡ o) → Stored s o (flagged_or s f t left)
flag_or_stored s None t left o listed same = subst (λ (o : Option Running). Stored s o (started s t left)) (same refl) (op_stored s _)
flag_or_stored s (Some f) t left o listed same = flag_stored s o f listed

-- a lock closes in the same write
lock_stored : (which : LockOf) (t : Bool) (s : Record) (o : Option Running) (y : Reply) → Stored s o y
    → Stored (with_lock which s (cond t (lock_at Closed) (lock_in which s))) o (locked_if which t y)
lock_stored Cr true s o y k =
    let fields = ap (λ (z : Record). with_lock Cr z (lock_at Closed)) k.fields in
    record { fields = fields; taken = k.taken; keyless = k.keyless; done = k.done; flag = k.flag }
lock_stored Optcr true s o y k =
    let fields = ap (λ (z : Record). with_lock Optcr z (lock_at Closed)) k.fields in
    record { fields = fields; taken = k.taken; keyless = k.keyless; done = k.done; flag = k.flag }
lock_stored Cr false s o y k = k
lock_stored Optcr false s o y k = k

-- ---- CR and OPTCR

module _ (timings : List ℕ) (r : Record) (len : ℕ) (options : List ℕ) (w : ℕ) where
  -- the erase that STRT (bit 16) starts: SER is bit 1, SNB bits 6 to 3, PSIZE bits 9 and 8
  abbrev erase : Option Running
  erase =
      Some (record {
        target = cond (bit w 1) (target.Sector (w / 8 % 16)) (target.Main len);
        left = micros (get_or timings (w / 256 % 4 * 6 + cond (bit w 1) (cond (ltb (w / 8 % 16) 4) 1 (cond (eqb (w / 8 % 16) 4) 2 3)) 4) 0);
      })

  erase_is : Some (record { target = erase_target w len; left = duration timings (psize w) (erase_work w) }) ≡ erase
  erase_is =
      let Column : Work → ℕ → Type 0 = λ x n. column x ≡ n in
      rw (a_bit w 1, a_field w 3 4, a_field w 8 2)
      (rw (keep₂ Column (bit w 1) _ _ _ _ (keep₂ Column (ltb (w / 8 % 16) 4) work.Erase16 _ 1 _ refl
      (keep₂ Column (eqb (w / 8 % 16) 4) work.Erase64 work.Erase128 2 3 refl refl)) refl))

  cr_stored : Stored (with_lock Cr (with_cr r (bit_and w cr_fields)) (cond (bit w 31) (lock_at Closed) r.lock)) (cond (bit w 16) erase r.op)
      (cr_write timings r len options w)
  cr_stored =
      let s = with_cr r (bit_and w cr_fields) in
      let neither = not (is_set w SER) && not (is_set w MER) in
      let stopped = (is_set w SER && is_set w MER) || (is_set w SER && leb (sectors_in len) (snb w))
      || cond (is_set w SER) (protected_by (nwrp_of options) (snb w)) (any_protected (nwrp_of options) (sectors_in len)) || guarded r.mark options in
      let f : Option ℕ = cond neither (Some 0x80) (cond stopped (Some 0x10) None) in
      rw (← a_bit w 31, ← a_bit w 16)
      (lock_stored Cr (is_set w LOCK) s _ (cr_start timings s len options w)
      (keep₂ (λ (y : Reply) (o : Option Running). Stored s o y) (is_set w STRT) _ _ _ _
      (flag_or_stored s f (erase_target w len) (duration timings (psize w) (erase_work w)) erase
      (keep FlagOrNone neither _ _ refl (keep FlagOrNone stopped _ _ refl tt)) (λ _. erase_is)) (op_stored s s.op)))

  -- the change that OPTSTRT (bit 1) starts: a regression where RDP of the cells is not AA and that of OPTCR is; PSIZE is that of CR
  abbrev regress : Bool
  regress = not (eqb (get_or options 1 0) 0xAA) && eqb (w / 256 % 256) 0xAA

  abbrev time : ℕ → ℕ
  time column = get_or timings (r.cr / 256 % 4 * 6 + column) 0

  abbrev change : Option Running
  change =
      Some (record {
        target = cond regress (target.Regression len (micros (time 5))) target.Options;
        left = micros (cond regress (time 4 + time 5) (time 5));
      })

  optcr_stored : Stored (with_lock Optcr (with_optcr r (bit_and w optcr_fields)) (cond (bit w 0) (lock_at Closed) r.optlock))
      (cond (bit w 1) change r.op) (optcr_write timings r len options w)
  optcr_stored =
      let s = with_optcr r (bit_and w optcr_fields) in
      rw (← a_bit w 0, ← a_bit w 1)
      (lock_stored Optcr (is_set w OPTLOCK) s _ (optcr_start timings s len options w)
      (keep₂ (λ (y : Reply) (o : Option Running). Stored s o y) (is_set w OPTSTRT) _ _ _ _
      (keep_by (Stored s change) (eqb (level_of options) 2) _ _ (λ _. flag_stored s change 0x10 refl)
      (λ below. rw (level_one_lem (eqb (get_or options 1 0) 0xAA) (eqb (get_or options 1 0) 0xCC) below, rdp_is, a_field r.cr 8 2)
      (keep_by (Stored s change) regress _ _ (λ e. rw e (op_stored s _)) (λ e. rw e (op_stored s _)))))
      (op_stored s s.op)))
    where
      -- below level 2, level 1 is where RDP is not AA
      level_one_lem : (s t : Bool) → eqb (cond s 0 (cond t 2 1)) 2 ≡ false → eqb (cond s 0 (cond t 2 1)) 1 ≡ not s
      level_one_lem true t e = refl
      level_one_lem false true e = absurd (true≢false e)
      level_one_lem false false e = refl

      rdp_is : rdp (bit_and w optcr_fields) ≡ w / 256 % 256
      rdp_is = a_field (bit_and w optcr_fields) 8 8 ∙ and_run w optcr_fields 8 8 ∙ and_mask (w / 256 % 256) 8 ∙ mod-mod (w / 256) 256

-- ---- key words

key_by_test : (t : Bool) (s : LockState) → (is_ok (cond t (Ok (lock_at s)) killed) ≡ t) × (after_key (cond t (Ok (lock_at s)) killed) ≡ lock_at (cond t s Dead))
key_by_test true s = (refl, refl)
key_by_test false s = (refl, refl)

-- a word is right as the rules say, and leads where the laws say
pub key_is : (s : LockState) (word : ℕ) (k : Keys)
    → (is_ok (keyed (lock_at s) word k) ≡ right_word s k.first k.second word)
    × (after_key (keyed (lock_at s) word k) ≡ lock_at (state_after s k.first k.second word))
key_is Open word k = (refl, refl)
key_is Closed word k = key_by_test (eqb word k.first) HalfOpen
key_is HalfOpen word k = key_by_test (eqb word k.second) Open
key_is Dead word k = (refl, refl)

key_code : (t : Bool) → code_of (cond t (Done 0) (Refused WrongKey)) ≡ cond t 0 14
key_code true = refl
key_code false = refl

-- a word that is not the right one leads to Dead
wrong_dead : (s : LockState) (first second word : ℕ) → right_word s first second word ≡ false → state_after s first second word ≡ Dead
wrong_dead Open first second word e = refl
wrong_dead Closed first second word e = rw e
wrong_dead HalfOpen first second word e = rw e
wrong_dead Dead first second word e = refl

pub by_or : {C : Type 0} (s t : Bool) → (s ≡ true → C) → (t ≡ true → C) → (s || t) ≡ true → C
by_or true t f g e = f refl
by_or false t f g e = g e

-- ---- where a write lies

-- the word of a register, by its offset
abbrev offset_of : Register → ℕ
offset_of register.Acr = 0
offset_of register.Sr = 12
offset_of (register.Key Cr) = 4
offset_of (register.Key Optcr) = 8
offset_of (register.Control Cr) = 16
offset_of (register.Control Optcr) = 20

abbrev word_of : Register → ℕ
word_of x = 0x4002_3C00 + offset_of x

offset_small : (x : Register) → offset_of x ≤ 20
offset_small register.Acr = lit≤ tt
offset_small register.Sr = lit≤ tt
offset_small (register.Key Cr) = lit≤ tt
offset_small (register.Key Optcr) = lit≤ tt
offset_small (register.Control Cr) = lit≤ tt
offset_small (register.Control Optcr) = lit≤ tt

-- the register of a word
register_here : (x : Register) (o : ℕ) → (0x4002_3C00 + o) / 4 * 4 ≡ word_of x → register_at o ≡ x
register_here register.Acr o e = rw (lt-ltb o 4 (omega arith))
register_here register.Sr o e = rw (le-ltb o 4 (omega arith), le-ltb o 8 (omega arith), le-ltb o 12 (omega arith), lt-ltb o 16 (omega arith))
register_here (register.Key Cr) o e = rw (le-ltb o 4 (omega arith), lt-ltb o 8 (omega arith))
register_here (register.Key Optcr) o e = rw (le-ltb o 4 (omega arith), le-ltb o 8 (omega arith), lt-ltb o 12 (omega arith))
register_here (register.Control Cr) o e =
    rw (le-ltb o 4 (omega arith), le-ltb o 8 (omega arith), le-ltb o 12 (omega arith), le-ltb o 16 (omega arith), lt-ltb o 20 (omega arith))
register_here (register.Control Optcr) o e =
    rw (le-ltb o 4 (omega arith), le-ltb o 8 (omega arith), le-ltb o 12 (omega arith), le-ltb o 16 (omega arith), le-ltb o 20 (omega arith))

module _ (timings scrap : List ℕ) (a : Access) (value : ℕ) (p : Part) where
  abbrev r : Record
  r = p.rec

  abbrev len : ℕ
  len = length p.main

  abbrev answered : Reply
  answered = let x = step timings scrap (Write a value) p in reply x.answer x.part.rec

  -- what refusals 1 and 5 leave of an access
  record Sound : Type 0 where
    small : len ≤ largest_main
    sizes : Sized a

  sound : length_refused timings p ≡ false → malformed (Write a value) ≡ false → Sound
  sound fits ok =
      record {
        small = part_small len (or_left _ _ (or_left _ _ (or_left _ _ (or_left _ _ (or_left _ _ fits)))));
        sizes = sized a (sym (access_is a) ∙ or_left _ (too_big a.width value) ok);
      }

  -- a write is refused, or does what its area says
  written_by : (P : Reply → Type 0) → ((why : Reason) → Plain why → P (refuse why r))
      → ((place : Place) → Lies len a.address a.width (Flash place) → Sound → P (cell_write timings r p.otp p.options place a value))
      → ((o : ℕ) → Lies len a.address a.width (Registers o) → Sound → misaligned o a.width ≡ false
      → P (register_write timings r len p.options (register_at o) o a.width value))
      → ((o : ℕ) → Lies len a.address a.width (Sram o) → Sound → P (reply (Done 0) r)) → P answered
  written_by P bar cells regs sram =
      let Q : Outcome → Type 0 = λ o. P (reply o.answer o.part.rec) in
      stepped Q timings scrap (Write a value) p bar (λ fits _ ok.
      let k = sound fits ok in
      let lies = lies p a k.sizes k.small in
      write_each timings p Q bar (area_of len a.address a.width) a value
      (λ place e _. cells place (lies (Flash place) e) k) (λ o e. regs o (lies (Registers o) e) k)
      (λ o e. keep Q (guarded r.mark p.options) _ _ (bar ClosedAccess refl) (sram o (lies (Sram o) e) k)))

  -- ---- cells

  flag_listed : (protected : Bool) → FlagOrNone (program_flag r.cr a protected)
  flag_listed protected =
      keep FlagOrNone (not (is_set r.cr PG)) _ _ refl (keep FlagOrNone (crosses_row a.address a.width) _ _ refl
      (keep FlagOrNone (not (eqb a.width (2 ^ psize r.cr))) _ _ refl (keep FlagOrNone protected _ _ refl tt)))

  -- a program operation in main flash or OTP, with a timing
  abbrev running : Bool → ℕ → Option Running
  running otp i =
      Some (record {
        target = target.Bytes (record { otp = otp; offset = a.address - cond otp 0x1FFF_7800 0x0800_0000; width = a.width; value = value });
        left = micros (get_or timings i 0);
      })

  abbrev program : Option Running
  program = running (in_otp a.address) (r.cr / 256 % 4 * 6)

  -- a write to flash cells starts to program or raises a flag; where no flag rises it lies in main flash or OTP
  cells_stored : (place : Place) → Lies len a.address a.width (Flash place) → Sound
      → Stored r program (cell_write timings r p.otp p.options place a value)
  cells_stored place l k =
      let flag = program_flag r.cr a (protected_at (nwrp_of p.options) p.otp place || guarded r.mark p.options) in
      flag_or_stored r flag _ _ program (flag_listed (protected_at (nwrp_of p.options) p.otp place || guarded r.mark p.options))
      (λ z. ap₂ running (lands place l z) (ap (λ (n : ℕ). n * 6 + 0) (a_field r.cr 8 2) ∙ add-zero (r.cr / 256 % 4 * 6)))
    where
      lands : (place : Place) → Lies len a.address a.width (Flash place)
          → is_some (program_flag r.cr a (protected_at (nwrp_of p.options) p.otp place || guarded r.mark p.options)) ≡ false
          → leb 0x1FFF_7800 a.address ≡ in_otp a.address
      lands (Main o) (e, f) z =
          let s = k.small in
          lt-leb 0x1FFF_7800 a.address (omega arith) ∙ sym (among_below a.address 0x1FFF_7800 528 (omega arith))
      lands (System o) l z = absurd (false≢true (sym z ∙ shut_flag r.cr a))
      lands (Otp o) (e, f) z =
          let (some, few) = wide a k.sizes in
          le-leb 0x1FFF_7800 a.address (omega arith) ∙ sym (among_in a.address 0x1FFF_7800 528 (omega arith) (omega arith))
      lands (SystemAndOtp o) l z = absurd (false≢true (sym z ∙ shut_flag r.cr a))
      lands (OptionCells o) l z = absurd (false≢true (sym z ∙ shut_flag r.cr a))

  at_cells : to_flash a ≡ true → (P : Reply → Type 0) → ((why : Reason) → Plain why → P (refuse why r)) → ((y : Reply) → Stored r program y → P y) → P answered
  at_cells here P bar cells =
      written_by P bar (λ place l k. cells _ (cells_stored place l k))
      (λ o l k ok. absurd (let low = ltb-true a.address 0x4002_3C00 here in let e = l.0 in omega arith))
      (λ o l k. absurd (let low = ltb-true a.address 0x4002_3C00 here in let e = l.0 in omega arith))

  -- ---- registers

  abbrev onto : Register → Reply
  onto x = write_to timings r len p.options x (word_after (register_of r x) value a) (word_after 0 value a) value

  onto_is : (o : ℕ) (x : Register) → Lies len a.address a.width (Registers o) → Sound → misaligned o a.width ≡ false
      → register_write timings r len p.options x o a.width value ≡ onto x
  onto_is o x l k ok =
      let after = whole_is a value o l.0 k.sizes ok in
      ap₂ (λ (whole lone : ℕ). write_to timings r len p.options x whole lone value)
      (after (register_of r x) (register_small r x)) (sym (merged_alone value a.width o) ∙ after 0 (lit< tt))

  at_word : (x : Register) → to_word a (word_of x) ≡ true → (P : Reply → Type 0) → ((why : Reason) → Plain why → P (refuse why r)) → P (onto x) → P answered
  at_word x here P bar y =
      let there = eqb-true (a.address / 4 * 4) (word_of x) here in
      written_by P bar
      (λ place l k. absurd (let low = cells_low p a k.sizes k.small place l in omega arith))
      (λ o l k ok. subst P (sym (ap (λ (z : Register). register_write timings r len p.options z o a.width value)
      (register_here x o (ap (λ (n : ℕ). n / 4 * 4) (sym l.0) ∙ there)) ∙ onto_is o x l k ok)) y)
      (λ o l k. absurd (let e = l.0 in let low = offset_small x in omega arith))

  -- CR and OPTCR, past refusals 11 and 12
  at_control : (which : LockOf) → to_word a (word_of (register.Control which)) ≡ true → (P : Reply → Type 0)
      → ((why : Reason) → Plain why → P (refuse why r))
      → P (stored timings r len p.options which (word_after (control_of which r) value a)) → P answered
  at_control which here P bar y =
      at_word (register.Control which) here P bar (control_each timings r len p.options P bar which _ (λ _. y))

  abbrev KeyWord : Type 0
  KeyWord = (to_word a 0x4002_3C04 || to_word a 0x4002_3C08) ≡ true

  -- the record with those two registers and their locks as they are given
  abbrev storing : ℕ → ℕ → Lock → Lock → Record
  storing cr optcr lock optlock = with_lock Optcr (with_lock Cr (with_optcr (with_cr r cr) optcr) lock) optlock

  -- every write is refused, stores fields, is done, or is a wrong key
  by_reply : (P : Reply → Type 0) → ((why : Reason) → Plain why → P (refuse why r))
      → ((cr optcr : ℕ) (lock optlock : Lock) (o : Option Running) (y : Reply) → Stored (storing cr optcr lock optlock) o y → P y)
      → ((s : Record) → P (reply (Done 0) s)) → (KeyWord → (s : Record) → P (refuse WrongKey s)) → P answered
  by_reply P bar store done wrong =
      written_by P bar (λ place l k. store r.cr r.optcr r.lock r.optlock program _ (cells_stored place l k)) (λ o l k ok.
      let (some, few) = wide a k.sizes in
      let (e, fits) = l in
      let key : (which : LockOf) → KeyWord → P (onto (register.Key which)) =
      λ which h. let next = keyed (lock_in which r) value (keys_of which) in
      keep (λ b. P (reply b (with_lock which r (after_key next)))) (is_ok next) (Done 0) (Refused WrongKey) (done _) (wrong h _) in
      let control : (which : LockOf) → P (stored timings r len p.options which (word_after (control_of which r) value a)) → P (onto (register.Control which)) =
      λ which y. control_each timings r len p.options P bar which _ (λ _. y) in
      subst P (sym (onto_is o (register_at o) l k ok)) (by_register (λ x. P (onto x)) a.address o e (omega arith) (λ _. done _)
      (λ w. key Cr (rw (eq-eqb (a.address / 4 * 4) 0x4002_3C04 w)))
      (λ w. key Optcr (rw (eq-eqb (a.address / 4 * 4) 0x4002_3C08 w) (or-true (to_word a 0x4002_3C04)))) (λ _. done _)
      (λ _. control Cr (store _ _ _ _ _ _ (cr_stored timings r len p.options (word_after (cr_of r) value a))))
      (λ _. control Optcr (store _ _ _ _ _ _ (optcr_stored timings r len p.options (word_after (optcr_of r) value a))))))
      (λ o l k. done r)

  -- ---- the laws

  abbrev IfTaken : (Reply → Type 0) → Reply → Type 0
  IfTaken P y = accepted (code_of y.answer) ≡ true → P y

  -- a plain refusal has none of the codes of a write that is taken
  unless : (P : Reply → Type 0) (why : Reason) → Plain why → IfTaken P (refuse why r)
  unless P why plain e =
      absurd (true≢false (sym (in_all (λ n. is_in n change_codes ≡ true) (number_of why) (0 ∷ 14 ∷ 17 ∷ []) (refl, (refl, (refl, tt))) e) ∙ plain))

  pub write_cells : WriteCells timings scrap a value p
  write_cells =
      let Keeps : Outcome → Type 0 = λ o.
      (o.part.main ≡ p.main) × (o.part.otp ≡ p.otp) × (o.part.options ≡ p.options)
      × ((to_sram a && eqb (code_of o.answer) 0) ≡ false → o.part.sram ≡ p.sram) in
      stepped Keeps timings scrap (Write a value) p (λ _ _. (refl, refl, refl, λ _. refl)) (λ fits _ ok.
      let k = sound fits ok in
      write_each timings p Keeps (λ _ _. (refl, refl, refl, λ _. refl)) (area_of len a.address a.width) a value
      (λ _ _ _. (refl, refl, refl, λ _. refl)) (λ _ _ _. (refl, refl, refl, λ _. refl))
      (λ o e.
      let here = (to_sram_lem p a k.sizes k.small o (lies p a k.sizes k.small (Sram o) e)).1 in
      keep Keeps (guarded r.mark p.options) _ _ (refl, refl, refl, λ _. refl)
      (refl, refl, refl, λ not_here. absurd (true≢false (sym here ∙ and_false_left (to_sram a) true refl not_here)))))

  -- where a write to the SRAM is done, its bytes lie there
  pub sram_written : SramWritten timings scrap a value p
  sram_written here =
      let Stores : Outcome → Type 0 = λ o.
      code_of o.answer ≡ 0
      → (o.part ≡ with_sram p o.part.sram)
      × Holds o.part.sram (length p.sram) (stored_byte (a.address - 0x4002_4000) a.width value p.sram) in
      let not_here : to_sram a ≡ false → ⊥ = λ e. true≢false (sym here ∙ e) in
      stepped Stores timings scrap (Write a value) p (λ why plain e. plain_other why 0 plain refl e) (λ fits _ ok.
      let k = sound fits ok in
      let room = (fitting timings p (sym (entry1_is timings p) ∙ fits)).sram in
      let lies = lies p a k.sizes k.small in
      write_each timings p Stores (λ why plain e. plain_other why 0 plain refl e) (area_of len a.address a.width) a value
      (λ place e _. absurd (not_here (cells_below p a k.sizes k.small place (lies (Flash place) e))))
      (λ o e _. absurd (not_here (registers_below p a k.sizes k.small o (lies (Registers o) e))))
      (λ o e.
      let (at, end) = lies (Sram o) e in
      let offset : a.address - 0x4002_4000 ≡ o = omega arith in
      keep Stores (guarded r.mark p.options) _ _ (plain_other ClosedAccess 0 refl refl)
      (λ _. (refl, rw offset (stored_holds p.sram o a.width value (omega (arith, room)))))))

  pub write_where : WriteWhere timings scrap a value p
  write_where =
      let P : Reply → Type 0 = λ _. (to_flash a || is_in (a.address / 4 * 4) words || to_sram a) ≡ true in
      written_by (IfTaken P) (unless P) (λ place l k _. rw (to_flash_lem p a k.sizes k.small place l))
      (λ o l k ok _. let (e, fits) = l in let (some, few) = wide a k.sizes in
      let in_words : is_in (a.address / 4 * 4) words ≡ true =
      ap (λ (n : ℕ). is_in (n / 4 * 4) words) e ∙ not-false _ (any_each (λ o. not (is_in ((0x4002_3C00 + o) / 4 * 4) words)) 24 refl o (omega arith)) in
      rw (in_words, or-true (to_flash a)) refl)
      (λ o l k _. rw (to_sram_lem p a k.sizes k.small o l).1 (or-true (to_flash a || is_in (a.address / 4 * 4) words)))

  pub program_starts : ProgramStarts timings scrap a value p
  program_starts here =
      at_cells here (λ y. code_of y.answer ≡ 0 → y.rec ≡ with_op r program) (λ why plain e. plain_other why 0 plain refl e)
      (λ y k e. let (sr, op) = k.done e in k.fields ∙ ap₂ (λ (n : ℕ) (o : Option Running). with_op (with_sr r n) o) sr op)

  -- what is said of a flag, whatever was written
  abbrev Raised : Reply → Type 0
  Raised y =
      code_of y.answer ≡ 17
      → (cr : ℕ) × (optcr : ℕ) × (lock : Lock) × (optlock : Lock) × Flag (value_of y.answer)
      × (y.rec ≡ with_sr (storing cr optcr lock optlock) (bit_or r.sr (bit_or (value_of y.answer) (cond (is_set cr ERRIE) OPERR 0))))

  raised : Raised answered
  raised =
      by_reply Raised (λ why plain e. plain_other why 17 plain refl e)
      (λ cr optcr lock optlock o y k e. let (still, listed, up) = k.flag e in
      (cr, optcr, lock, optlock, listed, k.fields ∙ ap₂ (λ (n : ℕ) (o : Option Running). with_op (with_sr (storing cr optcr lock optlock) n) o) up still))
      (λ s e. absurd (omega arith)) (λ _ s e. absurd (omega arith))

  pub flag_raised : FlagRaised timings scrap a value p
  flag_raised e =
      let (cr, optcr, lock, optlock, listed, same) = raised e in
      let f = value_of answered.answer in
      let operr = cond (is_set cr ERRIE) OPERR 0 in
      let alone : to_flash a ≡ true → answered.rec ≡ with_sr r answered.rec.sr =
      λ here. at_cells here (λ y. code_of y.answer ≡ 17 → y.rec ≡ with_sr r y.rec.sr) (λ why plain z. plain_other why 17 plain refl z)
      (λ y k z. k.fields ∙ ap (with_op (with_sr r y.rec.sr)) (k.flag z).0) e in
      let bits : (k : ℕ) → k < 32 → bit (bit_or r.sr (bit_or f operr)) k ≡ (bit r.sr k || bit f k || (eqb k 1 && bit cr 25)) = λ k h.
      rw (bit_or_lem r.sr (bit_or f operr) k, bit_or_lem f operr k, of_flag k h (is_set cr ERRIE) OPERR (λ k. eqb k 1) refl, a_bit cr 25)
      (sym (or_assoc (bit r.sr k) (bit f k) (eqb k 1 && bit cr 25))) in
      rw same (listed, bits, refl, refl, refl, refl, refl, λ here. sym same ∙ alone here ∙ ap (λ (z : Record). with_sr r z.sr) same)

  -- a write to a word that is taken, and one to CR or OPTCR
  taken_word : (x : Register) → to_word a (word_of x) ≡ true → accepted (code_of answered.answer) ≡ true → answered ≡ onto x
  taken_word x here = at_word x here (IfTaken (λ y. y ≡ onto x)) (unless (λ y. y ≡ onto x)) (λ _. refl)

  taken_control : (which : LockOf) → to_word a (word_of (register.Control which)) ≡ true → accepted (code_of answered.answer) ≡ true
      → answered ≡ stored timings r len p.options which (word_after (control_of which r) value a)
  taken_control which here =
      let P : Reply → Type 0 = λ y. y ≡ stored timings r len p.options which (word_after (control_of which r) value a) in
      at_control which here (IfTaken P) (unless P) (λ _. refl)

  pub acr_written : AcrWritten timings scrap a value p
  acr_written here ok =
      rw (ap (λ (y : Reply). y.rec) (taken_word register.Acr here ok)) (refl, bit_acr r.acr (word_after (register_of r register.Acr) value a))

  pub sr_written : SrWritten timings scrap a value p
  sr_written here ok =
      rw (ap (λ (y : Reply). y.rec) (taken_word register.Sr here ok)) (
        refl,
        λ k h. bit_cleared k h r.sr (word_after 0 value a) sr_flags (lit< tt)
            ∙ ap (λ (t : Bool). bit r.sr k && not (bit (word_after 0 value a) k && t))
            (agree_below (bit sr_flags) (λ k. is_in k (0 ∷ 1 ∷ 4 ∷ 5 ∷ 6 ∷ 7 ∷ [])) 32 refl k h),
      )

  pub cr_written : CrWritten timings scrap a value p
  cr_written here ok =
      let w = word_after (cr_of r) value a in
      let s = with_lock Cr r (cond (bit w 31) (lock_at Closed) r.lock) in
      let y = cr_write timings r len p.options w in
      let k = cr_stored timings r len p.options w in
      let cr = ap (λ (z : Record). z.cr) k.fields in
      let e = taken_control Cr here ok in
      rw (ap (λ (y : Reply). y.rec) e, ap (λ (y : Reply). y.answer) e) (
        k.fields ∙ ap (with_cr (with_op (with_sr s y.rec.sr) y.rec.op)) (sym cr),
        λ i h. ap (λ (n : ℕ). bit n i) cr ∙ of_fields i h w cr_fields (λ k. ltb k 7 || eqb k 8 || eqb k 9 || eqb k 24 || eqb k 25) refl,
        k.done,
        λ z. (k.flag z).0,
      )

  pub optcr_written : OptcrWritten timings scrap a value p
  optcr_written here ok =
      let w = word_after (optcr_of r) value a in
      let s = with_lock Optcr r (cond (bit w 0) (lock_at Closed) r.optlock) in
      let y = optcr_write timings r len p.options w in
      let k = optcr_stored timings r len p.options w in
      let optcr = ap (λ (z : Record). z.optcr) k.fields in
      let e = taken_control Optcr here ok in
      rw (ap (λ (y : Reply). y.rec) e, ap (λ (y : Reply). y.answer) e) (
        k.fields ∙ ap (with_optcr (with_op (with_sr s y.rec.sr) y.rec.op)) (sym optcr),
        λ i h. ap (λ (n : ℕ). bit n i) optcr ∙ of_fields i h w optcr_fields (λ k. eqb k 2 || eqb k 3 || (leb 5 k && ltb k 28)) refl,
        k.done,
        λ z. (k.flag z).0,
      )

  -- what a key word does, for either lock
  abbrev KeyP : LockOf → Reply → Type 0
  KeyP which y =
      let state = (lock_in which r).state in
      let k = keys_of which in
      (y.rec ≡ with_lock which r (lock_at (state_after state k.first k.second value)))
      × (code_of y.answer ≡ cond (right_word state k.first k.second value) 0 14)

  key_by : (which : LockOf) → to_word a (word_of (register.Key which)) ≡ true → accepted (code_of answered.answer) ≡ true → KeyP which answered
  key_by which here =
      at_word (register.Key which) here (IfTaken (KeyP which)) (unless (KeyP which)) (λ _.
      rw ((key_is (lock_in which r).state value (keys_of which)).0, (key_is (lock_in which r).state value (keys_of which)).1)
      (refl, key_code (right_word (lock_in which r).state (keys_of which).first (keys_of which).second value)))

  -- 14 is the code of a key word alone
  key_only : code_of answered.answer ≡ 14 → KeyWord
  key_only =
      by_reply (λ y. code_of y.answer ≡ 14 → KeyWord) (λ why plain e. plain_other why 14 plain refl e)
      (λ _ _ _ _ o y k e. absurd (k.keyless e)) (λ s e. absurd (omega arith)) (λ h s e. h)

  pub key_written : KeyWritten timings scrap a value p
  key_written = (key_by Cr, key_by Optcr, key_only)

  pub wrong_key_lem : WrongKeyCloses timings scrap a value p
  wrong_key_lem e =
      let ok : accepted (code_of answered.answer) ≡ true = rw e in
      by_or (to_word a 0x4002_3C04) (to_word a 0x4002_3C08)
      (λ h. let q = dead Cr h ok e in inl (h, q, ap (λ (z : Record). bit (cr_of z) 31) q ∙ (lock_bits (with_lock Cr r (lock_at Dead))).0))
      (λ h. let q = dead Optcr h ok e in inr (h, q, ap (λ (z : Record). bit (optcr_of z) 0) q ∙ (lock_bits (with_lock Optcr r (lock_at Dead))).1))
      (key_only e)
    where
      wrong : (t : Bool) → ◌≡◌ {A = ℕ} (cond t 0 14) 14 → t ≡ false
      wrong true e = absurd (omega arith)
      wrong false e = refl

      dead : (which : LockOf) → to_word a (word_of (register.Key which)) ≡ true → accepted (code_of answered.answer) ≡ true → code_of answered.answer ≡ 14
          → answered.rec ≡ with_lock which r (lock_at Dead)
      dead which h ok e =
          let (rec, code) = key_by which h ok in
          let state = (lock_in which r).state in
          let k = keys_of which in
          rec ∙ ap (λ (s : LockState). with_lock which r (lock_at s))
          (wrong_dead state k.first k.second value (wrong (right_word state k.first k.second value) (sym code ∙ e)))

  -- a write with another code than 0, 14 and 17 keeps the record
  other_keeps : is_in (code_of answered.answer) change_codes ≡ false → answered.rec ≡ r
  other_keeps =
      by_reply (λ y. is_in (code_of y.answer) change_codes ≡ false → y.rec ≡ r) (λ why plain _. refl)
      (λ _ _ _ _ o y k e. absurd (true≢false (sym k.taken ∙ e))) (λ s e. absurd (true≢false e)) (λ _ s e. absurd (true≢false e))

-- a call of any kind with a code other than 0, 14, 17 and 18 changes nothing
abbrev Keeps : Part → Outcome → Type 0
Keeps p o = is_in (code_of o.answer) change_codes ≡ false → o.part ≡ p

pub other_refusal_keeps : OtherRefusalKeeps
other_refusal_keeps timings scrap (Write a v) p = λ e.
    let (main, otp, options, sram) = write_cells timings scrap a v p in
    let rec = other_keeps timings scrap a v p e in
    let still = sram (ap (λ (b : Bool). to_sram a && b) (or_left _ _ e) ∙ and-false (to_sram a)) in
    λ i. part (rec i) (main i) (otp i) (options i) (still i)
other_refusal_keeps timings scrap (Reset boot) p = step_each (Keeps p) timings scrap (Reset boot) p (λ _ _ _. refl) (λ _ _ _ e. absurd (true≢false e))
other_refusal_keeps timings scrap (Debugger On) p = step_each (Keeps p) timings scrap (Debugger On) p (λ _ _ _. refl) (λ _ _ _ e. absurd (true≢false e))
other_refusal_keeps timings scrap (Debugger Off) p = step_each (Keeps p) timings scrap (Debugger Off) p (λ _ _ _. refl) (λ _ _ e. absurd (true≢false e))
other_refusal_keeps timings scrap (Read a) p = λ _. read_keeps timings scrap a p
other_refusal_keeps timings scrap (Fetch address) p = λ _. fetch_keeps timings scrap address p
other_refusal_keeps timings scrap (Time t) p = step_each (Keeps p) timings scrap (Time t) p (λ _ _ _. refl) (λ _ _ e. absurd (true≢false (sym (timed t) ∙ e)))
  where
    timed : (t : Lapse) → is_in (code_of (lapse_answer t (time_left p.rec.op))) change_codes ≡ true
    timed (Pass u) = refl
    timed (Wait u) = keep (λ (b : Answer). is_in (code_of b) change_codes ≡ true) (leb (time_left p.rec.op).0 (to_micros u).0) _ _ refl refl
