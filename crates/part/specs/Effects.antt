-- What each call leaves, stated on bits and bytes: a law for each sentence of document 01 that says what changes, and laws over all calls on
-- when flags, what runs and cells change. They are proved in proofs/Effects.antt, proofs/WriteEffects.antt and proofs/Changes.antt.
use Rattle.std.specs.Prelude.{Option, Some, None, Bool, true, false, cond, not, ◌&&◌, ◌||◌, List, [], ◌∷◌, ◌⊎◌, ◌↔◌, ◌≡◌, ℕ, ◌+◌, ◌-◌, ◌*◌, ◌/◌, ◌%◌, ◌^◌, ◌≤◌, ◌<◌, eqb, leb, ltb, length, get_or}
use Rattle.std.specs.Int.Bits.{bit_and, bit_or}
use denote.Exit.{left}
use Rattle.lock.specs.Keys.{lock_at}
use Rattle.lock.specs.declared.LockState.{LockState}
use Rattle.lock.specs.declared.LockState.TheVariants.{Open, Closed, HalfOpen, Dead}
use Rattle.map.specs.Sectors.{sector_start, sector_length}
use Rattle.registers.specs.declared.LockOf.TheVariants.{Cr, Optcr}
use Rattle.registers.specs.declared.Register.TheVariants as register
use Rattle.time.specs.Units.{micros}
use Rattle.part.specs.Calls.{step}
use Rattle.part.specs.Operations.{time_left}
use Rattle.part.specs.Reads.{window_of}
use Rattle.part.specs.Registers.{sr_of, cr_of, optcr_of, register_of}
use Rattle.part.specs.Rules.{bit, is_in, among, in_otp, to_flash, to_sram, to_word, word_after, rdp_cell, mark_guards, present, entry1, entry2, right_word}
use Rattle.part.specs.State.{Part, Outcome, code_of, value_of, is_busy, with_acr, with_sr, with_cr, with_optcr, with_lock, with_op, with_debugger, with_sram, having}
use Rattle.part.specs.declared.Access.{Access}
use Rattle.part.specs.declared.Call.{Call}
use Rattle.part.specs.declared.Call.TheVariants.{Reset, Debugger, Read, Write, Time, Fetch}
use Rattle.part.specs.declared.Lapse.TheVariants.{Pass, Wait}
use Rattle.part.specs.declared.Link.TheVariants.{On, Off}
use Rattle.part.specs.declared.Record.{Record}
use Rattle.part.specs.declared.Running.{Running}
use Rattle.part.specs.declared.Target.{Target}
use Rattle.part.specs.declared.Target.TheVariants as target
use Rattle.part.specs.declared.Written.{Written}

-- ---- bytes

-- each is below 256
abbrev pub AreBytes : List ℕ → Type 0
AreBytes s = (i : ℕ) → get_or s i 0 < 256

-- n bytes, of which byte j is f j
pub record Holds (s : List ℕ) (n : ℕ) (f : ℕ → ℕ) : Type 0 where
  pub count : length s ≡ n
  pub byte : (j : ℕ) → j < n → get_or s j 0 ≡ f j

-- byte j after a program operation: old AND written where it was written, and old elsewhere
abbrev pub programmed_byte : Written → List ℕ → ℕ → ℕ
programmed_byte w s j =
    cond (among j w.offset w.width) (bit_and (get_or s j 0) (w.value / 256 ^ (j - w.offset) % 256)) (get_or s j 0)

-- byte j after a store of so many bytes of a value from an offset on: the value's there, and old elsewhere
abbrev pub stored_byte : ℕ → ℕ → ℕ → List ℕ → ℕ → ℕ
stored_byte offset width value s j = cond (among j offset width) (value / 256 ^ (j - offset) % 256) (get_or s j 0)

-- byte j after the erase of sector k: FF there, and old elsewhere
abbrev pub erased_byte : ℕ → List ℕ → ℕ → ℕ
erased_byte k s j = cond (among j (sector_start k) (sector_length k)) 255 (get_or s j 0)

-- byte i of the option cells after a change, from OPTCR: RDP is byte 1, nWRP bytes 8 and 9, USER byte 0
abbrev pub changed_byte : ℕ → ℕ → ℕ
changed_byte optcr i =
    cond (eqb i 9) (0xF0 + optcr / 2 ^ 24 % 16)
    (cond (eqb i 8) (optcr / 2 ^ 16 % 256)
    (cond (eqb i 1) (optcr / 2 ^ 8 % 256)
    (cond (eqb i 0) (0x13 + 4 * (optcr / 4 % 4) + 32 * (optcr / 32 % 8))
    255)))

-- OPTCR's fields from the option cells: bits 7 to 5, 3 and 2 from USER, 15 to 8 from RDP, 23 to 16 and 27 to 24 from the two bytes of nWRP
abbrev pub loaded_bit : List ℕ → ℕ → Bool
loaded_bit options k =
    (bit (get_or options 0 0) k && is_in k (2 ∷ 3 ∷ 5 ∷ 6 ∷ 7 ∷ [])) || (among k 8 8 && bit (get_or options 1 0) (k - 8))
    || (among k 16 8 && bit (get_or options 8 0) (k - 16)) || (among k 24 4 && bit (get_or options 9 0) (k - 24))

-- OPTCR holds what the option cells say, and no bit above
pub record Loads (options : List ℕ) (optcr : ℕ) : Type 0 where
  pub bits : (k : ℕ) → k < 32 → bit optcr k ≡ loaded_bit options k
  pub small : optcr < 2 ^ 32

-- no cell changes
pub record Same (p q : Part) : Type 0 where
  pub main : q.main ≡ p.main
  pub otp : q.otp ≡ p.otp
  pub options : q.options ≡ p.options
  pub sram : q.sram ≡ p.sram

-- each byte of main flash, or of OTP, becomes what f says, and the other stays
abbrev pub Programs : Bool → (List ℕ → ℕ → ℕ) → Part → Part → Type 0
Programs true f p q = (q.main ≡ p.main) × Holds q.otp (length p.otp) (f p.otp)
Programs false f p q = Holds q.main (length p.main) (f p.main) × (q.otp ≡ p.otp)

-- ---- the cut: byte i of what is being changed takes scrap byte i, and every other byte stays

-- byte j after a program operation that is cut: old AND (written OR scrap) where it was written
abbrev pub spared_byte : List ℕ → Written → List ℕ → ℕ → ℕ
spared_byte scrap w s j =
    let i = j - w.offset in
    cond (among j w.offset w.width) (bit_and (get_or s j 0) (bit_or (w.value / 256 ^ i % 256) (get_or scrap i 0))) (get_or s j 0)

-- byte j after an erase of n bytes from a start that is cut: scrap there
abbrev pub scrap_byte : List ℕ → ℕ → ℕ → List ℕ → ℕ → ℕ
scrap_byte scrap start n s j = cond (among j start n) (get_or scrap (j - start) 0) (get_or s j 0)

-- an option cell: old, FF or new as scrap leaves 0, 1 or 2 by 3
abbrev pub one_of_three : ℕ → ℕ → ℕ → ℕ
one_of_three scrap old new = cond (eqb (scrap % 3) 2) new (cond (eqb (scrap % 3) 1) 0xFF old)

-- the cells after the cut of an operation with so many microseconds left. The option cells of a regression are what it is changing from its option
-- time on; RDP alone is new then, and main flash and SRAM are as its end leaves them
abbrev pub Cuts : List ℕ → Part → Target → ℕ → Part → Type 0
Cuts scrap p (target.Bytes w) left q = Programs w.otp (spared_byte scrap w) p q × (q.options ≡ p.options) × (q.sram ≡ p.sram)
Cuts scrap p (target.Sector k) left q =
    Holds q.main (length p.main) (scrap_byte scrap (sector_start k) (sector_length k) p.main) × (q.otp ≡ p.otp) × (q.options ≡ p.options)
    × (q.sram ≡ p.sram)
Cuts scrap p (target.Main len) left q =
    Holds q.main (length p.main) (λ j. get_or scrap j 0) × (q.otp ≡ p.otp) × (q.options ≡ p.options) × (q.sram ≡ p.sram)
Cuts scrap p target.Options left q =
    (q.main ≡ p.main) × (q.otp ≡ p.otp) × (q.sram ≡ p.sram)
    × Holds q.options 16 (λ i. one_of_three (get_or scrap i 0) (get_or p.options i 0) (changed_byte p.rec.optcr i))
Cuts scrap p (target.Regression len option) left q =
    (q.otp ≡ p.otp)
    × (option.0 < left → Holds q.main (length p.main) (λ j. get_or scrap j 0) × (q.options ≡ p.options) × (q.sram ≡ p.sram))
    × (left ≤ option.0
    → Holds q.main (length p.main) (λ j. 255) × Holds q.sram (length p.sram) (λ j. 0)
    × Holds q.options 16 (λ i. one_of_three (get_or scrap i 0) (get_or p.options i 0) (cond (eqb i 1) 0xAA (get_or p.options i 0))))

-- what a cut can do to a byte of main flash or OTP that is being programmed: only bits can fall that were 1 and are 0 in what was written; one that
-- was 0 stays 0, and every byte that was not written stays
abbrev pub OnlyFalls : Type 0
OnlyFalls =
    (scrap : List ℕ) (w : Written) (s : List ℕ) (j : ℕ)
    → (among j w.offset w.width ≡ false → spared_byte scrap w s j ≡ get_or s j 0)
    × ((k : ℕ) → bit (get_or s j 0) k ≡ false → bit (spared_byte scrap w s j) k ≡ false)
    × ((k : ℕ) → bit (get_or s j 0) k ≡ true → bit (spared_byte scrap w s j) k ≡ false → bit (w.value / 256 ^ (j - w.offset) % 256) k ≡ false)

-- an option cell is one of three, whatever the scrap
abbrev pub OneOfThree : Type 0
OneOfThree =
    (scrap old new : ℕ)
    → (one_of_three scrap old new ≡ old) ⊎ (one_of_three scrap old new ≡ 0xFF) ⊎ (one_of_three scrap old new ≡ new)

-- ---- reset, the debugger, read

-- a reset sets every field; OPTCR's fields load from the option cells that it leaves, and by these a debugger leaves at level 2, once it has set
-- the mark. Of the cells those change that an operation was changing
pub record IsReset (scrap : List ℕ) (p : Part) (boot : ℕ) (q : Part) : Type 0 where
  pub fields : q.rec
      ≡ record {
        acr = 0;
        sr = 0;
        cr = 0;
        lock = record { state = Closed };
        optcr = q.rec.optcr;
        optlock = record { state = Closed };
        op = None;
        power = true;
        debugger = p.rec.debugger && not (eqb (rdp_cell q) 0xCC);
        mark = not (eqb boot 0) || p.rec.debugger;
      }
  pub optcr : Loads q.options q.rec.optcr
  pub idle : p.rec.op ≡ None → Same p q
  pub cut : (running : Running) → p.rec.op ≡ Some running → Cuts scrap p running.target running.left.0 q

abbrev pub ResetEffect : Type 0
ResetEffect =
    (timings scrap : List ℕ) (boot : ℕ) (p : Part) → AreBytes p.options → AreBytes scrap → code_of (step timings scrap (Reset boot) p).answer ≡ 0
    → IsReset scrap p boot (step timings scrap (Reset boot) p).part

-- debugger on connects and sets the mark, and changes nothing else
abbrev pub OnEffect : Type 0
OnEffect =
    (timings scrap : List ℕ) (p : Part) → code_of (step timings scrap (Debugger On) p).answer ≡ 0
    → (step timings scrap (Debugger On) p).part ≡ having p (with_debugger p.rec true true)

-- debugger off disconnects, and changes nothing else, the mark neither
abbrev pub OffEffect : Type 0
OffEffect =
    (timings scrap : List ℕ) (p : Part) → code_of (step timings scrap (Debugger Off) p).answer ≡ 0
    → (step timings scrap (Debugger Off) p).part ≡ having p (with_debugger p.rec false p.rec.mark)

-- a read and a fetch change nothing, whatever they answer
abbrev pub ReadKeeps : Type 0
ReadKeeps = (timings scrap : List ℕ) (a : Access) (p : Part) → (step timings scrap (Read a) p).part ≡ p

abbrev pub FetchKeeps : Type 0
FetchKeeps = (timings scrap : List ℕ) (address : ℕ) (p : Part) → (step timings scrap (Fetch address) p).part ≡ p

-- ---- the end of an operation

-- the backup SRAM, the option cells, OPTCR and the debugger stay
pub record Stays (p q : Part) : Type 0 where
  pub sram : q.sram ≡ p.sram
  pub options : q.options ≡ p.options
  pub optcr : q.rec.optcr ≡ p.rec.optcr
  pub debugger : q.rec.debugger ≡ p.rec.debugger

-- the cells, OPTCR and the debugger after the end of an operation, by its target
abbrev pub Leaves : Part → Target → Part → Type 0
Leaves p (target.Bytes w) q = Programs w.otp (programmed_byte w) p q × Stays p q
Leaves p (target.Sector k) q = Holds q.main (length p.main) (erased_byte k p.main) × (q.otp ≡ p.otp) × Stays p q
Leaves p (target.Main len) q = Holds q.main (length p.main) (λ j. 255) × (q.otp ≡ p.otp) × Stays p q
Leaves p target.Options q =
    (q.main ≡ p.main) × (q.otp ≡ p.otp) × (q.sram ≡ p.sram) × Holds q.options 16 (changed_byte p.rec.optcr)
    × Loads q.options q.rec.optcr × (q.rec.debugger ≡ (p.rec.debugger && not (eqb (rdp_cell q) 0xCC)))
Leaves p (target.Regression len option) q =
    Holds q.main (length p.main) (λ j. 255) × (q.otp ≡ p.otp) × Holds q.sram (length p.sram) (λ j. 0)
    × Holds q.options 16 (λ i. cond (eqb i 1) 0xAA (get_or p.options i 0)) × Loads q.options q.rec.optcr × (q.rec.debugger ≡ p.rec.debugger)

-- an operation with that target ends: nothing runs, EOP (bit 0) rises if EOPIE (bit 24) is set, and all but what Leaves names is as before
pub record Ends (p : Part) (t : Target) (q : Part) : Type 0 where
  pub fields : q.rec ≡ with_debugger (with_optcr (with_sr (with_op p.rec None) q.rec.sr) q.rec.optcr) q.rec.debugger p.rec.mark
  pub sr : (k : ℕ) → bit q.rec.sr k ≡ (bit p.rec.sr k || (eqb k 0 && bit p.rec.cr 24))
  pub leaves : Leaves p t q

-- ---- pass and wait

-- the part while an operation still runs: t microseconds less are left, and nothing else changes
abbrev pub nearer : Part → Running → ℕ → Part
nearer p running t = having p (with_op p.rec (Some (record { target = running.target; left = micros (running.left.0 - t) })))

-- t microseconds pass: nothing changes while idle, what runs comes nearer its end, and it ends when its last microsecond passes
pub record Passes (p : Part) (t : ℕ) (q : Part) : Type 0 where
  pub idle : p.rec.op ≡ None → q ≡ p
  pub on : (running : Running) → p.rec.op ≡ Some running → t < running.left.0 → q ≡ nearer p running t
  pub over : (running : Running) → p.rec.op ≡ Some running → running.left.0 ≤ t → AreBytes p.options → Ends p running.target q

-- a pass that is done lets its time pass
abbrev pub PassEffect : Type 0
PassEffect =
    (timings scrap : List ℕ) (p : Part) (t : ℕ) → code_of (step timings scrap (Time (Pass (micros t))) p).answer ≡ 0
    → Passes p t (step timings scrap (Time (Pass (micros t))) p).part

-- a wait is done where what is left passes within its limit, 1,000 microseconds for each of its milliseconds; that time is the value
pub record Waited (p : Part) (limit : ℕ) (o : Outcome) : Type 0 where
  pub within : (time_left p.rec.op).0 ≤ limit
  pub value : value_of o.answer ≡ (time_left p.rec.op).0
  pub part : Passes p (time_left p.rec.op).0 o.part

abbrev pub WaitDone : Type 0
WaitDone =
    (timings scrap : List ℕ) (p : Part) (t : ℕ)
    → (let o = step timings scrap (Time (Wait (record { 0 = t }))) p in code_of o.answer ≡ 0 → Waited p (1000 * t) o)

-- a wait expires where more is left than its limit; the limit has passed, and is the value
pub record RanOut (p : Part) (limit : ℕ) (o : Outcome) : Type 0 where
  pub running : Running
  pub runs : p.rec.op ≡ Some running
  pub more : limit < running.left.0
  pub value : value_of o.answer ≡ limit
  pub part : o.part ≡ nearer p running limit

abbrev pub WaitExpired : Type 0
WaitExpired =
    (timings scrap : List ℕ) (p : Part) (t : ℕ)
    → (let o = step timings scrap (Time (Wait (record { 0 = t }))) p in code_of o.answer ≡ 18 → RanOut p (1000 * t) o)

-- ---- the window

-- refusal 1 or 2 applies, no power, busy, the sector not present, who above 1 or a debugger that is not connected, or a read there is closed
abbrev pub shut : List ℕ → Part → ℕ → ℕ → Bool
shut timings p who sector =
    entry1 timings p || entry2 timings || not p.rec.power || is_busy p.rec.op || not (present p sector) || not (is_in who (0 ∷ 1 ∷ []))
    || (eqb who 1 && not p.rec.debugger) || mark_guards p

-- it is empty exactly where it is shut, and else has the sector's length and bytes
abbrev pub WindowShows : Type 0
WindowShows =
    (timings : List ℕ) (p : Part) (who sector : ℕ)
    → ((window_of timings p who sector ≡ []) ↔ (shut timings p who sector ≡ true))
    × (shut timings p who sector ≡ false → Holds (window_of timings p who sector) (sector_length sector) (λ i. get_or p.main (sector_start sector + i) 0))

-- ---- a write

-- the codes with which a write can change the record: done, wrong key, flag raised
abbrev pub accepted : ℕ → Bool
accepted code = is_in code (0 ∷ 14 ∷ 17 ∷ [])

-- what a key word makes of a lock's state: Closed takes the first key, HalfOpen the second, and every other word leads to Dead
abbrev pub state_after : LockState → ℕ → ℕ → ℕ → LockState
state_after Open first second word = Dead
state_after Closed first second word = cond (eqb word first) HalfOpen Dead
state_after HalfOpen first second word = cond (eqb word second) Open Dead
state_after Dead first second word = Dead

module _ (timings scrap : List ℕ) (a : Access) (value : ℕ) (p : Part) where
  abbrev pub x : Outcome
  x = step timings scrap (Write a value) p

  abbrev pub r : Record
  r = p.rec

  abbrev pub after : Record
  after = x.part.rec

  abbrev pub code : ℕ
  code = code_of x.answer

  -- a write changes no cell of the flash memory, and the backup SRAM only where it is to that and done
  abbrev pub WriteCells : Type 0
  WriteCells =
      (x.part.main ≡ p.main) × (x.part.otp ≡ p.otp) × (x.part.options ≡ p.options)
      × ((to_sram a && eqb code 0) ≡ false → x.part.sram ≡ p.sram)

  -- a write with code 0, 14 or 17 is to flash cells, to one of the six registers or to the SRAM, so one of the laws below speaks of it
  abbrev pub WriteWhere : Type 0
  WriteWhere =
      accepted code ≡ true
      → (to_flash a || is_in (a.address / 4 * 4) (0x4002_3C00 ∷ 0x4002_3C04 ∷ 0x4002_3C08 ∷ 0x4002_3C0C ∷ 0x4002_3C10 ∷ 0x4002_3C14 ∷ []) || to_sram a)
      ≡ true

  -- a write to the backup SRAM that is done stores its bytes there, at once, and changes nothing else, the record neither
  abbrev pub SramWritten : Type 0
  SramWritten =
      to_sram a ≡ true → code ≡ 0
      → (x.part ≡ with_sram p x.part.sram)
      × Holds x.part.sram (length p.sram) (stored_byte (a.address - 0x4002_4000) a.width value p.sram)

  -- a write to flash cells that is done starts to program, for the program time in the row of PSIZE (bits 9 and 8 of CR)
  abbrev pub ProgramStarts : Type 0
  ProgramStarts =
      to_flash a ≡ true → code ≡ 0
      → after ≡ with_op r (Some (record {
        target = target.Bytes (record {
          value = value;
          offset = a.address - cond (in_otp a.address) 0x1FFF_7800 0x0800_0000;
          width = a.width;
          otp = in_otp a.address;
        });
        left = micros (get_or timings (r.cr / 256 % 4 * 6) 0);
      }))

  -- one flag rises, and OPERR (bit 1) with it where ERRIE, bit 25 of CR as the write leaves it, is 1; what runs, ACR, power, debugger and mark
  -- stay, and a write to flash cells changes nothing else at all
  abbrev pub FlagRaised : Type 0
  FlagRaised =
      code ≡ 17
      → (is_in (value_of x.answer) (0x80 ∷ 0x40 ∷ 0x20 ∷ 0x10 ∷ []) ≡ true)
      × ((k : ℕ) → k < 32 → bit after.sr k ≡ (bit r.sr k || bit (value_of x.answer) k || (eqb k 1 && bit after.cr 25)))
      × (after.op ≡ r.op) × (after.acr ≡ r.acr) × (after.power ≡ r.power) × (after.debugger ≡ r.debugger) × (after.mark ≡ r.mark)
      × (to_flash a ≡ true → after ≡ with_sr r after.sr)

  -- ACR takes bits 12 to 8 and 2 to 0, but keeps bit 12 where bit 10 (DCEN) was 1, and bit 11 where bit 9 (ICEN) was 1
  abbrev pub AcrWritten : Type 0
  AcrWritten =
      to_word a 0x4002_3C00 ≡ true → accepted code ≡ true
      → (after ≡ with_acr r after.acr)
      × ((k : ℕ) → k < 32
      → bit after.acr k
      ≡ cond ((bit r.acr 10 && eqb k 12) || (bit r.acr 9 && eqb k 11)) (bit r.acr k)
      (bit (word_after (register_of r register.Acr) value a) k && (ltb k 3 || (ltb 7 k && ltb k 13))))

  -- of SR, a flag stays exactly where no 1 is written to one of bits 7 to 4, 1 and 0; lanes not written count as 0
  abbrev pub SrWritten : Type 0
  SrWritten =
      to_word a 0x4002_3C0C ≡ true → accepted code ≡ true
      → (after ≡ with_sr r after.sr)
      × ((k : ℕ) → k < 32
      → bit after.sr k ≡ (bit r.sr k && not (bit (word_after 0 value a) k && is_in k (0 ∷ 1 ∷ 4 ∷ 5 ∷ 6 ∷ 7 ∷ []))))

  -- CR stores its fields; LOCK (bit 31) closes the lock; with code 0 STRT (bit 16) starts an erase, of sector SNB (bits 6 to 3) where SER
  -- (bit 1) is set and else of all, for the time in the row of PSIZE (bits 9 and 8); with 17 nothing starts
  abbrev pub CrWritten : Type 0
  CrWritten =
      to_word a 0x4002_3C10 ≡ true → accepted code ≡ true
      → (let w = word_after (cr_of r) value a in
      (after ≡ with_lock Cr (with_cr (with_op (with_sr r after.sr) after.op) after.cr) (cond (bit w 31) (lock_at Closed) r.lock))
      × ((k : ℕ) → k < 32 → bit after.cr k ≡ (bit w k && (ltb k 7 || eqb k 8 || eqb k 9 || eqb k 24 || eqb k 25)))
      × (code ≡ 0
      → (after.sr ≡ r.sr)
      × (after.op ≡ cond (bit w 16) (Some (record {
        target = cond (bit w 1) (target.Sector (w / 8 % 16)) (target.Main (length p.main));
        left = micros (get_or timings (w / 256 % 4 * 6 + cond (bit w 1) (cond (ltb (w / 8 % 16) 4) 1 (cond (eqb (w / 8 % 16) 4) 2 3)) 4) 0);
      })) r.op))
      × (code ≡ 17 → after.op ≡ r.op))

  -- OPTCR stores its fields; OPTLOCK (bit 0) closes the lock; with code 0 OPTSTRT (bit 1) starts a regression where RDP of the cells is not
  -- AA and RDP of OPTCR (bits 15 to 8) is, for mass erase plus option time, and else an option change, for option time; with 17 nothing starts
  abbrev pub OptcrWritten : Type 0
  OptcrWritten =
      to_word a 0x4002_3C14 ≡ true → accepted code ≡ true
      → (let w = word_after (optcr_of r) value a in
      let regress = not (eqb (rdp_cell p) 0xAA) && eqb (w / 256 % 256) 0xAA in
      let row = r.cr / 256 % 4 in
      (after ≡ with_lock Optcr (with_optcr (with_op (with_sr r after.sr) after.op) after.optcr) (cond (bit w 0) (lock_at Closed) r.optlock))
      × ((k : ℕ) → k < 32 → bit after.optcr k ≡ (bit w k && (eqb k 2 || eqb k 3 || (leb 5 k && ltb k 28))))
      × (code ≡ 0
      → (after.sr ≡ r.sr)
      × (after.op ≡ cond (bit w 1) (Some (record {
        target = cond regress (target.Regression (length p.main) (micros (get_or timings (row * 6 + 5) 0))) target.Options;
        left = micros (cond regress (get_or timings (row * 6 + 4) 0 + get_or timings (row * 6 + 5) 0) (get_or timings (row * 6 + 5) 0));
      })) r.op))
      × (code ≡ 17 → after.op ≡ r.op))

  -- a key word takes its lock a step on or closes it until reset; the code is 0 exactly where it is the word that the lock waits for, and else
  -- 14. No other write has code 14
  abbrev pub KeyWritten : Type 0
  KeyWritten =
      (to_word a 0x4002_3C04 ≡ true → accepted code ≡ true
      → (after ≡ with_lock Cr r (lock_at (state_after r.lock.state 0x4567_0123 0xCDEF_89AB value)))
      × (code ≡ cond (right_word r.lock.state 0x4567_0123 0xCDEF_89AB value) 0 14))
      × (to_word a 0x4002_3C08 ≡ true → accepted code ≡ true
      → (after ≡ with_lock Optcr r (lock_at (state_after r.optlock.state 0x0819_2A3B 0x4C5D_6E7F value)))
      × (code ≡ cond (right_word r.optlock.state 0x0819_2A3B 0x4C5D_6E7F value) 0 14))
      × (code ≡ 14 → (to_word a 0x4002_3C04 || to_word a 0x4002_3C08) ≡ true)

  -- a wrong key closes its lock until reset, and LOCK (bit 31 of CR) or OPTLOCK (bit 0 of OPTCR) then reads 1; nothing else changes
  abbrev pub WrongKeyCloses : Type 0
  WrongKeyCloses =
      code ≡ 14
      → ((to_word a 0x4002_3C04 ≡ true) × (after ≡ with_lock Cr r (lock_at Dead)) × (bit (cr_of after) 31 ≡ true))
      ⊎ ((to_word a 0x4002_3C08 ≡ true) × (after ≡ with_lock Optcr r (lock_at Dead)) × (bit (optcr_of after) 0 ≡ true))

-- ---- every call

-- a call with a code other than 0, 14, 17 and 18 changes nothing
abbrev pub OtherRefusalKeeps : Type 0
OtherRefusalKeeps =
    (timings scrap : List ℕ) (c : Call) (p : Part) → is_in (code_of (step timings scrap c p).answer) (0 ∷ 14 ∷ 17 ∷ 18 ∷ []) ≡ false
    → (step timings scrap c p).part ≡ p

abbrev pub is_reset : Call → Bool
is_reset (Reset boot) = true
is_reset (Debugger link) = false
is_reset (Read a) = false
is_reset (Write a v) = false
is_reset (Time t) = false
is_reset (Fetch address) = false

-- the call lets n microseconds pass, a wait 1,000 for each of its milliseconds
abbrev pub lets : Call → ℕ → Bool
lets (Reset boot) n = false
lets (Debugger link) n = false
lets (Read a) n = false
lets (Write a v) n = false
lets (Time (Pass t)) n = leb n t.0
lets (Time (Wait t)) n = leb n (1000 * t.0)
lets (Fetch address) n = false

-- a pass or a wait covers what is left of what runs
abbrev pub covers : Call → Option Running → Bool
covers c op = lets c (time_left op).0 && is_busy op

-- a reset, or a write to SR with a 1 for flag k; the lanes that it does not write count as 0
abbrev pub clears : Call → ℕ → Bool
clears (Reset boot) k = true
clears (Debugger link) k = false
clears (Read a) k = false
clears (Write a v) k = to_word a 0x4002_3C0C && (bit (word_after 0 v a) k && is_in k (0 ∷ 1 ∷ 4 ∷ 5 ∷ 6 ∷ 7 ∷ []))
clears (Time t) k = false
clears (Fetch address) k = false

-- a write to flash cells, to CR with a 1 for STRT (bit 16), or to OPTCR with a 1 for OPTSTRT (bit 1)
abbrev pub asks : Call → Record → Bool
asks (Reset boot) s = false
asks (Debugger link) s = false
asks (Read a) s = false
asks (Write a v) s =
    to_flash a || (to_word a 0x4002_3C10 && bit (word_after (cr_of s) v a) 16) || (to_word a 0x4002_3C14 && bit (word_after (optcr_of s) v a) 1)
asks (Time t) s = false
asks (Fetch address) s = false

-- a write to the backup SRAM, and an access of either kind there
abbrev pub writes_sram : Call → Bool
writes_sram (Reset boot) = false
writes_sram (Debugger link) = false
writes_sram (Read a) = false
writes_sram (Write a v) = to_sram a
writes_sram (Time t) = false
writes_sram (Fetch address) = false

abbrev pub uses_sram : Call → Bool
uses_sram (Reset boot) = false
uses_sram (Debugger link) = false
uses_sram (Read a) = to_sram a
uses_sram (Write a v) = to_sram a
uses_sram (Time t) = false
uses_sram (Fetch address) = false

module _ (timings scrap : List ℕ) (c : Call) (p : Part) where
  abbrev result : ℕ
  result = code_of (step timings scrap c p).answer

  abbrev before : Record
  before = p.rec

  abbrev next : Record
  next = (step timings scrap c p).part.rec

  -- PGSERR is bit 7, PGPERR 6, PGAERR 5, WRPERR 4: such a flag rises where it is the value of an answer with code 17, and only there
  abbrev pub FlagRises : Type 0
  FlagRises =
      (k : ℕ) → is_in k (4 ∷ 5 ∷ 6 ∷ 7 ∷ []) ≡ true
      → (bit before.sr k ≡ false → bit next.sr k ≡ true → (result ≡ 17) × (value_of (step timings scrap c p).answer ≡ 2 ^ k))
      × (result ≡ 17 → value_of (step timings scrap c p).answer ≡ 2 ^ k → bit next.sr k ≡ true)

  -- OPERR (bit 1) rises where the code is 17 and ERRIE, bit 25 of CR as the call leaves it, is 1, and only there
  abbrev pub OperrRises : Type 0
  OperrRises =
      (bit before.sr 1 ≡ false → bit next.sr 1 ≡ true → (result ≡ 17) × (bit next.cr 25 ≡ true))
      × (result ≡ 17 → bit next.cr 25 ≡ true → bit next.sr 1 ≡ true)

  -- what runs ends by a reset that is done, or by a pass or a wait that is done and covers what is left, and only so
  abbrev pub EndsOnly : Type 0
  EndsOnly =
      (is_busy before.op ≡ true → is_busy next.op ≡ false → (result ≡ 0) × ((is_reset c || covers c before.op) ≡ true))
      × (result ≡ 0 → (is_reset c || covers c before.op) ≡ true → next.op ≡ None)

  -- EOP (bit 0) rises where a pass or a wait that is done covers what is left of what runs, so that it ends, and EOPIE (bit 24 of CR) is 1
  abbrev pub EopRises : Type 0
  EopRises =
      (bit before.sr 0 ≡ false → bit next.sr 0 ≡ true
      → (result ≡ 0) × (covers c before.op ≡ true) × (next.op ≡ None) × (bit before.cr 24 ≡ true))
      × (result ≡ 0 → covers c before.op ≡ true → bit before.cr 24 ≡ true → bit next.sr 0 ≡ true)

  -- a bit of SR falls only by a reset that is done, or by a write to SR that is done and has a 1 for it
  abbrev pub FlagFalls : Type 0
  FlagFalls = (k : ℕ) → k < 32 → bit before.sr k ≡ true → bit next.sr k ≡ false → (result ≡ 0) × (clears c k ≡ true)

  -- where nothing runs, something runs after a write to flash cells, to CR with STRT or to OPTCR with OPTSTRT that is done, and only then
  abbrev pub Starts : Type 0
  Starts =
      (is_busy before.op ≡ false → is_busy next.op ≡ true → (result ≡ 0) × (asks c before ≡ true))
      × (result ≡ 0 → asks c before ≡ true → is_busy next.op ≡ true)

  -- cells change only at an end, a pass or a wait that is done and covers what is left, and by a reset that is done and cuts what runs, but for the
  -- backup SRAM, which a write to it that is done changes too, and then it alone
  abbrev pub CellsChange : Type 0
  CellsChange =
      Same p (step timings scrap c p).part
      ⊎ ((result ≡ 0) × (writes_sram c ≡ true) × ((step timings scrap c p).part ≡ with_sram p (step timings scrap c p).part.sram))
      ⊎ ((running : Running) × (before.op ≡ Some running) × (result ≡ 0) × (covers c before.op ≡ true)
      × Ends p running.target (step timings scrap c p).part)
      ⊎ ((running : Running) × (before.op ≡ Some running) × (result ≡ 0) × (is_reset c ≡ true)
      × Cuts scrap p running.target running.left.0 (step timings scrap c p).part)

  -- an access to the backup SRAM never stalls, whatever runs, wants no alignment and no lock, and raises no flag: of the refusals that look at the
  -- part's state it meets 10, 15 and 13 alone
  abbrev pub SramApart : Type 0
  SramApart = uses_sram c ≡ true → is_in result (0 ∷ 1 ∷ 2 ∷ 5 ∷ 7 ∷ 10 ∷ 13 ∷ 15 ∷ []) ≡ true

  -- a call is stalled (11), a wait expires (18), and scrap is too short (21), only while BSY, bit 16 of SR, reads 1
  abbrev pub OnlyWhileBusy : Type 0
  OnlyWhileBusy = is_in result (11 ∷ 18 ∷ 21 ∷ []) ≡ true → bit (sr_of before) 16 ≡ true

-- every law over all calls; option cells and scrap are bytes
abbrev pub Changes : Type 0
Changes =
    (timings scrap : List ℕ) (c : Call) (p : Part) → AreBytes p.options → AreBytes scrap
    → FlagRises timings scrap c p × OperrRises timings scrap c p × EndsOnly timings scrap c p × EopRises timings scrap c p × FlagFalls timings scrap c p
    × Starts timings scrap c p × CellsChange timings scrap c p × SramApart timings scrap c p × OnlyWhileBusy timings scrap c p
