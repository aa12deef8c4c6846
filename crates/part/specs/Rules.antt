-- Document 01's numbered entries once more, each as a test on arguments, cells and what the registers read, byte by byte and bit by bit.
-- An entry is stated for calls that no earlier one of the order refuses: so an access below 40023C00 is one to flash cells, since it is in the map.
-- proofs/Codes.antt shows that the step answers with the first entry that applies, and else with the value given here.
use Rattle.std.specs.Prelude.{Option, Some, None, is_some, unwrap_or, Bool, true, false, cond, not, ◌&&◌, ◌||◌, List, [], ◌∷◌, ◌↔◌, ◌≡◌, ℕ, zero, suc, ◌+◌, ◌-◌, ◌*◌, ◌/◌, ◌%◌, ◌^◌, ◌<◌, eqb, leb, ltb, length, get_or}
use Rattle.lock.specs.declared.LockState.{LockState}
use Rattle.lock.specs.declared.LockState.TheVariants.{Open, Closed, HalfOpen, Dead}
use Rattle.map.specs.Sectors.{sector_start, sector_length, sector_of}
use Rattle.registers.specs.declared.Register.TheVariants.{Acr}
use Rattle.part.specs.Calls.{step}
use Rattle.part.specs.Operations.{time_left, none_left}
use Rattle.part.specs.Registers.{sr_of, cr_of, optcr_of, register_of}
use Rattle.part.specs.State.{Part, is_busy, code_of, value_of}
use Rattle.part.specs.declared.Access.{Access}
use Rattle.part.specs.declared.Running.{Running}
use Rattle.part.specs.declared.Call.{Call}
use Rattle.part.specs.declared.Call.TheVariants.{Reset, Debugger, Read, Write, Time, Fetch}
use Rattle.part.specs.declared.Lapse.TheVariants.{Pass, Wait}
use Rattle.part.specs.declared.Link.TheVariants.{On, Off}
use Rattle.part.specs.declared.Target.{Target}
use Rattle.part.specs.declared.Target.TheVariants as target

-- ---- words: a bit, a search, a byte's place

abbrev pub bit : ℕ → ℕ → Bool
bit x k = eqb (x / 2 ^ k % 2) 1

-- some number below n passes the test
abbrev pub any_below : (ℕ → Bool) → ℕ → Bool
any_below f zero = false
any_below f (suc n) = f n || any_below f n

abbrev pub is_in : ℕ → List ℕ → Bool
is_in x [] = false
is_in x (y ∷ ys) = eqb x y || is_in x ys

-- the byte at address b is one of the n from base
abbrev pub among : ℕ → ℕ → ℕ → Bool
among b base n = leb base b && ltb b (base + n)

abbrev pub in_main : Part → ℕ → Bool
in_main p b = among b 0x0800_0000 (length p.main)

abbrev pub in_system : ℕ → Bool
in_system b = among b 0x1FFF_0000 0x7800

abbrev pub in_otp : ℕ → Bool
in_otp b = among b 0x1FFF_7800 528

abbrev pub in_options : ℕ → Bool
in_options b = among b 0x1FFF_C000 16

abbrev pub in_registers : ℕ → Bool
in_registers b = among b 0x4002_3C00 24

abbrev pub in_sram : ℕ → Bool
in_sram b = among b 0x4002_4000 4096

-- some byte of the access passes the test
abbrev pub any_byte : (ℕ → Bool) → Access → Bool
any_byte f a = any_below (λ i. f (a.address + i)) a.width

-- cells of the flash memory have lower addresses than registers, and the backup SRAM has higher ones; a register's word
abbrev pub to_flash : Access → Bool
to_flash a = ltb a.address 0x4002_3C00

abbrev pub to_sram : Access → Bool
to_sram a = leb 0x4002_4000 a.address

abbrev pub to_word : Access → ℕ → Bool
to_word a word = eqb (a.address / 4 * 4) word

-- byte lane i of a word after a write of `width` bytes at lane o, and the word
abbrev pub lane_after : ℕ → ℕ → ℕ → ℕ → ℕ → ℕ
lane_after old value width o i = cond (leb o i && ltb i (o + width)) (value / 256 ^ (i - o) % 256) (old / 256 ^ i % 256)

abbrev pub word_after : ℕ → ℕ → Access → ℕ
word_after old value a =
    lane_after old value a.width (a.address % 4) 0 + 256 * lane_after old value a.width (a.address % 4) 1
    + 256 ^ 2 * lane_after old value a.width (a.address % 4) 2 + 256 ^ 3 * lane_after old value a.width (a.address % 4) 3

-- RDP, and the mark at level 1 or 2
abbrev pub rdp_cell : Part → ℕ
rdp_cell p = get_or p.options 1 0

abbrev pub mark_guards : Part → Bool
mark_guards p = p.rec.mark && not (eqb (rdp_cell p) 0xAA)

-- bit k of nWRP: bytes 8 and 9 of the option cells
abbrev pub nwrp_bit : Part → ℕ → Bool
nwrp_bit p k = cond (ltb k 8) (bit (get_or p.options 8 0) k) (bit (get_or p.options 9 0) (k - 8))

-- sector k ends inside main flash
abbrev pub present : Part → ℕ → Bool
present p k = leb (sector_start k + sector_length k) (length p.main)

-- ---- refusals of the input

abbrev pub target_fits : Target → Part → Bool
target_fits (target.Bytes w) p = leb (w.offset + w.width) (cond w.otp (length p.otp) (length p.main))
target_fits (target.Sector k) p = present p k
target_fits (target.Main len) p = eqb len (length p.main)
target_fits target.Options p = true
target_fits (target.Regression len option) p = eqb len (length p.main)

abbrev pub operation_fits : Option Running → Part → Bool
operation_fits None p = true
operation_fits (Some running) p = target_fits running.target p

-- the lengths of the parts with 1 to 12 sectors
abbrev pub main_lengths : List ℕ
main_lengths =
    16_384 ∷ 32_768 ∷ 49_152 ∷ 65_536 ∷ 131_072 ∷ 262_144 ∷ 393_216 ∷ 524_288 ∷ 655_360 ∷ 786_432 ∷ 917_504 ∷ 1_048_576 ∷ []

abbrev pub entry1 : List ℕ → Part → Bool
entry1 timings p =
    not (is_in (length p.main) main_lengths && eqb (length p.otp) 528 && eqb (length p.options) 16 && eqb (length p.sram) 4096
    && eqb (length timings) 24 && operation_fits p.rec.op p)

abbrev pub entry2 : List ℕ → Bool
entry2 timings = any_below (λ i. not (leb 1 (get_or timings i 0) && leb (get_or timings i 0) 60_000_000)) (length timings)

abbrev pub wrong_access : Access → Bool
wrong_access a = not (is_in a.who (0 ∷ 1 ∷ []) && is_in a.width (1 ∷ 2 ∷ 4 ∷ 8 ∷ []))

-- 21: the bytes that an operation with so many microseconds left is changing; a regression's last ones are those of its option time
abbrev pub target_bytes : Target → ℕ → Part → ℕ
target_bytes (target.Bytes w) left p = w.width
target_bytes (target.Sector k) left p = sector_length k
target_bytes (target.Main len) left p = length p.main
target_bytes target.Options left p = 16
target_bytes (target.Regression len option) left p = cond (leb left option.0) 16 (length p.main)

abbrev pub scrap_wanted : Option Running → Part → ℕ
scrap_wanted None p = 0
scrap_wanted (Some running) p = target_bytes running.target running.left.0 p

-- ---- refusals of an access

-- 7: a byte that lies in no area
abbrev pub unmapped : Part → Access → Bool
unmapped p a = any_byte (λ b. not (in_main p b || in_system b || in_otp b || in_options b || in_registers b || in_sram b)) a

-- 9: KEYR is the word at 40023C04, OPTKEYR that at 40023C08
abbrev pub crooked : Access → Bool
crooked a =
    not (to_flash a || to_sram a) && (not (eqb (a.address % a.width) 0) || eqb a.width 8
    || ((to_word a 0x4002_3C04 || to_word a 0x4002_3C08) && not (eqb a.width 4)))

-- 12: CR is the word at 40023C10 and LOCK its bit 31, OPTCR that at 40023C14 and OPTLOCK its bit 0
abbrev pub locked_word : Part → Access → Bool
locked_word p a = (to_word a 0x4002_3C10 && bit (cr_of p.rec) 31) || (to_word a 0x4002_3C14 && bit (optcr_of p.rec) 0)

-- 13
abbrev pub closed_byte : Part → ℕ → Bool
closed_byte p b = ((in_main p b || in_otp b || in_sram b) && mark_guards p) || (in_options b && eqb (rdp_cell p) 0xCC)

-- 14: the word that a lock waits for
abbrev pub right_word : LockState → ℕ → ℕ → ℕ → Bool
right_word Open first second word = false
right_word Closed first second word = eqb word first
right_word HalfOpen first second word = eqb word second
right_word Dead first second word = false

abbrev pub wrong_key : Part → Access → ℕ → Bool
wrong_key p a value =
    (to_word a 0x4002_3C04 && not (right_word p.rec.lock.state 0x4567_0123 0xCDEF_89AB value))
    || (to_word a 0x4002_3C08 && not (right_word p.rec.optlock.state 0x0819_2A3B 0x4C5D_6E7F value))

-- ---- 17: the flag of SR that a write raises, if any

-- system and option cells, a byte of a protected sector, a byte of a locked block
abbrev pub protected_byte : Part → ℕ → Bool
protected_byte p b =
    in_system b || in_options b || (in_main p b && not (nwrp_bit p (sector_of (b - 0x0800_0000))))
    || (among b 0x1FFF_7800 512 && eqb (get_or p.otp (512 + (b - 0x1FFF_7800) / 32) 0) 0)

-- PG is bit 0 of CR, PSIZE bits 9 and 8
abbrev pub cell_flag : Part → Access → Option ℕ
cell_flag p a =
    cond (not (bit p.rec.cr 0)) (Some 0x80)
    (cond (not (eqb (a.address / 16) ((a.address + a.width - 1) / 16))) (Some 0x20)
    (cond (not (eqb a.width (2 ^ (p.rec.cr / 256 % 4)))) (Some 0x40)
    (cond (any_byte (protected_byte p) a || mark_guards p) (Some 0x10)
    None)))

-- of a word w written to CR: STRT is bit 16, MER bit 2, SER bit 1, SNB bits 6 to 3
abbrev pub cr_flag : Part → ℕ → Option ℕ
cr_flag p w =
    cond (not (bit w 16)) None
    (cond (not (bit w 1 || bit w 2)) (Some 0x80)
    (cond ((bit w 1 && bit w 2) || (bit w 1 && (not (present p (w / 8 % 16)) || not (nwrp_bit p (w / 8 % 16))))
    || (bit w 2 && any_below (λ k. present p k && not (nwrp_bit p k)) 12) || mark_guards p) (Some 0x10)
    None))

-- of a word w written to OPTCR: OPTSTRT is bit 1
abbrev pub optcr_flag : Part → ℕ → Option ℕ
optcr_flag p w = cond (bit w 1 && eqb (rdp_cell p) 0xCC) (Some 0x10) None

abbrev pub write_flag : Part → Access → ℕ → Option ℕ
write_flag p a value =
    cond (to_flash a) (cell_flag p a)
    (cond (to_word a 0x4002_3C10) (cr_flag p (word_after (cr_of p.rec) value a))
    (cond (to_word a 0x4002_3C14) (optcr_flag p (word_after (optcr_of p.rec) value a))
    None))

-- ---- the value of a call that is done: the bytes of a read or a fetch, the microseconds that a wait passed, and 0 otherwise

-- the byte at an address of the cells; system memory reads FF
abbrev pub cell_byte : Part → ℕ → ℕ
cell_byte p b =
    cond (in_main p b) (get_or p.main (b - 0x0800_0000) 0)
    (cond (in_system b) 0xFF
    (cond (in_otp b) (get_or p.otp (b - 0x1FFF_7800) 0)
    (cond (in_options b) (get_or p.options (b - 0x1FFF_C000) 0)
    (get_or p.sram (b - 0x4002_4000) 0))))

-- the bytes from an address, the lowest first
abbrev pub bytes_from : (ℕ → ℕ) → ℕ → ℕ → ℕ
bytes_from f b zero = 0
bytes_from f b (suc n) = f b + 256 * bytes_from f (suc b) n

-- what the register at an address reads, from its byte lane up; KEYR and OPTKEYR read 0
abbrev pub word_at : Part → ℕ → ℕ
word_at p word =
    cond (eqb word 0x4002_3C00) (register_of p.rec Acr)
    (cond (eqb word 0x4002_3C0C) (sr_of p.rec)
    (cond (eqb word 0x4002_3C10) (cr_of p.rec)
    (cond (eqb word 0x4002_3C14) (optcr_of p.rec)
    0)))

abbrev pub done_value : Call → Part → ℕ
done_value (Reset boot) p = 0
done_value (Debugger link) p = 0
done_value (Read a) p =
    cond (to_flash a || to_sram a) (bytes_from (cell_byte p) a.address a.width)
    (word_at p (a.address / 4 * 4) / 256 ^ (a.address % 4) % 256 ^ a.width)
done_value (Write a value) p = 0
done_value (Time (Pass t)) p = 0
done_value (Time (Wait t)) p = (time_left p.rec.op).0
done_value (Fetch address) p = bytes_from (cell_byte p) address 4

-- ---- the answer: the first entry that applies

-- a code with its value
pub record Told : Type 0 where
  pub code : ℕ
  pub value : ℕ

abbrev pub told : ℕ → ℕ → Told
told code value = record { code = code; value = value }

pub record Entry : Type 0 where
  pub answer : Told
  pub applies : Bool

abbrev entry : ℕ → Bool → Entry
entry code applies = record { answer = told code 0; applies = applies }

abbrev pub first : Told → List Entry → Told
first done [] = done
first done (e ∷ es) = cond e.applies e.answer (first done es)

-- the entries that each call can meet beside 1 and 2, in document 01's order
abbrev pub entries_of : List ℕ → Call → Part → List Entry
entries_of scrap (Reset boot) p =
    entry 5 (not (is_in boot (0 ∷ 1 ∷ 2 ∷ [])))
    ∷ entry 16 (eqb (rdp_cell p) 0xCC && not (eqb boot 0))
    ∷ entry 21 (ltb (length scrap) (scrap_wanted p.rec.op p))
    ∷ []
entries_of scrap (Debugger On) p =
    entry 10 (not p.rec.power)
    ∷ entry 16 (eqb (rdp_cell p) 0xCC)
    ∷ []
entries_of scrap (Debugger Off) p =
    entry 10 (not p.rec.power)
    ∷ []
entries_of scrap (Read a) p =
    entry 5 (wrong_access a)
    ∷ entry 10 (not p.rec.power)
    ∷ entry 15 (eqb a.who 1 && not p.rec.debugger)
    ∷ entry 7 (unmapped p a)
    ∷ entry 9 (crooked a)
    ∷ entry 11 (is_busy p.rec.op && to_flash a)
    ∷ entry 13 (any_byte (closed_byte p) a)
    ∷ []
entries_of scrap (Write a value) p =
    entry 5 (wrong_access a || leb (256 ^ a.width) value)
    ∷ entry 10 (not p.rec.power)
    ∷ entry 15 (eqb a.who 1 && not p.rec.debugger)
    ∷ entry 7 (unmapped p a)
    ∷ entry 9 (crooked a)
    ∷ entry 11 (is_busy p.rec.op && (to_flash a || to_word a 0x4002_3C10 || to_word a 0x4002_3C14))
    ∷ entry 12 (locked_word p a)
    ∷ entry 13 (to_sram a && any_byte (closed_byte p) a)
    ∷ entry 14 (wrong_key p a value)
    ∷ record { answer = told 17 (unwrap_or (write_flag p a value) 0); applies = is_some (write_flag p a value) }
    ∷ []
entries_of scrap (Time (Pass t)) p =
    entry 8 (ltb 120_000_000 t.0)
    ∷ entry 10 (not p.rec.power)
    ∷ entry 19 (none_left p.rec.op)
    ∷ []
entries_of scrap (Time (Wait t)) p =
    entry 8 (ltb 120_000 t.0)
    ∷ entry 10 (not p.rec.power)
    ∷ record { answer = told 18 (1000 * t.0); applies = ltb (1000 * t.0) (time_left p.rec.op).0 }
    ∷ entry 19 (none_left p.rec.op)
    ∷ []
entries_of scrap (Fetch address) p =
    entry 10 (not p.rec.power)
    ∷ entry 7 (any_below (λ i. not (in_main p (address + i))) 4)
    ∷ entry 11 (is_busy p.rec.op)
    ∷ entry 13 (mark_guards p)
    ∷ []

-- 1 and 2 stand first for every call
abbrev pub entries : List ℕ → List ℕ → Call → Part → List Entry
entries timings scrap c p = entry 1 (entry1 timings p) ∷ entry 2 (entry2 timings) ∷ entries_of scrap c p

abbrev pub ruled : List ℕ → List ℕ → Call → Part → Told
ruled timings scrap c p = first (told 0 (done_value c p)) (entries timings scrap c p)

-- ---- the claims; nWRP's low option cell is a byte

-- every call answers with the first entry that applies, and else with its value
abbrev pub Ruled : Type 0
Ruled =
    (timings scrap : List ℕ) (c : Call) (p : Part) → get_or p.options 8 0 < 256
    → told (code_of (step timings scrap c p).answer) (value_of (step timings scrap c p).answer) ≡ ruled timings scrap c p

-- no entry of a list applies
abbrev pub none_of : List Entry → Bool
none_of [] = true
none_of (e ∷ es) = not e.applies && none_of es

-- demand 1: the code of a call is 0 or one of 1, 2, 5, 7 to 19, 21; a value other than 0 comes with done, a flag or expiry
abbrev pub Coded : Type 0
Coded =
    (timings scrap : List ℕ) (c : Call) (p : Part)
    → (is_in (code_of (step timings scrap c p).answer) (0 ∷ 1 ∷ 2 ∷ 5 ∷ 7 ∷ 8 ∷ 9 ∷ 10 ∷ 11 ∷ 12 ∷ 13 ∷ 14 ∷ 15 ∷ 16 ∷ 17 ∷ 18 ∷ 19 ∷ 21 ∷ []) ≡ true)
    × (is_in (code_of (step timings scrap c p).answer) (0 ∷ 17 ∷ 18 ∷ []) ≡ false → value_of (step timings scrap c p).answer ≡ 0)

-- demand 2: a call is done exactly when no entry forbids it, and then with its value
abbrev pub DoneExactly : Type 0
DoneExactly =
    (timings scrap : List ℕ) (c : Call) (p : Part) → get_or p.options 8 0 < 256
    → ((code_of (step timings scrap c p).answer ≡ 0) ↔ (none_of (entries timings scrap c p) ≡ true))
    × (code_of (step timings scrap c p).answer ≡ 0 → value_of (step timings scrap c p).answer ≡ done_value c p)
