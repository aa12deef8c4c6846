-- Write: to cells of the flash memory, where it programs, to registers, and to the backup SRAM.
use Rattle.std.specs.Prelude.{Bool, true, cond, Option, Some, None, is_some, Result, is_ok, not, ◌&&◌, ◌||◌, List, ℕ, ◌-◌, ◌^◌, eqb, leb, length}
use Rattle.std.specs.Int.Bits.{bit_and}
use Rattle.cells.specs.Bytes.{stored as storedBytes}
use Rattle.lock.specs.Keys.{keyed, after_key, is_open, lock_at, keyr_keys, optkeyr_keys}
use Rattle.lock.specs.declared.Keys.{Keys}
use Rattle.lock.specs.declared.Lock.{Lock}
use Rattle.lock.specs.declared.LockState.TheVariants.{Closed}
use Rattle.lock.specs.declared.WrongWord.{WrongWord}
use Rattle.map.specs.Areas.{crosses_row, main_base, otp_base}
use Rattle.map.specs.Protection.{protected_by, any_protected, block_locked}
use Rattle.map.specs.Sectors.{sectors_in, sector_of}
use Rattle.map.specs.declared.Area.{Area}
use Rattle.map.specs.declared.Area.TheVariants.{Flash, Registers, Sram, Outside}
use Rattle.map.specs.declared.Place.{Place}
use Rattle.map.specs.declared.Place.TheVariants.{Main, System, Otp, SystemAndOtp, OptionCells}
use Rattle.registers.specs.Fields.{register_at, sr_flags, cr_fields, optcr_fields, WRPERR, PGAERR, PGPERR, PGSERR, PG, SER}
use Rattle.registers.specs.Fields.{MER, STRT, LOCK, OPTLOCK, OPTSTRT, snb, psize, rdp, acr_after}
use Rattle.registers.specs.Words.{is_set, merged, placed, cleared_by}
use Rattle.registers.specs.declared.LockOf.{LockOf}
use Rattle.registers.specs.declared.LockOf.TheVariants.{Cr, Optcr}
use Rattle.registers.specs.declared.Register.{Register}
use Rattle.registers.specs.declared.Register.TheVariants as register
use Rattle.time.specs.Timings.{duration, regression_time, sector_work}
use Rattle.time.specs.declared.Work.{Work}
use Rattle.time.specs.declared.Work.TheVariants as work
use Rattle.part.specs.Operations.{flagged, started, flagged_or}
use Rattle.part.specs.Options.{level_of, nwrp_of}
use Rattle.part.specs.Refusals.{unconnected, misaligned, guarded}
use Rattle.part.specs.Registers.{register_of}
use Rattle.part.specs.State.{Part, Outcome, kept, reply, refuse, is_busy, with_acr, with_sr, with_cr, with_optcr, with_lock, with_sram, lock_in}
use Rattle.part.specs.declared.Access.{Access}
use Rattle.part.specs.declared.Answer.TheVariants.{Done, Refused}
use Rattle.part.specs.declared.Reason.TheVariants.{OutsideMap, BadRegisterAccess, NoPower, Stalled, Locked, ClosedAccess, WrongKey, NotConnected}
use Rattle.part.specs.declared.Record.{Record}
use Rattle.part.specs.declared.Reply.{Reply}
use Rattle.part.specs.declared.Target.{Target}
use Rattle.part.specs.declared.Target.TheVariants as target
use Rattle.part.specs.declared.Written.{Written}

-- ---- cells of the flash memory

-- a protected sector, a locked block, or cells that are never programmed: system memory, also where OTP follows it, and option cells
abbrev pub protected_at : ℕ → List ℕ → Place → Bool
protected_at nwrp otp (Main o) = protected_by nwrp (sector_of o)
protected_at nwrp otp (System o) = true
protected_at nwrp otp (Otp o) = block_locked otp o
protected_at nwrp otp (SystemAndOtp o) = true
protected_at nwrp otp (OptionCells o) = true

-- the first flag that applies to a write to flash cells, if any does
abbrev pub program_flag : ℕ → Access → Bool → Option ℕ
program_flag cr a protected =
    cond (not (is_set cr PG)) (Some PGSERR)
    (cond (crosses_row a.address a.width) (Some PGAERR)
    (cond (not (eqb a.width (2 ^ psize cr))) (Some PGPERR)
    (cond protected (Some WRPERR)
    None)))

-- the bytes of a write, as an offset in main flash or, from its first address on, in OTP
abbrev pub written : Access → ℕ → Written
written a value =
    let otp = leb otp_base a.address in
    record { value = value; offset = a.address - cond otp otp_base main_base; width = a.width; otp = otp }

abbrev pub cell_write : List ℕ → Record → List ℕ → List ℕ → Place → Access → ℕ → Reply
cell_write timings r otp options place a value =
    flagged_or r (program_flag r.cr a (protected_at (nwrp_of options) otp place || guarded r.mark options))
    (target.Bytes (written a value)) (duration timings (psize r.cr) work.Program)

-- 11, and then a flag or the start
abbrev pub flash_reply : List ℕ → Record → List ℕ → List ℕ → Place → Access → ℕ → Reply
flash_reply timings r otp options place a value =
    cond (is_busy r.op) (refuse Stalled r)
    (cell_write timings r otp options place a value)

-- ---- CR

-- the flag that stops an erase, if one does. SNB counts only where SER asks for a sector
abbrev pub erase_flag : ℕ → ℕ → ℕ → Bool → Option ℕ
erase_flag w n nwrp guard =
    cond (not (is_set w SER) && not (is_set w MER)) (Some PGSERR)
    (cond ((is_set w SER && is_set w MER) || (is_set w SER && leb n (snb w))
    || cond (is_set w SER) (protected_by nwrp (snb w)) (any_protected nwrp n) || guard) (Some WRPERR)
    None)

abbrev pub erase_work : ℕ → Work
erase_work w = cond (is_set w SER) (sector_work (snb w)) work.MassErase

abbrev pub erase_target : ℕ → ℕ → Target
erase_target w len = cond (is_set w SER) (target.Sector (snb w)) (target.Main len)

-- CR with its fields stored: with STRT an erase starts or a flag rises
abbrev pub cr_start : List ℕ → Record → ℕ → List ℕ → ℕ → Reply
cr_start timings r len options w =
    cond (is_set w STRT)
    (flagged_or r (erase_flag w (sectors_in len) (nwrp_of options) (guarded r.mark options)) (erase_target w len) (duration timings (psize w) (erase_work w)))
    (reply (Done 0) r)

-- LOCK and OPTLOCK close after that
abbrev pub locked_if : LockOf → Bool → Reply → Reply
locked_if which t x = reply x.answer (cond t (with_lock which x.rec (lock_at Closed)) x.rec)

abbrev pub cr_write : List ℕ → Record → ℕ → List ℕ → ℕ → Reply
cr_write timings r len options w = locked_if Cr (is_set w LOCK) (cr_start timings (with_cr r (bit_and w cr_fields)) len options w)

-- ---- OPTCR

-- at level 1 with RDP AA in OPTCR, as this write left it, it is a regression; else an option change
abbrev pub optcr_start : List ℕ → Record → ℕ → List ℕ → ℕ → Reply
optcr_start timings r len options w =
    cond (is_set w OPTSTRT)
    (cond (eqb (level_of options) 2) (flagged r WRPERR)
    (cond (eqb (level_of options) 1 && eqb (rdp r.optcr) 0xAA)
    (started r (target.Regression len (duration timings (psize r.cr) work.Options)) (regression_time timings (psize r.cr)))
    (started r target.Options (duration timings (psize r.cr) work.Options))))
    (reply (Done 0) r)

abbrev pub optcr_write : List ℕ → Record → ℕ → List ℕ → ℕ → Reply
optcr_write timings r len options w = locked_if Optcr (is_set w OPTLOCK) (optcr_start timings (with_optcr r (bit_and w optcr_fields)) len options w)

-- ---- KEYR and OPTKEYR

abbrev pub keys_of : LockOf → Keys
keys_of Cr = keyr_keys
keys_of Optcr = optkeyr_keys

abbrev pub key_reply : LockOf → Record → Result Lock WrongWord → Reply
key_reply which r next = reply (cond (is_ok next) (Done 0) (Refused WrongKey)) (with_lock which r (after_key next))

abbrev pub key_write : LockOf → Record → ℕ → Reply
key_write which r word = key_reply which r (keyed (lock_in which r) word (keys_of which))

-- ---- registers

abbrev pub stored : List ℕ → Record → ℕ → List ℕ → LockOf → ℕ → Reply
stored timings r len options Cr w = cr_write timings r len options w
stored timings r len options Optcr w = optcr_write timings r len options w

-- CR and OPTCR stall while an operation runs, and want their lock open
abbrev pub control_write : List ℕ → Record → ℕ → List ℕ → LockOf → ℕ → Reply
control_write timings r len options which w =
    cond (is_busy r.op) (refuse Stalled r)
    (cond (not (is_open (lock_in which r))) (refuse Locked r)
    (stored timings r len options which w))

-- a write that leaves the register as `whole`, with `lone` the written lanes alone and `value` the word that a key register takes
abbrev pub write_to : List ℕ → Record → ℕ → List ℕ → Register → ℕ → ℕ → ℕ → Reply
write_to timings r len options register.Acr whole lone value = reply (Done 0) (with_acr r (acr_after r.acr whole))
write_to timings r len options register.Sr whole lone value = reply (Done 0) (with_sr r (cleared_by r.sr lone sr_flags))
write_to timings r len options (register.Key which) whole lone value = key_write which r value
write_to timings r len options (register.Control which) whole lone value = control_write timings r len options which whole

-- lanes that are not written stay as they read, and are 0 for SR, where a 1 clears
abbrev pub register_write : List ℕ → Record → ℕ → List ℕ → Register → ℕ → ℕ → ℕ → Reply
register_write timings r len options x offset width value =
    write_to timings r len options x (merged (register_of r x) value width offset) (placed value width offset) value

-- by the offset from the first register; 9 before what the register does
abbrev pub register_reply : List ℕ → Record → ℕ → List ℕ → ℕ → Access → ℕ → Reply
register_reply timings r len options o a value =
    cond (misaligned o a.width) (refuse BadRegisterAccess r)
    (register_write timings r len options (register_at o) o a.width value)

-- ---- the backup SRAM: closed to a write as to a read, and else the bytes are stored at once; no flag rises, and nothing starts

abbrev pub sram_write : Part → ℕ → Access → ℕ → Outcome
sram_write p o a value =
    cond (guarded p.rec.mark p.options) (kept p (refuse ClosedAccess p.rec))
    (record { answer = Done 0; part = with_sram p (storedBytes p.sram o a.width value) })

-- ---- a write: 10, 15, then by where it lies 7, or 9, 11 and 12, or 11, or 13

abbrev pub write_at : List ℕ → Part → Area → Access → ℕ → Outcome
write_at timings p (Flash place) a value = kept p (flash_reply timings p.rec p.otp p.options place a value)
write_at timings p (Registers o) a value = kept p (register_reply timings p.rec (length p.main) p.options o a value)
write_at timings p (Sram o) a value = sram_write p o a value
write_at timings p Outside a value = kept p (refuse OutsideMap p.rec)

abbrev pub write_outcome : List ℕ → Part → Area → Access → ℕ → Outcome
write_outcome timings p area a value =
    cond (not p.rec.power) (kept p (refuse NoPower p.rec))
    (cond (unconnected a.who p.rec.debugger) (kept p (refuse NotConnected p.rec))
    (write_at timings p area a value))
