-- Read, and the window.
use Rattle.std.specs.Prelude.{Bool, false, cond, not, ◌||◌, List, [], ℕ, ◌-◌, eqb, leb, ltb, length, get_or, take, drop}
use Rattle.cells.specs.Bytes.{little, value_at}
use Rattle.map.specs.Areas.{system_length, main_base, inside}
use Rattle.map.specs.Sectors.{sectors_in, sector_start, sector_length}
use Rattle.map.specs.declared.Area.{Area}
use Rattle.map.specs.declared.Area.TheVariants.{Flash, Registers, Sram, Outside}
use Rattle.map.specs.declared.Place.{Place}
use Rattle.map.specs.declared.Place.TheVariants.{Main, System, Otp, SystemAndOtp, OptionCells}
use Rattle.registers.specs.Fields.{register_at}
use Rattle.registers.specs.Words.{lanes}
use Rattle.time.specs.Timings.{out_of_range}
use Rattle.part.specs.Options.{level_of}
use Rattle.part.specs.Refusals.{length_refused, bad_who, unconnected, misaligned, guarded}
use Rattle.part.specs.Registers.{register_of}
use Rattle.part.specs.State.{Part, is_busy}
use Rattle.part.specs.declared.Access.{Access}
use Rattle.part.specs.declared.Answer.{Answer}
use Rattle.part.specs.declared.Answer.TheVariants.{Done, Refused}
use Rattle.part.specs.declared.Reason.TheVariants.{OutsideMap, BadRegisterAccess, NoPower, Stalled, ClosedAccess, NotConnected}
use Rattle.part.specs.declared.Record.{Record}

-- ---- cells of the flash memory

-- 13: while guarded, a read with a byte in main flash or OTP is closed; one with a byte of the option cells is at level 2
abbrev pub closed_read : Bool → List ℕ → Place → Bool
closed_read mark options (Main o) = guarded mark options
closed_read mark options (System o) = false
closed_read mark options (Otp o) = guarded mark options
closed_read mark options (SystemAndOtp o) = guarded mark options
closed_read mark options (OptionCells o) = eqb (level_of options) 2

-- the bytes that cells give; system memory has FF throughout
abbrev pub cells_value : List ℕ → List ℕ → List ℕ → Place → ℕ → ℕ
cells_value main otp options (Main o) width = value_at main o width
cells_value main otp options (System o) width = little (λ i. 255) 0 width
cells_value main otp options (Otp o) width = value_at otp o width
cells_value main otp options (SystemAndOtp o) width = little (λ i. cond (ltb i system_length) 255 (get_or otp (i - system_length) 0)) o width
cells_value main otp options (OptionCells o) width = value_at options o width

-- 11 and 13, and then the bytes
abbrev pub flash_answer : Record → List ℕ → List ℕ → List ℕ → Place → ℕ → Answer
flash_answer r main otp options place width =
    cond (is_busy r.op) (Refused Stalled)
    (cond (closed_read r.mark options place) (Refused ClosedAccess)
    (Done (cells_value main otp options place width)))

-- ---- registers

abbrev pub register_answer : Record → ℕ → ℕ → Answer
register_answer r o width =
    cond (misaligned o width) (Refused BadRegisterAccess)
    (Done (lanes (register_of r (register_at o)) width o))

-- ---- the backup SRAM: closed as main flash is; what runs doesn't stall it

abbrev pub sram_answer : Record → List ℕ → List ℕ → ℕ → ℕ → Answer
sram_answer r options sram o width = cond (guarded r.mark options) (Refused ClosedAccess) (Done (value_at sram o width))

-- ---- a read: 10, 15, then by where it lies 7, or 9, or 11 and 13, or 13 alone

abbrev pub read_at : Part → Area → ℕ → Answer
read_at p (Flash place) width = flash_answer p.rec p.main p.otp p.options place width
read_at p (Registers o) width = register_answer p.rec o width
read_at p (Sram o) width = sram_answer p.rec p.options p.sram o width
read_at p Outside width = Refused OutsideMap

abbrev pub read_answer : Part → Area → Access → Answer
read_answer p area a =
    cond (not p.rec.power) (Refused NoPower)
    (cond (unconnected a.who p.rec.debugger) (Refused NotConnected)
    (read_at p area a.width))

-- ---- a fetch, of four bytes by the CPU: 10, then 7 unless all of them lie in main flash, 11 and 13

abbrev pub fetch_answer : Part → ℕ → Answer
fetch_answer p address =
    cond (not p.rec.power) (Refused NoPower)
    (cond (not (inside address 4 main_base (length p.main))) (Refused OutsideMap)
    (flash_answer p.rec p.main p.otp p.options (Main (address - main_base)) 4))

-- ---- the window

-- who gets no part: a host with wrong buffers or timings, anyone while the part is unpowered or busy, whoever names a sector that is not
-- present, nobody known, a debugger that isn't connected, and everyone while main flash is guarded
abbrev pub window_shut : List ℕ → Part → ℕ → ℕ → Bool
window_shut timings p who sector =
    length_refused timings p || out_of_range timings || not p.rec.power || is_busy p.rec.op || leb (sectors_in (length p.main)) sector
    || bad_who who || unconnected who p.rec.debugger || guarded p.rec.mark p.options

-- where the part starts in main flash; an empty one stands at its front
abbrev pub window_start : List ℕ → Part → ℕ → ℕ → ℕ
window_start timings p who sector = cond (window_shut timings p who sector) 0 (sector_start sector)

-- the sector's part of main flash, or an empty part
abbrev pub window_of : List ℕ → Part → ℕ → ℕ → List ℕ
window_of timings p who sector =
    cond (window_shut timings p who sector) [] (take (sector_length sector) (drop (sector_start sector) p.main))
