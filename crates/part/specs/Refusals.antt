-- Tests of refusals that several calls share: 1 and 5, which come first in every call with 2, and those on an access.
use Rattle.std.specs.Prelude.{Option, Bool, false, not, ◌&&◌, ◌||◌, List, ℕ, ◌*◌, ◌%◌, ◌^◌, eqb, leb, ltb, length}
use Rattle.map.specs.Areas.{otp_length, option_length, sram_length}
use Rattle.map.specs.Sectors.{sectors_in}
use Rattle.registers.specs.Fields.{KEYR, SR}
use Rattle.part.specs.Operations.{operation_outside}
use Rattle.part.specs.Options.{level_of}
use Rattle.part.specs.State.{Part}
use Rattle.part.specs.declared.Call.{Call}
use Rattle.part.specs.declared.Running.{Running}
use Rattle.part.specs.declared.Call.TheVariants.{Reset, Debugger, Read, Write, Time, Fetch}

-- ---- 1: lengths. `main`, `otp`, `options`, `sram` and `timings` are the lengths of the lent buffers

abbrev pub bad_length : Option Running → ℕ → ℕ → ℕ → ℕ → ℕ → Bool
bad_length op main otp options sram timings =
    eqb (sectors_in main) 0 || not (eqb otp otp_length) || not (eqb options option_length) || not (eqb sram sram_length) || not (eqb timings 24)
    || operation_outside op main otp

-- refusal 1 for a host that lends these timings to that part
abbrev pub length_refused : List ℕ → Part → Bool
length_refused timings p =
    bad_length p.rec.op (length p.main) (length p.otp) (length p.options) (length p.sram) (length timings)

-- ---- 5: malformed

abbrev pub bad_width : ℕ → Bool
bad_width width = not (eqb width 1 || eqb width 2 || eqb width 4 || eqb width 8)

abbrev pub bad_who : ℕ → Bool
bad_who who = ltb 1 who

-- a value too big for its width
abbrev pub too_big : ℕ → ℕ → Bool
too_big width value = leb (2 ^ (8 * width)) value

abbrev pub malformed : Call → Bool
malformed (Reset boot) = ltb 2 boot
malformed (Debugger link) = false
malformed (Read a) = bad_who a.who || bad_width a.width
malformed (Write a value) = bad_who a.who || bad_width a.width || too_big a.width value
malformed (Time t) = false
malformed (Fetch address) = false

-- ---- 15 and 9

abbrev pub unconnected : ℕ → Bool → Bool
unconnected who debugger = eqb who 1 && not debugger

-- a register access that is not aligned, of 8 bytes, or not by word from KEYR up to SR, where OPTKEYR lies too
abbrev pub misaligned : ℕ → ℕ → Bool
misaligned offset width =
    (eqb width 2 && not (eqb (offset % 2) 0)) || (eqb width 4 && not (eqb (offset % 4) 0)) || eqb width 8
    || (leb KEYR offset && ltb offset SR && not (eqb width 4))

-- ---- what read protection guards: the mark stands at level 1 or 2

abbrev pub guarded : Bool → List ℕ → Bool
guarded mark options = mark && not (eqb (level_of options) 0)
