-- A bench for worked rows: a small part, timings of 1,000, and the calls by short names.
use Rattle.std.specs.Prelude.{Some, Bool, ◌&&◌, false, true, List, [], ◌∷◌, ◌++◌, ℕ, eqb, replicate, set}
use Rattle.time.specs.Units.{micros, millis}
use Rattle.part.specs.Calls.{step, after}
use Rattle.part.specs.State.{Part, part, having, fresh, code_of, value_of, with_op}
use Rattle.part.specs.declared.Call.{Call}
use Rattle.part.specs.declared.Call.TheVariants.{Reset, Debugger, Read, Write, Time, Fetch}
use Rattle.part.specs.declared.Lapse.TheVariants.{Pass, Wait}
use Rattle.part.specs.declared.Link.TheVariants.{On, Off}
use Rattle.part.specs.declared.Target.TheVariants as target

-- ---- calls

abbrev pub reset : ℕ → Call
reset boot = Reset boot

abbrev pub on : Call
on = Debugger On

abbrev pub off : Call
off = Debugger Off

abbrev pub pass : ℕ → Call
pass t = Time (Pass (micros t))

abbrev pub wait : ℕ → Call
wait t = Time (Wait (millis t))

-- by who, of a width, at an address
abbrev pub read_by : ℕ → ℕ → ℕ → Call
read_by who width address = Read (record { who = who; width = width; address = address })

abbrev pub write_by : ℕ → ℕ → ℕ → ℕ → Call
write_by who width address value = Write (record { who = who; width = width; address = address }) value

-- by the CPU
abbrev pub read : ℕ → ℕ → Call
read width address = read_by 0 width address

abbrev pub write : ℕ → ℕ → ℕ → Call
write width address value = write_by 0 width address value

abbrev pub fetch : ℕ → Call
fetch address = Fetch address

abbrev pub write_acr : ℕ → Call
write_acr value = write 4 0x4002_3C00 value

abbrev pub write_cr : ℕ → Call
write_cr value = write 4 0x4002_3C10 value

abbrev pub write_optcr : ℕ → Call
write_optcr value = write 4 0x4002_3C14 value

-- the keys of CR, and those of OPTCR
abbrev pub keys : List Call
keys = write 4 0x4002_3C04 0x4567_0123 ∷ write 4 0x4002_3C04 0xCDEF_89AB ∷ []

abbrev pub option_keys : List Call
option_keys = write 4 0x4002_3C08 0x0819_2A3B ∷ write 4 0x4002_3C08 0x4C5D_6E7F ∷ []

-- CR is opened and written, or OPTCR
abbrev pub by_cr : ℕ → List Call
by_cr cr = reset 0 ∷ keys ++ write_cr cr ∷ []

abbrev pub by_optcr : ℕ → List Call
by_optcr optcr = reset 0 ∷ option_keys ++ write_optcr optcr ∷ []

-- a regression, with every nWRP bit 1 pending, and its 2,000 microseconds: mass erase and option time
abbrev pub regressing : List Call
regressing = by_optcr 0x0FFF_AAEE

abbrev pub regressed : List Call
regressed = regressing ++ pass 2000 ∷ []

-- ---- parts

abbrev pub timings : List ℕ
timings = replicate 24 1000

-- a fresh part of one sector, all FF but for the first byte of main flash, 5A as the first of OTP, RDP (AA is level 0, CC 2, else 1), and the
-- backup SRAM, which has that byte first and then zeros
abbrev pub bench : ℕ → ℕ → Part
bench byte rdp = part fresh (byte ∷ replicate 16_383 255) (0x5A ∷ replicate 527 255) (set (replicate 16 255) 1 rdp) (byte ∷ replicate 4095 0)

-- with so many microseconds of an erase of sector 0 left
abbrev pub busy_for : ℕ → Part → Part
busy_for left p = having p (with_op p.rec (Some (record { target = target.Sector 0; left = micros left })))

-- ---- the code and the value of a call, and of one after a list of calls

abbrev pub answer : Call → Part → List ℕ
answer c p =
    let a = (step timings [] c p).answer in
    code_of a ∷ value_of a ∷ []

abbrev pub answer_after : List Call → Call → Part → List ℕ
answer_after cs c p = answer c (after timings [] cs p)

-- ---- rows: what is found, and what document 01 says

pub record Example : Type 0 where
  pub found : List ℕ
  pub wanted : List ℕ

abbrev pub row : List ℕ → List ℕ → Example
row f w = record { found = f; wanted = w }

abbrev pub same_numbers : List ℕ → List ℕ → Bool
same_numbers [] [] = true
same_numbers [] (y ∷ ys) = false
same_numbers (x ∷ xs) [] = false
same_numbers (x ∷ xs) (y ∷ ys) = eqb x y && same_numbers xs ys

abbrev pub passes : List Example → Bool
passes [] = true
passes (e ∷ es) = same_numbers e.found e.wanted && passes es
