-- Document 01's starred bench examples as one table: what a call answers, or the very function that the steps use gives, beside what the
-- document says. proofs/Examples.antt has the computed test over the table and the law that makes of it the equation of each entry. The
-- examples without a star, and answers that tell wrong parts apart, stand as tables of the same kind.
use Rattle.std.specs.Prelude.{List, [], ◌∷◌, ◌++◌, ℕ, set, replicate}
use Rattle.map.specs.Areas.{area_of}
use Rattle.map.specs.Sectors.{sector_of, largest_main}
use Rattle.map.specs.declared.Area.{Area}
use Rattle.map.specs.declared.Area.TheVariants.{Flash, Registers, Sram, Outside}
use Rattle.map.specs.declared.Place.{Place}
use Rattle.map.specs.declared.Place.TheVariants.{Main, System, Otp, SystemAndOtp, OptionCells}
use Rattle.worked.specs.Bench.{Example, answer_after, busy_for, by_cr, keys, off, on, option_keys, pass, read, read_by, regressed, reset, row, timings, wait}
use Rattle.worked.specs.Bench.{write}
use Rattle.worked.specs.Bench.{write_cr, write_optcr}
use Rattle.part.specs.Calls.{after}
use Rattle.part.specs.Operations.{time_left}
use Rattle.part.specs.Options.{level_of}
use Rattle.part.specs.State.{Part, part, fresh}
use Rattle.part.specs.declared.Call.{Call}

-- ---- a part of one sector, all FF but option cells and main flash as given, and the backup SRAM 0

abbrev erased_options : List ℕ
erased_options = replicate 16 255

abbrev new : List ℕ → List ℕ → Part
new main options = part fresh main (replicate 528 255) options (replicate 4096 0)

-- CR is opened by its two keys
abbrev opening : List Call
opening = reset 0 ∷ keys

abbrev busy : ℕ → Part
busy left = busy_for left (after timings [] (reset 0 ∷ []) (new (replicate 16_384 255) erased_options))

-- the sector of a byte of main flash, by the map of a part with all sectors
abbrev sector_in : Place → List ℕ
sector_in (Main offset) = sector_of offset ∷ []
sector_in (System offset) = []
sector_in (Otp offset) = []
sector_in (SystemAndOtp offset) = []
sector_in (OptionCells offset) = []

abbrev sector_by : Area → List ℕ
sector_by (Flash place) = sector_in place
sector_by (Registers offset) = []
sector_by (Sram offset) = []
sector_by Outside = []

abbrev sector_at : ℕ → List ℕ
sector_at address = sector_by (area_of largest_main address 1)

-- ---- the table

abbrev pub table : List Example
table =
    -- options all FF: OPTCR 0FFFFFED after reset; RDP AA: 0FFFAAED
    row (answer_after (reset 0 ∷ []) (read 4 0x4002_3C14) (new (replicate 16_384 255) erased_options)) (0 ∷ 0x0FFF_FFED ∷ [])
    ∷ row (answer_after (reset 0 ∷ []) (read 4 0x4002_3C14) (new (replicate 16_384 255) (set erased_options 1 0xAA))) (0 ∷ 0x0FFF_AAED ∷ [])
    -- RDP 00 is level 1
    ∷ row (level_of (set erased_options 1 0) ∷ []) (1 ∷ [])
    -- CR resets to 80000000
    ∷ row (answer_after (reset 0 ∷ []) (read 4 0x4002_3C10) (new (replicate 16_384 255) erased_options)) (0 ∷ 0x8000_0000 ∷ [])
    -- 08003FFF is sector 0, 08004000 sector 1, 08010000 sector 4, 080E0000 sector 11
    ∷ row (sector_at 0x0800_3FFF) (0 ∷ [])
    ∷ row (sector_at 0x0800_4000) (1 ∷ [])
    ∷ row (sector_at 0x0801_0000) (4 ∷ [])
    ∷ row (sector_at 0x080E_0000) (11 ∷ [])
    -- F0 programmed with 3C is 30
    ∷ row
    (let main = 0xF0 ∷ replicate 16_383 255 in
    let p = after timings [] (by_cr 1) (new main erased_options) in
    answer_after (write 1 0x0800_0000 0x3C ∷ pass 1000 ∷ []) (read 1 0x0800_0000) p) (0 ∷ 0x30 ∷ [])
    -- two bytes at 0800000F cross a row, which raises PGAERR; at 0800000E they don't
    ∷ row (answer_after (by_cr 0x101) (write 2 0x0800_000F 0) (new (replicate 16_384 255) erased_options)) (17 ∷ 0x20 ∷ [])
    ∷ row (answer_after (by_cr 0x101) (write 2 0x0800_000E 0) (new (replicate 16_384 255) erased_options)) (0 ∷ 0 ∷ [])
    -- 500,000 microseconds left: wait 500 is done; wait 499 expires with 1,000 left
    ∷ row (answer_after [] (wait 500) (busy 500_000)) (0 ∷ 500_000 ∷ [])
    ∷ row (answer_after [] (wait 499) (busy 500_000)) (18 ∷ 499_000 ∷ [])
    ∷ row ((time_left (after timings [] (wait 499 ∷ []) (busy 500_000)).rec.op).0 ∷ []) (1000 ∷ [])
    ∷ []

-- the examples without a star: the limit of a wait, and sectors 3 and 4 on a part of four sectors
abbrev four : Part
four = new (replicate 65_536 0) erased_options

abbrev pub unstarred : List Example
unstarred =
    row (answer_after (reset 0 ∷ []) (wait 120_000) (new (replicate 16_384 255) erased_options)) (0 ∷ 0 ∷ [])
    ∷ row (answer_after (reset 0 ∷ []) (wait 120_001) (new (replicate 16_384 255) erased_options)) (8 ∷ 0 ∷ [])
    ∷ row (answer_after (reset 0 ∷ []) (wait 500_000) (new (replicate 16_384 255) erased_options)) (8 ∷ 0 ∷ [])
    -- SER, STRT and SNB 3: the sector reads FF after its time, and the byte below it stays
    ∷ row
    (let p = after timings [] (by_cr 0x0001_001A) four in
    answer_after (pass 1000 ∷ []) (read 8 0x0800_BFFC) p) (0 ∷ 0xFFFF_FFFF_0000_0000 ∷ [])
    -- SNB 4
    ∷ row (answer_after opening (write_cr 0x0001_0022) four) (17 ∷ 0x10 ∷ [])
    ∷ []

-- ---- answers that a wrong part of document 01's "Shut out" and "Where earlier parts went astray" would not give

-- the first byte of main flash is F0; level 0, and level 1 with sector 0 protected
abbrev open_part : Part
open_part = new (0xF0 ∷ replicate 16_383 255) (set erased_options 1 0xAA)

abbrev guarded_part : Part
guarded_part = new (0xF0 ∷ replicate 16_383 255) (set erased_options 8 0xFE)

abbrev pub shut_out : List Example
shut_out =
    -- a read at level 0 gives the cell: not refused, not stalled, not FF
    row (answer_after (reset 0 ∷ []) (read 1 0x0800_0000) open_part) (0 ∷ 0xF0 ∷ [])
    -- a second operation works like the first: F0, 3C, 1F leave 10
    ∷ row
    (answer_after (by_cr 1 ++ write 1 0x0800_0000 0x3C ∷ pass 1000 ∷ write 1 0x0800_0000 0x1F ∷ pass 1000 ∷ [])
    (read 1 0x0800_0000) open_part) (0 ∷ 0x10 ∷ [])
    -- a wait reports the time that passed, and on an idle part none
    ∷ row (answer_after [] (wait 500) (busy 1000)) (0 ∷ 1000 ∷ [])
    ∷ row (answer_after (reset 0 ∷ []) (wait 0) open_part) (0 ∷ 0 ∷ [])
    -- the level is that of the cells: AA pending in OPTCR opens nothing
    ∷ row (answer_after (reset 1 ∷ option_keys ++ write_optcr 0x0FFF_AAEC ∷ []) (read 1 0x0800_0000) guarded_part) (13 ∷ 0 ∷ [])
    -- a protected sector doesn't stop a regression; main flash is FF after it, RDP AA, and nWRP as it was
    ∷ row (answer_after (reset 0 ∷ option_keys) (write_optcr 0x0FFF_AAEE) guarded_part) (0 ∷ 0 ∷ [])
    ∷ row (answer_after regressed (read 1 0x0800_0000) guarded_part) (0 ∷ 0xFF ∷ [])
    ∷ row (answer_after regressed (read 2 0x1FFF_C000) guarded_part) (0 ∷ 0xAAFF ∷ [])
    ∷ row (answer_after regressed (read 2 0x1FFF_C008) guarded_part) (0 ∷ 0xFFFE ∷ [])
    -- the mark stays when the debugger leaves
    ∷ row (answer_after (reset 0 ∷ on ∷ off ∷ []) (read 1 0x0800_0000) guarded_part) (13 ∷ 0 ∷ [])
    -- a second flag leaves the first, and an end without EOPIE raises no EOP
    ∷ row (answer_after (opening ++ write 1 0x0800_0000 0 ∷ write_cr 1 ∷ write 2 0x0800_000F 0 ∷ []) (read 4 0x4002_3C0C) open_part) (0 ∷ 0xA0 ∷ [])
    ∷ row (answer_after (by_cr 1 ++ write 1 0x0800_0000 0 ∷ pass 1000 ∷ []) (read 4 0x4002_3C0C) open_part) (0 ∷ 0 ∷ [])
    -- a malformed call is malformed without power too
    ∷ row (answer_after [] (read_by 2 1 0x0800_0000) open_part) (5 ∷ 0 ∷ [])
    ∷ []
