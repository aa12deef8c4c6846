-- More of document 01 as worked rows: the window, refusal 1 while something runs, and rules that the definitions and the entries of
-- Rules.antt could misread alike. A row has what a call or a window gives, beside what the document says (proofs/Rows.antt).
use Rattle.std.specs.Prelude.{List, [], ◌∷◌, ◌++◌, ℕ, length, get_or, replicate, set}
use Rattle.worked.specs.Bench.{reset, on, off, pass, wait, read, write, write_cr, write_optcr, option_keys, by_cr, by_optcr, regressing, timings}
use Rattle.worked.specs.Bench.{bench, busy_for, answer, answer_after, row, Example}
use Rattle.part.specs.Calls.{after}
use Rattle.part.specs.Reads.{window_of, window_start}
use Rattle.part.specs.State.{Part, with_main, with_otp, with_sram}
use Rattle.part.specs.declared.Call.{Call}

-- the bench part with two sectors: A0 throughout sector 0, A1 throughout sector 1
abbrev two_sectors : ℕ → Part
two_sectors rdp = with_main (bench 0 rdp) (replicate 16_384 0xA0 ++ replicate 16_384 0xA1)

-- ---- windows: how many bytes, from where, and the first, for which 1 stands where there is none

abbrev window_in : List ℕ → Part → ℕ → ℕ → List ℕ
window_in ts p who sector =
    let w = window_of ts p who sector in
    length w ∷ window_start ts p who sector ∷ get_or w 0 1 ∷ []

abbrev window_after : List Call → ℕ → ℕ → ℕ → List ℕ
window_after cs rdp who sector = window_in timings (after timings [] cs (two_sectors rdp)) who sector

abbrev whole : List ℕ
whole = 16_384 ∷ 16_384 ∷ 0xA1 ∷ []

abbrev none : List ℕ
none = 0 ∷ 0 ∷ 1 ∷ []

abbrev pub windows : List Example
windows =
    -- at level 0 the CPU and a connected debugger receive sector 1
    row (window_after (reset 0 ∷ []) 0xAA 0 1) whole
    ∷ row (window_after (reset 0 ∷ on ∷ []) 0xAA 1 1) whole
    -- a debugger that is not connected, or has left, and who 2
    ∷ row (window_after (reset 0 ∷ []) 0xAA 1 1) none
    ∷ row (window_after (reset 0 ∷ on ∷ off ∷ []) 0xAA 1 1) none
    ∷ row (window_after (reset 0 ∷ []) 0xAA 2 1) none
    -- sector 2 of sectors 0 and 1
    ∷ row (window_after (reset 0 ∷ []) 0xAA 0 2) none
    -- without power; busy with an erase of sector 0; when it has ended
    ∷ row (window_after [] 0xAA 0 1) none
    ∷ row (window_after (by_cr 0x0001_0002) 0xAA 0 1) none
    ∷ row (window_after (by_cr 0x0001_0002 ++ pass 1000 ∷ []) 0xAA 0 1) whole
    -- refusal 1: OTP of 527 bytes, SRAM of 4,095; refusal 2: a timing of 0
    ∷ row
    (let p = after timings [] (reset 0 ∷ []) (two_sectors 0xAA) in
    window_in timings (with_otp p (replicate 527 255)) 0 1) none
    ∷ row (window_in timings (with_sram (after timings [] (reset 0 ∷ []) (two_sectors 0xAA)) (replicate 4095 0)) 0 1) none
    ∷ row (window_in (set timings 23 0) (after timings [] (reset 0 ∷ []) (two_sectors 0xAA)) 0 1) none
    -- at levels 1 and 2 the CPU receives it while the mark does not stand
    ∷ row (window_after (reset 0 ∷ []) 0x00 0 1) whole
    ∷ row (window_after (reset 0 ∷ []) 0xCC 0 1) whole
    ∷ row (window_after (reset 1 ∷ []) 0x00 0 1) none
    ∷ row (window_after (reset 0 ∷ on ∷ []) 0x00 0 1) none
    ∷ row (window_after (reset 0 ∷ on ∷ []) 0x00 1 1) none
    ∷ []

-- ---- refusal 1: what began on two sectors meets a call that lends the first alone

abbrev shortened : List Call → ℕ → List ℕ
shortened cs rdp = answer (pass 0) (with_main (after timings [] cs (two_sectors rdp)) (replicate 16_384 0xA0))

abbrev pub lengths : List Example
lengths =
    -- a program of the last byte of sector 0, and of the first of sector 1
    row (shortened (by_cr 1 ++ write 1 0x0800_3FFF 0 ∷ []) 0xAA) (0 ∷ 0 ∷ [])
    ∷ row (shortened (by_cr 1 ++ write 1 0x0800_4000 0 ∷ []) 0xAA) (1 ∷ 0 ∷ [])
    -- an erase of sector 0, and of sector 1
    ∷ row (shortened (by_cr 0x0001_0002) 0xAA) (0 ∷ 0 ∷ [])
    ∷ row (shortened (by_cr 0x0001_000A) 0xAA) (1 ∷ 0 ∷ [])
    -- a mass erase and a regression want the length that they began under; an option change wants none
    ∷ row (shortened (by_cr 0x0001_0004) 0xAA) (1 ∷ 0 ∷ [])
    ∷ row (shortened regressing 0x00) (1 ∷ 0 ∷ [])
    ∷ row (shortened (by_optcr 0x0FFF_00EE) 0x00) (0 ∷ 0 ∷ [])
    ∷ []

-- ---- single rules

abbrev answer_at : List Call → Call → ℕ → List ℕ
answer_at cs c rdp = answer_after cs c (bench 0xF0 rdp)

-- busy with none left, as a host's record may be and no call leaves it
abbrev spent : Part
spent = busy_for 0 (after timings [] (reset 0 ∷ []) (bench 0xF0 0xAA))

abbrev pub rules : List Example
rules =
    -- option cells are open at level 1, with the mark and without; at level 2 they are closed without it too
    row (answer_at (reset 0 ∷ []) (read 2 0x1FFF_C000) 0x00) (0 ∷ 0x00FF ∷ [])
    ∷ row (answer_at (reset 1 ∷ []) (read 2 0x1FFF_C000) 0x00) (0 ∷ 0x00FF ∷ [])
    ∷ row (answer_at (reset 0 ∷ []) (read 2 0x1FFF_C000) 0xCC) (13 ∷ 0 ∷ [])
    -- OTP with the mark: closed at level 1, also where system memory comes first, and open at level 0
    ∷ row (answer_at (reset 1 ∷ []) (read 1 0x1FFF_7800) 0x00) (13 ∷ 0 ∷ [])
    ∷ row (answer_at (reset 1 ∷ []) (read 2 0x1FFF_77FF) 0x00) (13 ∷ 0 ∷ [])
    ∷ row (answer_at (reset 1 ∷ []) (read 2 0x1FFF_77FF) 0xAA) (0 ∷ 0x5AFF ∷ [])
    -- system memory reads FF, with the mark too
    ∷ row (answer_at (reset 1 ∷ []) (read 4 0x1FFF_0000) 0x00) (0 ∷ 0xFFFF_FFFF ∷ [])
    -- the mark at level 1 stops a program and an erase with WRPERR, and not an option change: RDP becomes 55
    ∷ row (answer_at (by_cr 1 ++ on ∷ []) (write 1 0x0800_0000 0) 0x00) (17 ∷ 0x10 ∷ [])
    ∷ row (answer_at (by_cr 0 ++ on ∷ []) (write_cr 0x0001_0002) 0x00) (17 ∷ 0x10 ∷ [])
    ∷ row (answer_at (reset 1 ∷ option_keys) (write_optcr 0x0FFF_55EE) 0x00) (0 ∷ 0 ∷ [])
    ∷ row (answer_at (reset 1 ∷ option_keys ++ write_optcr 0x0FFF_55EE ∷ pass 1000 ∷ []) (read 2 0x1FFF_C000) 0x00) (0 ∷ 0x55FF ∷ [])
    -- STRT with SER and MER together: WRPERR
    ∷ row (answer_at (by_cr 0) (write_cr 0x0001_0006) 0xAA) (17 ∷ 0x10 ∷ [])
    -- 11 before 12: the write that starts an erase sets LOCK too, so CR is locked while busy and after
    ∷ row (answer_at (by_cr 0x8001_0002) (write_cr 0) 0xAA) (11 ∷ 0 ∷ [])
    ∷ row (answer_at (by_cr 0x8001_0002 ++ pass 1000 ∷ []) (write_cr 0) 0xAA) (12 ∷ 0 ∷ [])
    -- KEYR takes no byte
    ∷ row (answer_at (reset 0 ∷ []) (write 1 0x4002_3C04 0x23) 0xAA) (9 ∷ 0 ∷ [])
    -- debugger off is done where none is connected
    ∷ row (answer_at (reset 0 ∷ []) off 0xAA) (0 ∷ 0 ∷ [])
    -- busy with none left: 19, for a time of 0 too
    ∷ row (answer (pass 0) spent) (19 ∷ 0 ∷ [])
    ∷ row (answer (pass 1) spent) (19 ∷ 0 ∷ [])
    ∷ row (answer (wait 0) spent) (19 ∷ 0 ∷ [])
    ∷ row (answer (wait 1) spent) (19 ∷ 0 ∷ [])
    ∷ []
