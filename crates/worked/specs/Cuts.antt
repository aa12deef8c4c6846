-- Power lost in an operation as worked rows: what a reset answers and leaves while one runs, beside what document 02 says (proofs/Rows.antt).
use Rattle.std.specs.Prelude.{List, [], ◌∷◌, ◌++◌, ℕ, get_or, replicate, set}
use Rattle.worked.specs.Bench.{reset, on, pass, read, read_by, write, write_optcr, option_keys, by_cr, by_optcr, regressing, timings, bench, busy_for, answer}
use Rattle.worked.specs.Bench.{row, Example}
use Rattle.part.specs.Calls.{step, after}
use Rattle.part.specs.Registers.{sr_of, optcr_of}
use Rattle.part.specs.State.{Part, with_main, code_of}
use Rattle.part.specs.declared.Call.{Call}

-- ---- a reset with scrap, after calls

abbrev cut_with : List Call → List ℕ → ℕ → Part → Part
cut_with cs scrap boot p = (step timings scrap (reset boot) (after timings [] cs p)).part

abbrev code_with : List Call → List ℕ → ℕ → Part → ℕ
code_with cs scrap boot p = code_of (step timings scrap (reset boot) (after timings [] cs p)).answer

-- so many bytes of scrap, the first ones as they are given
abbrev scraps : List ℕ → ℕ → List ℕ
scraps first n = first ++ replicate n 0x22

-- the bytes at some places
abbrev bytes_at : List ℕ → List ℕ → List ℕ
bytes_at s [] = []
bytes_at s (i ∷ is) = get_or s i 1 ∷ bytes_at s is

-- two sectors, A0 throughout
abbrev two_sectors : Part
two_sectors = with_main (bench 0 0xAA) (replicate 32_768 0xA0)

-- an erase of sector 1, with EOPIE set; all of main flash
abbrev erasing : List Call
erasing = by_cr 0x0101_000A

-- OPTCR: level 0 to level 1, USER's bits 1, nWRP A5C
abbrev changing : List Call
changing = by_optcr 0x0A5C_55EE

-- scrap for USER, RDP and the two bytes of nWRP; 0 for the unused cells between them
abbrev thirds : ℕ → ℕ → ℕ → ℕ → List ℕ
thirds user rdp low high = set (set (set (set (replicate 16 0) 0 user) 1 rdp) 8 low) 9 high

abbrev used : List ℕ → List ℕ
used options = bytes_at options (0 ∷ 1 ∷ 8 ∷ 9 ∷ 15 ∷ [])

abbrev pub cuts : List Example
cuts =
    -- sector 1 takes scrap from its own first byte on; the byte before it stays
    row (bytes_at (cut_with erasing (scraps (0x11 ∷ []) 16_383) 0 two_sectors).main (16_383 ∷ 16_384 ∷ 16_385 ∷ 32_767 ∷ [])) (0xA0 ∷ 0x11 ∷ 0x22 ∷ 0x22 ∷ [])
    -- no EOP, and nothing runs
    ∷ row (sr_of (cut_with erasing (scraps [] 16_384) 0 two_sectors).rec ∷ []) (0 ∷ [])
    -- one byte of scrap too few: 21, and the erase goes on to its end; one more than wanted is not looked at
    ∷ row (code_with erasing (scraps [] 16_383) 0 two_sectors ∷ code_with erasing (scraps [] 16_385) 0 two_sectors ∷ []) (21 ∷ 0 ∷ [])
    ∷ row
    (let p = cut_with erasing (scraps [] 16_383) 0 two_sectors in
    sr_of p.rec ∷ get_or p.main 16_384 1 ∷ get_or (after timings [] (pass 1000 ∷ []) p).main 16_384 1 ∷ []) (0x0001_0000 ∷ 0xA0 ∷ 0xFF ∷ [])
    -- a mass erase wants as many bytes as there are of main flash
    ∷ row (code_with (by_cr 0x0001_0004) (scraps [] 32_767) 0 two_sectors ∷ code_with (by_cr 0x0001_0004) (scraps [] 32_768) 0 two_sectors ∷ []) (21 ∷ 0 ∷ [])
    ∷ row (bytes_at (cut_with (by_cr 0x0001_0004) (scraps (0x11 ∷ []) 32_767) 0 two_sectors).main (0 ∷ 1 ∷ 32_767 ∷ [])) (0x11 ∷ 0x22 ∷ 0x22 ∷ [])
    -- F0 FF programmed with 3C 0F: old AND (written OR scrap); no scrap sets a bit, and the byte behind stays
    ∷ row (bytes_at (cut_with (by_cr 0x101 ++ write 2 0x0800_0000 0x0F3C ∷ []) (0x03 ∷ 0xF0 ∷ []) 0 (bench 0xF0 0xAA)).main (0 ∷ 1 ∷ 2 ∷ []))
    (0x30 ∷ 0xFF ∷ 0xFF ∷ [])
    ∷ row (bytes_at (cut_with (by_cr 0x101 ++ write 2 0x0800_0000 0x0F3C ∷ []) (0xFF ∷ 0x00 ∷ []) 0 (bench 0xF0 0xAA)).main (0 ∷ 1 ∷ 2 ∷ []))
    (0xF0 ∷ 0x0F ∷ 0xFF ∷ [])
    -- two bytes are written, so one of scrap is too few
    ∷ row (code_with (by_cr 0x101 ++ write 2 0x0800_0000 0x0F3C ∷ []) (0xFF ∷ []) 0 (bench 0xF0 0xAA) ∷ []) (21 ∷ [])
    -- 5A in OTP programmed with 0F, and 10 spared
    ∷ row (bytes_at (cut_with (by_cr 1 ++ write 1 0x1FFF_7800 0x0F ∷ []) (0x10 ∷ []) 0 (bench 0xF0 0xAA)).otp (0 ∷ 1 ∷ [])) (0x1A ∷ 0xFF ∷ [])
    -- option cells by remainders 0, 2, 1, 2: old, new, FF, new; OPTCR loads from them
    ∷ row (used (cut_with changing (thirds 0 2 4 5) 0 (bench 0xF0 0xAA)).options) (0xFF ∷ 0x55 ∷ 0xFF ∷ 0xFA ∷ 0xFF ∷ [])
    ∷ row (optcr_of (cut_with changing (thirds 0 2 4 5) 0 (bench 0xF0 0xAA)).rec ∷ []) (0x0AFF_55ED ∷ [])
    -- RDP old, FF, and nWRP's low byte new
    ∷ row (used (cut_with changing (thirds 0 3 8 0) 0 (bench 0xF0 0xAA)).options) (0xFF ∷ 0xAA ∷ 0x5C ∷ 0xFF ∷ 0xFF ∷ [])
    ∷ row (used (cut_with changing (thirds 0 0xFE 0 0) 0 (bench 0xF0 0xAA)).options) (0xFF ∷ 0x55 ∷ 0xFF ∷ 0xFF ∷ 0xFF ∷ [])
    ∷ row (used (cut_with changing (thirds 0 1 0 0) 0 (bench 0xF0 0xAA)).options) (0xFF ∷ 0xFF ∷ 0xFF ∷ 0xFF ∷ 0xFF ∷ [])
    ∷ row (code_with changing (replicate 15 0) 0 (bench 0xF0 0xAA) ∷ code_with changing (replicate 16 0) 0 (bench 0xF0 0xAA) ∷ []) (21 ∷ 0 ∷ [])
    -- a regression with 1,001 of its 2,000 microseconds left erases main flash: option cells and SRAM stay
    ∷ row
    (let p = cut_with (regressing ++ pass 999 ∷ []) (scraps (0x11 ∷ 0x02 ∷ []) 16_382) 0 (bench 0xF0 0x00) in
    get_or p.main 0 1 ∷ get_or p.main 16_383 1 ∷ get_or p.options 1 1 ∷ get_or p.sram 0 1 ∷ []) (0x11 ∷ 0x22 ∷ 0x00 ∷ 0xF0 ∷ [])
    ∷ row (code_with (regressing ++ pass 999 ∷ []) (scraps [] 16_383) 0 (bench 0xF0 0x00) ∷ []) (21 ∷ [])
    -- with 1,000 left main flash is FF, the SRAM 00, and RDP old, FF or AA
    ∷ row
    (let p = cut_with (regressing ++ pass 1000 ∷ []) (thirds 0 0 0 0) 0 (bench 0xF0 0x00) in
    get_or p.main 0 1 ∷ get_or p.options 1 1 ∷ get_or p.sram 0 1 ∷ []) (0xFF ∷ 0x00 ∷ 0x00 ∷ [])
    ∷ row (used (cut_with (regressing ++ pass 1000 ∷ []) (thirds 0 1 0 0) 0 (bench 0xF0 0x00)).options) (0xFF ∷ 0xFF ∷ 0xFF ∷ 0xFF ∷ 0xFF ∷ [])
    ∷ row
    (let p = cut_with (regressing ++ pass 1999 ∷ []) (thirds 0 2 0 0) 0 (bench 0xF0 0x00) in
    get_or p.main 0 1 ∷ get_or p.options 1 1 ∷ get_or p.sram 0 1 ∷ []) (0xFF ∷ 0xAA ∷ 0x00 ∷ [])
    ∷ row (code_with (regressing ++ pass 1000 ∷ []) (replicate 15 0) 0 (bench 0xF0 0x00) ∷ []) (21 ∷ [])
    -- the change to level 2 is cut with a debugger connected: it has left, and its mark closes main flash until the next reset
    ∷ row
    (let p = cut_with (reset 0 ∷ on ∷ option_keys ++ write_optcr 0x0FFF_CCEE ∷ []) (thirds 0 2 0 0) 0 (bench 0xF0 0xAA) in
    answer (read_by 1 4 0x4002_3C0C) p ++ answer (read 1 0x0800_0000) p ++ answer (read 1 0x0800_0000) (after timings [] (reset 0 ∷ []) p))
    (15 ∷ 0 ∷ 13 ∷ 0 ∷ 0 ∷ 0xF0 ∷ [])
    -- 16 by the level before the cut: another boot is done at level 0, and refused at level 2 before 21 is asked for
    ∷ row (code_with (by_optcr 0x0FFF_CCEE) (thirds 0 2 0 0) 1 (bench 0xF0 0xAA) ∷ []) (0 ∷ [])
    ∷ row
    (let p = busy_for 500 (after timings [] (reset 0 ∷ []) (bench 0xF0 0xCC)) in
    code_with [] [] 1 p ∷ code_with [] [] 0 p ∷ []) (16 ∷ 21 ∷ [])
    -- where nothing runs no scrap is wanted
    ∷ row (code_with (reset 0 ∷ []) [] 2 (bench 0xF0 0xAA) ∷ []) (0 ∷ [])
    ∷ []
