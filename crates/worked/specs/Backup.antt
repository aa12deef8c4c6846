-- The backup SRAM as worked rows: what calls answer there, beside what document 02 says (proofs/Rows.antt).
use Rattle.std.specs.Prelude.{List, [], ◌∷◌, ◌++◌, ℕ, replicate}
use Rattle.worked.specs.Bench.{reset, on, pass, read, read_by, write, write_by, write_optcr, option_keys, by_cr, by_optcr, regressing, regressed, timings}
use Rattle.worked.specs.Bench.{bench, answer, answer_after, row, Example}
use Rattle.part.specs.Calls.{after}
use Rattle.part.specs.State.{with_sram}
use Rattle.part.specs.declared.Call.{Call}

-- of a call after others on a part whose SRAM has F0 first and then zeros; AA is level 0, CC 2, else 1
abbrev answer_at : List Call → Call → ℕ → List ℕ
answer_at cs c rdp = answer_after cs c (bench 0xF0 rdp)

-- the mark at level 2: a debugger was connected at level 0, and an option change has ended
abbrev marked_at_two : List Call
marked_at_two = reset 0 ∷ on ∷ option_keys ++ write_optcr 0x0FFF_CCEE ∷ pass 1000 ∷ []

abbrev pub backup : List Example
backup =
    -- eight bytes at an odd address are stored at once, and read at any other; the byte before them stays, and so does the one behind
    row (answer_at (reset 0 ∷ []) (write 8 0x4002_4001 0x8877_6655_4433_2211) 0xAA) (0 ∷ 0 ∷ [])
    ∷ row (answer_at (reset 0 ∷ write 8 0x4002_4001 0x8877_6655_4433_2211 ∷ []) (read 4 0x4002_4003) 0xAA) (0 ∷ 0x6655_4433 ∷ [])
    ∷ row (answer_at (reset 0 ∷ write 8 0x4002_4001 0x8877_6655_4433_2211 ∷ []) (read 2 0x4002_4000) 0xAA) (0 ∷ 0x11F0 ∷ [])
    ∷ row (answer_at (reset 0 ∷ write 8 0x4002_4001 0x8877_6655_4433_2211 ∷ []) (read 2 0x4002_4008) 0xAA) (0 ∷ 0x0088 ∷ [])
    -- a byte is replaced, where flash would keep its zeros: F0, and then 3C
    ∷ row (answer_at (reset 0 ∷ write 1 0x4002_4000 0x3C ∷ []) (read 1 0x4002_4000) 0xAA) (0 ∷ 0x3C ∷ [])
    -- its first and its last byte; one before, and one past its end, not the first again
    ∷ row (answer_at (reset 0 ∷ []) (read 1 0x4002_4000) 0xAA) (0 ∷ 0xF0 ∷ [])
    ∷ row (answer_at (reset 0 ∷ []) (read 1 0x4002_4FFF) 0xAA) (0 ∷ 0 ∷ [])
    ∷ row (answer_at (reset 0 ∷ []) (read 2 0x4002_3FFF) 0xAA) (7 ∷ 0 ∷ [])
    ∷ row (answer_at (reset 0 ∷ []) (read 2 0x4002_4FFF) 0xAA) (7 ∷ 0 ∷ [])
    ∷ row (answer_at (reset 0 ∷ []) (write 8 0x4002_4FFC 0) 0xAA) (7 ∷ 0 ∷ [])
    -- the debugger's accesses, while it is connected
    ∷ row (answer_at (reset 0 ∷ on ∷ write_by 1 2 0x4002_4000 0xA5C3 ∷ []) (read_by 1 2 0x4002_4000) 0xAA) (0 ∷ 0xA5C3 ∷ [])
    ∷ row (answer_at (reset 0 ∷ []) (write_by 1 2 0x4002_4000 0xA5C3) 0xAA) (15 ∷ 0 ∷ [])
    -- an erase runs: both go on, where main flash stalls; and no flag rises without PG
    ∷ row (answer_at (by_cr 0x0001_0002) (write 4 0x4002_4000 1) 0xAA) (0 ∷ 0 ∷ [])
    ∷ row (answer_at (by_cr 0x0001_0002 ++ write 4 0x4002_4000 1 ∷ []) (read 4 0x4002_4000) 0xAA) (0 ∷ 1 ∷ [])
    ∷ row (answer_at (by_cr 0x0001_0002) (read 1 0x0800_0000) 0xAA) (11 ∷ 0 ∷ [])
    ∷ row (answer_at (reset 0 ∷ write 4 0x4002_400E 1 ∷ []) (read 4 0x4002_3C0C) 0xAA) (0 ∷ 0 ∷ [])
    -- the mark at level 1 closes both; the write stores nothing and raises nothing, with ERRIE set too
    ∷ row (answer_at (reset 1 ∷ []) (read 1 0x4002_4000) 0x00) (13 ∷ 0 ∷ [])
    ∷ row (answer_at (reset 1 ∷ []) (write 1 0x4002_4000 0x3C) 0x00) (13 ∷ 0 ∷ [])
    ∷ row (answer_at (reset 1 ∷ write 1 0x4002_4000 0x3C ∷ reset 0 ∷ []) (read 1 0x4002_4000) 0x00) (0 ∷ 0xF0 ∷ [])
    ∷ row (answer_at (by_cr 0x0200_0000 ++ on ∷ write 1 0x4002_4000 0x3C ∷ []) (read 4 0x4002_3C0C) 0x00) (0 ∷ 0 ∷ [])
    -- at level 2 it does so too; without the mark both are open at each level, and with it at level 0
    ∷ row (answer_at marked_at_two (read 1 0x4002_4000) 0xAA) (13 ∷ 0 ∷ [])
    ∷ row (answer_at marked_at_two (write 1 0x4002_4000 0x3C) 0xAA) (13 ∷ 0 ∷ [])
    ∷ row (answer_at (reset 0 ∷ []) (write 1 0x4002_4000 0x3C) 0x00) (0 ∷ 0 ∷ [])
    ∷ row (answer_at (reset 0 ∷ []) (read 1 0x4002_4000) 0xCC) (0 ∷ 0xF0 ∷ [])
    ∷ row (answer_at (reset 1 ∷ []) (read 1 0x4002_4000) 0xAA) (0 ∷ 0xF0 ∷ [])
    -- the order 5, 10, 15, 7, 13
    ∷ row (answer_at [] (read 3 0x4002_4000) 0x00) (5 ∷ 0 ∷ [])
    ∷ row (answer_at [] (read_by 1 1 0x4002_4000) 0x00) (10 ∷ 0 ∷ [])
    ∷ row (answer_at (reset 1 ∷ []) (read_by 1 2 0x4002_4FFF) 0x00) (15 ∷ 0 ∷ [])
    ∷ row (answer_at (reset 1 ∷ []) (read 2 0x4002_4FFF) 0x00) (7 ∷ 0 ∷ [])
    -- a reset keeps it, and so do a mass erase and an option change
    ∷ row (answer_at (reset 0 ∷ write 2 0x4002_4010 0xA5C3 ∷ reset 0 ∷ []) (read 2 0x4002_4010) 0x00) (0 ∷ 0xA5C3 ∷ [])
    ∷ row (answer_at (by_cr 0x0001_0004 ++ pass 1000 ∷ []) (read 1 0x4002_4000) 0xAA) (0 ∷ 0xF0 ∷ [])
    ∷ row (answer_at (by_optcr 0x0FFF_55EE ++ pass 1000 ∷ []) (read 1 0x4002_4000) 0x00) (0 ∷ 0xF0 ∷ [])
    -- a regression sets it to zero at its last microsecond, what was written while it ran too
    ∷ row (answer_at (regressing ++ write 1 0x4002_4FFF 0x3C ∷ pass 1999 ∷ []) (read 1 0x4002_4FFF) 0x00) (0 ∷ 0x3C ∷ [])
    ∷ row (answer_at (regressing ++ write 1 0x4002_4FFF 0x3C ∷ pass 1999 ∷ pass 1 ∷ []) (read 1 0x4002_4FFF) 0x00) (0 ∷ 0 ∷ [])
    ∷ row (answer_at regressed (read 1 0x4002_4000) 0x00) (0 ∷ 0 ∷ [])
    -- a part with a byte less of it, and with one more
    ∷ row (answer (pass 0) (with_sram (after timings [] (reset 0 ∷ []) (bench 0xF0 0xAA)) (replicate 4095 0))) (1 ∷ 0 ∷ [])
    ∷ row (answer (pass 0) (with_sram (after timings [] (reset 0 ∷ []) (bench 0xF0 0xAA)) (replicate 4097 0))) (1 ∷ 0 ∷ [])
    ∷ []
